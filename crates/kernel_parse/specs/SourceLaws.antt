-- The tokens of a text as the code keeps them, and the words that are named.
use Rattle.std.proofs.Common.{◌≡◌, ℕ, ◌+◌, ◌≤◌, Bool, true, false, List, [], ◌∷◌, ◌++◌, length, refl, sym, ap, ◌∙◌, subst, append_assoc, arith}
use Rattle.std.specs.Prelude.{All, cond}
use Rattle.std.specs.List.{list_any}
use Rattle.std.specs.Str.{bytes_eq}
use Rattle.std.proofs.lemmas.List.{append-nil, length-append}
use Rattle.std.proofs.lemmas.List.Elements.{All-tail}
use Rattle.uts_lex.specs.declared.token.Token.{Token}
use Rattle.uts_lex.specs.Names.{with_name}
use Rattle.kernel_parse.specs.Grammar.{Words}
use Rattle.kernel_parse.specs.Source.{LiesIn, IsBehind, Extends}

-- behind the first token
pub IsBehind_first : (text : List ℕ) (tokens : List Token) (first : Token) (rest : List Token) → tokens ≡ first ∷ rest → All (LiesIn text) tokens → IsBehind text tokens rest
IsBehind_first text tokens first rest is all = record {
  inside = All-tail (LiesIn text) first rest (subst (All (LiesIn text)) is all);
  shorter = omega (arith, ap length is);
}

pub IsBehind_trans : (text : List ℕ) (a b c : List Token) → IsBehind text a b → IsBehind text b c → IsBehind text a c
IsBehind_trans text a b c first second = record { inside = second.inside; shorter = omega arith }

-- names that are kept
pub Extends_refl : (names : Words) → Extends names names
Extends_refl names = record { more = []; words = sym (append-nil names) }

pub Extends_trans : (a b c : Words) → Extends a b → Extends b c → Extends a c
Extends_trans a b c first second = record { more = first.more ++ second.more; words = second.words ∙ ap (λ (w : Words). w ++ second.more) first.words ∙ append_assoc a first.more second.more }

pub Extends_with_name : (names : Words) (word : List ℕ) → Extends names (with_name names word)
Extends_with_name names word = by (list_any (bytes_eq word) names)
  where
    by : (b : Bool) → Extends names (cond b names (names ++ word ∷ []))
    by true = Extends_refl names
    by false = record { more = word ∷ []; words = refl }

pub length_with_name : (names : Words) (word : List ℕ) → length (with_name names word) ≤ length names + 1
length_with_name names word = by (list_any (bytes_eq word) names)
  where
    by : (b : Bool) → length (cond b names (names ++ word ∷ [])) ≤ length names + 1
    by true = omega arith
    by false = omega (arith, length-append names (word ∷ []))

-- what holds of the words behind a name
pub ruleset kept_words = (Extends_refl, Extends_trans, Extends_with_name, length_with_name)
