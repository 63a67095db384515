-- Distinct words, one after another, and a set of those so far.
use Rattle.std.proofs.Common.{◌≡◌, ◌≢◌, ℕ, ◌+◌, ◌<◌, Bool, true, false, not, cond, ◌||◌, refl, sym, subst, ◌∙◌, arith, List, [], ◌∷◌, ◌++◌, length, get_or, take, AllPairs}
use Rattle.std.specs.BTreeSet.{BTreeSet, contains_by, Updates}
use Rattle.std.specs.Cmp.Lexicographic.{slice_cmp}
use Rattle.std.specs.List.{list_any}
use Rattle.std.specs.Ordering.{nat_cmp, is_eq}
use Rattle.std.specs.Str.{bytes_eq}
use Rattle.std.proofs.lemmas.Bool.{false≢true}
use Rattle.std.proofs.lemmas.List.{take_more, get_or-take, get_or_default, length-take}
use Rattle.std.proofs.lemmas.List.Folds.{list_any_at, list_any_more, Any-from_list_any}
use Rattle.std.proofs.lemmas.List.Quantifiers.{all_pairs_push}
use Rattle.std.proofs.lemmas.Map.Text.{is_eq-slice_cmp}
use Rattle.std.proofs.lemmas.Slice.Eq.{bytes_eq-Decides}
use Rattle.kernel_parse.specs.Grammar.{Words}
use denote.Ref.{Bor}

abbrev pub Slice : Type 0
Slice = Bor (List ℕ)

-- whether the set has the word
abbrev pub has_word : BTreeSet Slice → List ℕ → Bool
has_word seen word = contains_by (λ (k : Slice). slice_cmp nat_cmp word k.now) seen

-- whether the word is among some words
abbrev pub is_among : Words → List ℕ → Bool
is_among words word = list_any (λ (one : List ℕ). bytes_eq one word) words

-- The words are distinct, and the set has these and no others.
pub record HasSeen (seen : BTreeSet Slice) (words : Words) : Type 0 where
  pub distinct : AllPairs ◌≢◌ words
  pub has : (word : List ℕ) → has_word seen word ≡ is_among words word

same_word : (word : List ℕ) → bytes_eq word word ≡ true
same_word word = (bytes_eq-Decides word word).1 refl

is_not : (a b : Bool) → a ≡ not b → b ≡ not a
is_not true true e = e
is_not true false e = refl
is_not false true e = refl
is_not false false e = e

either : (p q : Bool) → cond p true q ≡ (q || p)
either true true = refl
either true false = refl
either false true = refl
either false false = refl

module _ (names : Words) (i : ℕ) (key : Slice) (seen : BTreeSet Slice) (lt : i < length names) (is : key.now ≡ get_or names i key.now) (before : HasSeen seen (take i names)) where
  -- one more word that is not among those before
  pub seen_more : (new : BTreeSet Slice) → true ≡ not (has_word seen key.now) → Updates (λ (x y : Slice). slice_cmp nat_cmp x.now y.now) seen new key true
      → HasSeen new (take (i + 1) names)
  seen_more new fresh updates =
      let more : take (i + 1) names ≡ take i names ++ key.now ∷ [] = take_more names i key.now lt ∙ (rw (← is) refl) in
      let absent : is_among (take i names) key.now ≡ false = sym (before.has key.now) ∙ is_not true _ fresh in
      record {
        distinct = subst (AllPairs ◌≢◌) (sym more)
            (all_pairs_push ◌≢◌ (take i names) key.now before.distinct
            (λ k d inside same. false≢true (sym absent ∙ list_any_at (λ (one : List ℕ). bytes_eq one key.now) (take i names) k d inside
            (rw same (same_word key.now)))));
        has = λ word.
            let q : Slice = record { ref_ptr = (0, 0); now = word } in
            let here : has_word new word ≡ cond (is_eq (slice_cmp nat_cmp key.now word)) true (has_word seen word) = updates.0 q in
            let last : get_or names i key.now ≡ key.now = sym is in
            here ∙ rw (is_eq-slice_cmp key.now word, before.has word, list_any_more (λ (one : List ℕ). bytes_eq one word) names i key.now lt, last)
            (either (bytes_eq key.now word) (is_among (take i names) word));
      }

  -- a word that is among those before
  pub not_distinct : false ≡ not (has_word seen key.now) → AllPairs ◌≢◌ names → ⊥
  not_distinct old distinct =
      let found = Any-from_list_any (λ (one : List ℕ). bytes_eq one key.now) (take i names) (sym (before.has key.now) ∙ is_not false _ old) in
      let k = found.0 in
      let x = found.1 in
      let within = found.2 in
      let below : k < i = omega (arith, length-take i names) in
      let same : x ≡ key.now = (bytes_eq-Decides x key.now).0 found.4 in
      distinct k i x below lt
      ((sym (get_or-take i names k x below) ∙ found.3) ∙ (same ∙ (is ∙ get_or_default names i key.now x lt)))
