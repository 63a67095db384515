-- What single steps of reading tell of the tokens, where they do not fail.
use Rattle.std.proofs.Common.{◌≡◌, ℕ, ◌<◌, ◌^◌, Bool, true, false, List, [], ◌∷◌, Option, Some, None, ◌⊎◌, inl, inr, refl, ap, ◌∙◌, arith}
use Rattle.std.specs.Prelude.{◌&&◌, if◌then◌else◌}
use Rattle.std.specs.Option.{option_map, option_map_or}
use Rattle.std.specs.Str.{bytes_eq}
use Rattle.std.specs.Str.Parse.{digits_value}
use Rattle.std.proofs.lemmas.Bool.Decides.{nat_tests}
use Rattle.std.proofs.lemmas.Slice.Eq.{bytes_eq-Decides}
use Rattle.uts_lex.specs.declared.token.Kind.{Kind}
use Rattle.uts_lex.specs.declared.token.Kind.TheVariants.{Word, Number, Sign}
use Rattle.uts_lex.specs.Lexemes.{Lexeme, lexeme, is_number}
use Rattle.kernel_parse.specs.Signs.{word, number, sign, is_word_kind, is_number_kind, is_kind, is_lexeme, is_word, is_sign, is_reserved}
use Rattle.kernel_parse.specs.Reading.{◌>>=◌, behind, behind_sign, number_of_token, name_of_token, first_as}
use Rattle.kernel_parse.specs.Numbers.{number_is_decimal}

pub bind_some : {A B : Type 0} (r : Option A) (f : A → Option B) (y : B) → (r >>= f) ≡ Some y → (x : A) × (r ≡ Some x) × (f x ≡ Some y)
bind_some None f y e = absurd cc
bind_some (Some x) f y e = (x, refl, e)

-- the branch that was taken
pub branch_some : {A B : Type 0} (f : A → Option B) (o : Option A) (d : Option B) (y : B) → option_map_or f o d ≡ Some y
    → ((x : A) × (o ≡ Some x) × (f x ≡ Some y)) ⊎ ((o ≡ None) × (d ≡ Some y))
branch_some f None d y e = inr (refl, e)
branch_some f (Some x) d y e = inl (x, refl, e)

pub test_some : {A : Type 0} (b : Bool) (x y : A) → (if b then Some x else None) ≡ Some y → (b ≡ true) × (x ≡ y)
test_some true x y e = (refl, cc)
test_some false x y e = absurd cc

pub both : (a b : Bool) → (a && b) ≡ true → (a ≡ true) × (b ≡ true)
both true b e = (refl, e)
both false b e = absurd cc

-- ---- tokens

kind_is : (kind other : Kind) → is_kind kind other ≡ true → other ≡ kind
kind_is Word Word e = refl
kind_is Word Number e = absurd cc
kind_is Word Sign e = absurd cc
kind_is Number Word e = absurd cc
kind_is Number Number e = refl
kind_is Number Sign e = absurd cc
kind_is Sign Word e = absurd cc
kind_is Sign Number e = absurd cc
kind_is Sign Sign e = refl

lexeme_is : (t : Lexeme) (kind : Kind) (bytes : List ℕ) → t.kind ≡ kind → t.bytes ≡ bytes → t ≡ lexeme kind bytes
lexeme_is t kind bytes k b = let e : lexeme t.kind t.bytes ≡ lexeme kind bytes = cc in e

same_bytes : (a b : List ℕ) → bytes_eq a b ≡ true → a ≡ b
same_bytes a b e = grind (arith, nat_tests, bytes_eq-Decides)

pub is_lexeme_true : (kind : Kind) (bytes : List ℕ) (t : Lexeme) → is_lexeme kind bytes t ≡ true → t ≡ lexeme kind bytes
is_lexeme_true kind bytes t e = let p = both _ _ e in lexeme_is t kind bytes (kind_is kind t.kind p.0) (same_bytes t.bytes bytes p.1)

pub is_sign_true : (bytes : List ℕ) (t : Lexeme) → is_sign bytes t ≡ true → t ≡ sign bytes
is_sign_true bytes t e = is_lexeme_true Sign bytes t e

pub is_word_true : (bytes : List ℕ) (t : Lexeme) → is_word bytes t ≡ true → t ≡ word bytes
is_word_true bytes t e = is_lexeme_true Word bytes t e

pub behind_some : (test : Lexeme → Bool) (ts rest : List Lexeme) → behind test ts ≡ Some rest → (t : Lexeme) × (ts ≡ t ∷ rest) × (test t ≡ true)
behind_some test [] rest e = absurd cc
behind_some test (t ∷ ts) rest e = let p = test_some (test t) ts rest e in (t, ap (λ (r : List Lexeme). t ∷ r) p.1, p.0)

pub behind_sign_some : (bytes : List ℕ) (ts rest : List Lexeme) → behind_sign bytes ts ≡ Some rest → ts ≡ sign bytes ∷ rest
behind_sign_some bytes ts rest e = let p = behind_some (is_sign bytes) ts rest e in p.1 ∙ ap (λ (t : Lexeme). t ∷ rest) (is_sign_true bytes p.0 p.2)

pub behind_word_some : (bytes : List ℕ) (ts rest : List Lexeme) → behind (is_word bytes) ts ≡ Some rest → ts ≡ word bytes ∷ rest
behind_word_some bytes ts rest e = let p = behind_some (is_word bytes) ts rest e in p.1 ∙ ap (λ (t : Lexeme). t ∷ rest) (is_word_true bytes p.0 p.2)

pub map_some : {A B : Type 0} (f : A → B) (o : Option A) (y : B) → option_map f o ≡ Some y → (x : A) × (o ≡ Some x) × (f x ≡ y)
map_some f None y e = absurd cc
map_some f (Some x) y e = (x, refl, cc)

pub first_as_some : {A : Type 0} (meaning : Lexeme → Option A) (ts : List Lexeme) (a : A) (rest : List Lexeme) → first_as meaning ts ≡ Some (a, rest)
    → (t : Lexeme) × (ts ≡ t ∷ rest) × (meaning t ≡ Some a)
first_as_some meaning [] a rest e = absurd cc
first_as_some {A} meaning (t ∷ ts) a rest e =
    let p = map_some (λ (x : A). (x, ts)) (meaning t) (a, rest) e in
    (t, ap (λ (r : A × List Lexeme). t ∷ r.1) p.2, p.1 ∙ ap (λ (r : A × List Lexeme). Some r.0) p.2)

pub number_some : (t : Lexeme) (n : ℕ) → number_of_token t ≡ Some n → (t ≡ number n) × (n < 2 ^ 64)
number_some t n e =
    let p = test_some (is_number_kind t.kind && is_number t.bytes) (digits_value 10 t.bytes) n e in
    let q = both _ _ p.0 in
    let d = number_is_decimal t.bytes q.1 in
    (rw (← p.1) (lexeme_is t Number _ (kind_is Number t.kind q.0) d.1), rw (← p.1) d.0)

name_in : (kind : Kind) (bytes name : List ℕ) (b : Bool) → (if is_word_kind kind then (if b then None else Some bytes) else None) ≡ Some name → (kind ≡ Word) × (b ≡ false) × (bytes ≡ name)
name_in Word bytes name true e = absurd cc
name_in Word bytes name false e = (refl, refl, cc)
name_in Number bytes name b e = absurd cc
name_in Sign bytes name b e = absurd cc

pub name_some : (t : Lexeme) (name : List ℕ) → name_of_token t ≡ Some name → (t ≡ word name) × (is_reserved name ≡ false)
name_some t name e =
    let p = name_in t.kind t.bytes name (is_reserved t.bytes) e in
    (lexeme_is t Word name p.0 p.2, rw (← p.2) p.1)
