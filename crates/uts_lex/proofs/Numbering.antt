-- The number of a word among names.
use Rattle.std.proofs.Common.{◌≡◌, ◌≢◌, ℕ, suc, ◌+◌, Bool, true, false, cond, not, ◌||◌, List, [], ◌∷◌, ◌++◌, get_or, slice_get, Some, position, AllPairs, Vec, refl, ap, sym, ◌∙◌, arith}
use Rattle.std.specs.List.{list_any, position_or_len}
use Rattle.std.specs.Str.{bytes_eq}
use Rattle.std.proofs.lemmas.Bool.{false≢true}
use Rattle.std.proofs.lemmas.List.{map_push}
use Rattle.std.proofs.lemmas.List.Folds.{list_any_at}
use Rattle.std.proofs.lemmas.List.Quantifiers.{all_pairs_push}
use Rattle.std.proofs.lemmas.Option.{cond_some}
use Rattle.std.proofs.lemmas.Slice.Eq.{bytes_eq-Decides}
use Rattle.indexmap.specs.IndexSet.{insert_key}
use Rattle.uts_lex.specs.Names.{with_name, number_of}
use Rattle.uts_lex.specs.Words.{words_of}

-- a key is found by its bytes
any_word : {A : Type 0} (word : List ℕ) (keys : List (Vec ℕ A)) → list_any (λ key. bytes_eq word key.items) keys ≡ list_any (bytes_eq word) (words_of keys)
any_word word [] = refl
any_word word (key ∷ keys) = ap (λ more. bytes_eq word key.items || more) (any_word word keys)

place_of_word : {A : Type 0} (word : List ℕ) (keys : List (Vec ℕ A)) → position_or_len (λ key. bytes_eq word key.items) keys ≡ number_of (words_of keys) word
place_of_word word [] = refl
place_of_word word (key ∷ keys) = ap (λ more. cond (not (bytes_eq word key.items)) (1 + more) 0) (place_of_word word keys)

pub number_found : {A : Type 0} (word : List ℕ) (keys : List (Vec ℕ A)) (place : ℕ) → Some place ≡ position (λ key. bytes_eq word key.items) keys → place ≡ number_of (words_of keys) word
number_found word keys place found = sym (cond_some _ _ _ (sym found)).1 ∙ place_of_word word keys

pub number_new : {A : Type 0} (word : List ℕ) (key : Vec ℕ A) (keys : List (Vec ℕ A)) → key.items ≡ word → position_or_len (λ other. bytes_eq key.items other.items) keys ≡ number_of (words_of keys) word
number_new word key keys is = ap (λ bytes. position_or_len (λ (other : Vec ℕ _). bytes_eq bytes other.items) keys) is ∙ place_of_word word keys

put : {A : Type 0} (there : Bool) (keys : List (Vec ℕ A)) (key : Vec ℕ A) → words_of (cond there keys (keys ++ key ∷ [])) ≡ cond there (words_of keys) (words_of keys ++ key.items ∷ [])
put true keys key = refl
put false keys key = map_push (λ (word : Vec ℕ _). word.items) keys key

pub words_with_name : {A : Type 0} (word : List ℕ) (key : Vec ℕ A) (keys : List (Vec ℕ A)) → key.items ≡ word → words_of (insert_key (λ x y. bytes_eq x.items y.items) keys key) ≡ with_name (words_of keys) word
words_with_name word key keys is =
    put (list_any (λ other. bytes_eq key.items other.items) keys) keys key
    ∙ ap (λ there. cond there (words_of keys) (words_of keys ++ key.items ∷ [])) (any_word key.items keys)
    ∙ ap (with_name (words_of keys)) is

-- with the word behind the names, its number leads to it
at_number : (names : List (List ℕ)) (word : List ℕ) → slice_get (names ++ word ∷ []) (number_of names word) ≡ Some word
at_number [] word = refl
at_number (name ∷ names) word = by (bytes_eq word name) refl (at_number names word)
  where
    by : (same : Bool) → bytes_eq word name ≡ same → slice_get (names ++ word ∷ []) (number_of names word) ≡ Some word
        → slice_get (name ∷ names ++ word ∷ []) (cond (not same) (1 + number_of names word) 0) ≡ Some word
    by true same more = ap Some (sym ((bytes_eq-Decides word name).0 same))
    by false other more = let next : 1 + number_of names word ≡ suc (number_of names word) = omega arith in rw next more

-- and it leads to the word among names that have it
at_found : (names : List (List ℕ)) (word : List ℕ) → list_any (bytes_eq word) names ≡ true → slice_get names (number_of names word) ≡ Some word
at_found [] word there = absurd (false≢true there)
at_found (name ∷ names) word there = by (bytes_eq word name) refl there (at_found names word)
  where
    by : (same : Bool) → bytes_eq word name ≡ same → (same || list_any (bytes_eq word) names) ≡ true → (list_any (bytes_eq word) names ≡ true → slice_get names (number_of names word) ≡ Some word)
        → slice_get (name ∷ names) (cond (not same) (1 + number_of names word) 0) ≡ Some word
    by true same there more = ap Some (sym ((bytes_eq-Decides word name).0 same))
    by false other there more = let next : 1 + number_of names word ≡ suc (number_of names word) = omega arith in rw next (more there)

pub word_at_number : (names : List (List ℕ)) (word : List ℕ) → slice_get (with_name names word) (number_of names word) ≡ Some word
word_at_number names word = by (list_any (bytes_eq word) names) refl
  where
    by : (there : Bool) → list_any (bytes_eq word) names ≡ there → slice_get (cond there names (names ++ word ∷ [])) (number_of names word) ≡ Some word
    by true there = at_found names word there
    by false new = at_number names word

pub distinct_with_name : (names : List (List ℕ)) (word : List ℕ) → AllPairs ◌≢◌ names → AllPairs ◌≢◌ (with_name names word)
distinct_with_name names word distinct = by (list_any (bytes_eq word) names) refl
  where
    by : (there : Bool) → list_any (bytes_eq word) names ≡ there → AllPairs ◌≢◌ (cond there names (names ++ word ∷ []))
    by true there = distinct
    by false new = all_pairs_push ◌≢◌ names word distinct (λ k d inside same. false≢true (sym new ∙ list_any_at (bytes_eq word) names k d inside ((bytes_eq-Decides word (get_or names k d)).1 (sym same))))

-- where a key has the word's bytes, the names stay
pub known_word : {A : Type 0} (word : List ℕ) (keys : List (Vec ℕ A)) → true ≡ list_any (λ key. bytes_eq word key.items) keys → words_of keys ≡ with_name (words_of keys) word
known_word word keys there = ap (λ known. cond known (words_of keys) (words_of keys ++ word ∷ [])) (there ∙ any_word word keys)

pub known_word_at_number : {A : Type 0} (word : List ℕ) (keys : List (Vec ℕ A)) → true ≡ list_any (λ key. bytes_eq word key.items) keys
    → slice_get (words_of keys) (number_of (words_of keys) word) ≡ Some word
known_word_at_number word keys there = at_found (words_of keys) word (sym (there ∙ any_word word keys))
