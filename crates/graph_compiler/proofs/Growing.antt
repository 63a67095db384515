-- Lists that grow at the end, place by place.
use Rattle.std.proofs.Common.{◌≡◌, ◌∙◌, ◌<◌, ◌+◌, ℕ, suc, List, [], ◌∷◌, ◌++◌, Bool, true, false, cond, Option, Some, length, map, take, filter, get_or, ap, sym, refl, arith, append_assoc, append-nil}
use Rattle.std.specs.Prelude.{slice_get}
use Rattle.std.specs.List.{flat_map}
use Rattle.std.specs.Option.{option_map_or}
use Rattle.std.proofs.lemmas.List.{map-append, map_more, map_push, take_more}
use Rattle.std.proofs.lemmas.List.Concat.{flat_map-append}
use Rattle.std.proofs.lemmas.List.Elements.{filter-append}
use Rattle.uts_geom.specs.Spans.{counted}

-- one place more
pub counted_more : (n : ℕ) → counted 0 (n + 1) ≡ counted 0 n ++ n ∷ []
counted_more n =
    ap (counted 0) (let e : n + 1 ≡ suc n = omega arith in e) ∙ ap (λ (k : ℕ). counted 0 n ++ k ∷ []) (let e : 0 + n ≡ n = omega arith in e)

-- some are put behind those that were put, and all are shown
pub put_some : {A B : Type 0} (g : B → A) (start before next : List A) (done new more : List B) →
    before ≡ start ++ map g done → next ≡ before ++ map g new → more ≡ done ++ new → next ≡ start ++ map g more
put_some g start before next done new more is then grows =
    then ∙ ap (λ xs. xs ++ map g new) is ∙ append_assoc start (map g done) (map g new)
    ∙ ap (λ xs. start ++ xs) (sym (map-append g done new)) ∙ ap (λ xs. start ++ map g xs) (sym grows)

-- what stands for one place more
pub put_place : {A B : Type 0} (g : B → A) (f : ℕ → B) (start before next : List A) (n : ℕ) →
    before ≡ start ++ map g (map f (counted 0 n)) → next ≡ before ++ g (f n) ∷ [] → next ≡ start ++ map g (map f (counted 0 (n + 1)))
put_place g f start before next n is then =
    put_some g start before next (map f (counted 0 n)) (f n ∷ []) (map f (counted 0 (n + 1))) is then
    (ap (map f) (counted_more n) ∙ map_push f (counted 0 n) n)

-- a list for one item more
pub flat_map-next : {X A : Type 0} (f : X → List A) (xs : List X) (i : ℕ) (x : X) → i < length xs → x ≡ get_or xs i x →
    flat_map f (take (i + 1) xs) ≡ flat_map f (take i xs) ++ f x
flat_map-next f xs i x below at =
    ap (flat_map f) (take_more xs i x below ∙ ap (λ y. take i xs ++ y ∷ []) (sym at))
    ∙ flat_map-append f (take i xs) (x ∷ []) ∙ ap (λ last. flat_map f (take i xs) ++ last) (append-nil (f x))

-- a list for one place more
pub flat_map-counted : {A : Type 0} (f : ℕ → List A) (n : ℕ) → flat_map f (counted 0 (n + 1)) ≡ flat_map f (counted 0 n) ++ f n
flat_map-counted f n =
    ap (flat_map f) (counted_more n) ∙ flat_map-append f (counted 0 n) (n ∷ []) ∙ ap (λ last. flat_map f (counted 0 n) ++ last) (append-nil (f n))

-- what stands for one place more, where a place passes a test
pub put_passing : {A B : Type 0} (g : B → A) (f : ℕ → B) (test : ℕ → Bool) (start before next : List A) (n : ℕ) →
    before ≡ start ++ map g (map f (filter test (counted 0 n))) → next ≡ before ++ map g (cond (test n) (f n ∷ []) []) →
    next ≡ start ++ map g (map f (filter test (counted 0 (n + 1))))
put_passing {A} {B} g f test start before next n is then =
    put_some g start before next (map f (filter test (counted 0 n))) (cond (test n) (f n ∷ []) []) (map f (filter test (counted 0 (n + 1)))) is then
    (ap (λ xs. map f (filter test xs)) (counted_more n) ∙ passing (counted 0 n))
  where
    last : (b : Bool) → test n ≡ b → map f (filter test (n ∷ [])) ≡ cond b (f n ∷ []) []
    last true at = rw at refl
    last false at = rw at refl

    passing : (xs : List ℕ) → map f (filter test (xs ++ n ∷ [])) ≡ map f (filter test xs) ++ cond (test n) (f n ∷ []) []
    passing xs =
        ap (map f) (filter-append test xs (n ∷ [])) ∙ map-append f (filter test xs) (filter test (n ∷ []))
        ∙ ap (λ ys. map f (filter test xs) ++ ys) (last (test n) refl)

-- what stands for one item more, by its place
pub put_by_place : {A B X : Type 0} (g : B → A) (f : ℕ → X → List B) (items : List X) (start before next : List A) (n : ℕ) (x : X) → slice_get items n ≡ Some x →
    before ≡ start ++ map g (flat_map (λ place. option_map_or (f place) (slice_get items place) []) (counted 0 n)) → next ≡ before ++ map g (f n x) →
    next ≡ start ++ map g (flat_map (λ place. option_map_or (f place) (slice_get items place) []) (counted 0 (n + 1)))
put_by_place {A} {B} {X} g f items start before next n x at is then =
    let each : ℕ → List B = λ place. option_map_or (f place) (slice_get items place) [] in
    put_some g start before next (flat_map each (counted 0 n)) (f n x) (flat_map each (counted 0 (n + 1))) is then
    (flat_map-counted each n ∙ ap (λ (o : Option X). flat_map each (counted 0 n) ++ option_map_or (f n) o []) at)

-- the same where nothing is shown
pub extend_place : {A : Type 0} (f : ℕ → List A) (start before next : List A) (n : ℕ) →
    before ≡ start ++ flat_map f (counted 0 n) → next ≡ before ++ f n → next ≡ start ++ flat_map f (counted 0 (n + 1))
extend_place f start before next n is then =
    then ∙ ap (λ xs. xs ++ f n) is ∙ append_assoc start (flat_map f (counted 0 n)) (f n) ∙ ap (λ xs. start ++ xs) (sym (flat_map-counted f n))

pub extend_by_place : {A X : Type 0} (f : ℕ → X → List A) (items : List X) (start before next : List A) (n : ℕ) (x : X) → slice_get items n ≡ Some x →
    before ≡ start ++ flat_map (λ place. option_map_or (f place) (slice_get items place) []) (counted 0 n) → next ≡ before ++ f n x →
    next ≡ start ++ flat_map (λ place. option_map_or (f place) (slice_get items place) []) (counted 0 (n + 1))
extend_by_place {A} {X} f items start before next n x at is then =
    extend_place (λ place. option_map_or (f place) (slice_get items place) []) start before next n is
    (then ∙ ap (λ (o : Option X). before ++ option_map_or (f n) o []) (sym at))

-- what stands for one item more
pub put_item : {X A : Type 0} (f : X → A) (before next : List A) (xs : List X) (i : ℕ) (x : X) (a : A) → i < length xs → x ≡ get_or xs i x → a ≡ f x →
    before ≡ map f (take i xs) → next ≡ before ++ a ∷ [] → next ≡ map f (take (i + 1) xs)
put_item f before next xs i x a below at is so_far then =
    then ∙ ap (λ ys. ys ++ a ∷ []) so_far ∙ ap (λ b. map f (take i xs) ++ b ∷ []) (is ∙ ap f at) ∙ sym (map_more f xs i x below)
