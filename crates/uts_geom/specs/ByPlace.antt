-- Lists that a function gives at the places from 0 up, and three lists joined.
use Rattle.std.proofs.Common.{◌≡◌, ◌∙◌, ◌≤◌, ◌<◌, ◌-◌, ℕ, List, ◌++◌, length, map, get_or, ◌+◌, refl, ap, sym, arith}
use Rattle.std.proofs.lemmas.List.{ext_get_or, length-map, get_or-map, get_or_append_left, get_or-append_right}
use Rattle.std.proofs.lemmas.Option.{get_or_from_slice_get}
use Rattle.uts_geom.specs.Spans.{counted}
use Rattle.uts_geom.specs.Counting.{length-counted, get-counted}

pub length-by_place : {A : Type 0} (f : ℕ → A) (n : ℕ) → length (map f (counted 0 n)) ≡ n
length-by_place f n = length-map (counted 0 n) f ∙ length-counted 0 n

pub get-by_place : {A : Type 0} (f : ℕ → A) (n k : ℕ) (d : A) → k < n → get_or (map f (counted 0 n)) k d ≡ f k
get-by_place f n k d below =
    let at : get_or (counted 0 n) k 0 ≡ k = get_or_from_slice_get (counted 0 n) k (0 + k) 0 (get-counted 0 n k below) ∙ omega arith in
    get_or-map f (counted 0 n) k 0 d (omega (arith, length-counted 0 n)) ∙ ap f at

pub listed_by : {A : Type 0} (f : ℕ → A) (n : ℕ) (items : List A) (d : A) → length items ≡ n → ((k : ℕ) → k < n → get_or items k d ≡ f k) →
    items ≡ map f (counted 0 n)
listed_by f n items d long each =
    ext_get_or d items (map f (counted 0 n)) (long ∙ sym (length-by_place f n)) (λ k below.
    let within : k < n = omega (arith, long) in
    each k within ∙ sym (get-by_place f n k d within))

-- an item of three lists joined
pub first_of_three : {A : Type 0} (front middle back : List A) (d : A) (k : ℕ) → k < length front → get_or (front ++ (middle ++ back)) k d ≡ get_or front k d
first_of_three front middle back d k below = get_or_append_left front (middle ++ back) d k below

pub second_of_three : {A : Type 0} (front middle back : List A) (d : A) (k : ℕ) → length front ≤ k → k - length front < length middle →
    get_or (front ++ (middle ++ back)) k d ≡ get_or middle (k - length front) d
second_of_three front middle back d k after below =
    get_or-append_right front (middle ++ back) (length front) k d refl after ∙ get_or_append_left middle back d (k - length front) below

pub third_of_three : {A : Type 0} (front middle back : List A) (d : A) (k : ℕ) → length front ≤ k → length middle ≤ k - length front →
    get_or (front ++ (middle ++ back)) k d ≡ get_or back (k - length front - length middle) d
third_of_three front middle back d k after beyond =
    get_or-append_right front (middle ++ back) (length front) k d refl after
    ∙ get_or-append_right middle back (length middle) (k - length front) d refl beyond
