-- The indexes of a span that lie in another one are those of the span that both have in common.
use Rattle.std.proofs.Common.{◌≡◌, ◌∙◌, ap, sym, refl, arith, ℕ, zero, suc, ℤ, pos, ◌+◌, ◌+ℤ◌, ◌≤ℤ◌, List, [], ◌∷◌, ◌++◌, Bool, true, false, cond, map}
use Rattle.std.specs.Prelude.{◌&&◌, filter}
use Rattle.std.specs.Int.{int_gap, int_max, int_min}
use Rattle.std.specs.List.{flat_map}
use Rattle.std.proofs.lemmas.Int.{ints, clamps}
use Rattle.std.proofs.lemmas.List.{append-nil, map-append}
use Rattle.std.proofs.lemmas.List.Elements.{filter-append}
use Rattle.uts_geom.specs.Spans.{index, is_between, is_inside, counted, from_to, indexes_of, meet_of}
use Rattle.uts_geom.specs.declared.index.Index.{Index}
use Rattle.uts_geom.specs.declared.span.Span.{Span}

-- a list where a test holds, else nothing
abbrev guarded : {A : Type 0} → Bool → List A → List A
guarded true xs = xs
guarded false xs = []

filter-map : {A B : Type 0} (p : B → Bool) (g : A → B) (xs : List A) → filter p (map g xs) ≡ map g (filter (λ x. p (g x)) xs)
filter-map p g [] = refl
filter-map p g (x ∷ xs) = by_test (p (g x)) (filter-map p g xs)
  where
    by_test : (b : Bool) → filter p (map g xs) ≡ map g (filter (λ y. p (g y)) xs) →
        cond b (g x ∷ filter p (map g xs)) (filter p (map g xs)) ≡ map g (cond b (x ∷ filter (λ y. p (g y)) xs) (filter (λ y. p (g y)) xs))
    by_test true rest = ap (λ ys. g x ∷ ys) rest
    by_test false rest = rest

filter-flat_map : {A B : Type 0} (p : B → Bool) (f : A → List B) (xs : List A) → filter p (flat_map f xs) ≡ flat_map (λ x. filter p (f x)) xs
filter-flat_map p f [] = refl
filter-flat_map p f (x ∷ xs) = filter-append p (f x) (flat_map f xs) ∙ ap (λ ys. filter p (f x) ++ ys) (filter-flat_map p f xs)

filter_none : {A : Type 0} (q : A → Bool) (xs : List A) → filter (λ x. q x && false) xs ≡ []
filter_none q [] = refl
filter_none q (x ∷ xs) = by_test (q x) (filter_none q xs)
  where
    by_test : (b : Bool) → filter (λ y. q y && false) xs ≡ [] → cond (b && false) (x ∷ filter (λ y. q y && false) xs) (filter (λ y. q y && false) xs) ≡ []
    by_test true rest = rest
    by_test false rest = rest

filter_all : {A : Type 0} (q : A → Bool) (xs : List A) → filter (λ x. q x && true) xs ≡ filter q xs
filter_all q [] = refl
filter_all q (x ∷ xs) = by_test (q x) (filter_all q xs)
  where
    by_test : (b : Bool) → filter (λ y. q y && true) xs ≡ filter q xs → cond (b && true) (x ∷ filter (λ y. q y && true) xs) (filter (λ y. q y && true) xs) ≡ cond b (x ∷ filter q xs) (filter q xs)
    by_test true rest = ap (λ ys. x ∷ ys) rest
    by_test false rest = rest

-- a test that does not depend on the item
filter_and : {A : Type 0} (q : A → Bool) (t : Bool) (xs : List A) → filter (λ x. q x && t) xs ≡ guarded t (filter q xs)
filter_and q true xs = filter_all q xs
filter_and q false xs = filter_none q xs

map-guarded : {A B : Type 0} (g : A → B) (t : Bool) (xs : List A) → map g (guarded t xs) ≡ guarded t (map g xs)
map-guarded g true xs = refl
map-guarded g false xs = refl

guarded_and : {A : Type 0} (s t : Bool) (xs : List A) → guarded (s && t) xs ≡ guarded t (guarded s xs)
guarded_and true true xs = refl
guarded_and true false xs = refl
guarded_and false true xs = refl
guarded_and false false xs = refl

flat_map-guarded : {A B : Type 0} (t : Bool) (f : A → List B) (xs : List A) → flat_map (λ x. guarded t (f x)) xs ≡ guarded t (flat_map f xs)
flat_map-guarded true f xs = refl
flat_map-guarded false f [] = refl
flat_map-guarded false f (x ∷ xs) = flat_map-guarded false f xs

flat_map_where : {A B : Type 0} (q : A → Bool) (f : A → List B) (xs : List A) → flat_map (λ x. guarded (q x) (f x)) xs ≡ flat_map f (filter q xs)
flat_map_where q f [] = refl
flat_map_where q f (x ∷ xs) = by_test (q x) (flat_map_where q f xs)
  where
    by_test : (b : Bool) → flat_map (λ y. guarded (q y) (f y)) xs ≡ flat_map f (filter q xs) →
        guarded b (f x) ++ flat_map (λ y. guarded (q y) (f y)) xs ≡ flat_map f (cond b (x ∷ filter q xs) (filter q xs))
    by_test true rest = ap (λ ys. f x ++ ys) rest
    by_test false rest = rest

-- so many numbers from one up
abbrev up : ℤ → ℕ → List ℤ
up low n = map (λ k. low +ℤ pos k) (counted 0 n)

up_more : (low : ℤ) (n : ℕ) → up low (suc n) ≡ up low n ++ (low +ℤ pos n) ∷ []
up_more low n =
    map-append (λ (k : ℕ). low +ℤ pos k) (counted 0 n) ((0 + n) ∷ [])
    ∙ ap (λ (k : ℕ). up low n ++ (low +ℤ pos k) ∷ []) (let e : 0 + n ≡ n = omega arith in e)

no_gap : (a b c d : ℤ) → b ≡ a → int_gap (int_max a c) (int_min b d) ≡ 0
no_gap a b c d same = grind (arith, ints, clamps)

gap_stays : (a c d x : ℤ) → a ≤ℤ x → is_between c d x ≡ false →
    int_gap (int_max a c) (int_min (x +ℤ pos 1) d) ≡ int_gap (int_max a c) (int_min x d)
gap_stays a c d x above beside = grind (arith, ints, clamps)

gap_grows : (a c d x : ℤ) → a ≤ℤ x → is_between c d x ≡ true →
    int_gap (int_max a c) (int_min (x +ℤ pos 1) d) ≡ suc (int_gap (int_max a c) (int_min x d))
gap_grows a c d x above between = grind (arith, ints, clamps)

reaches : (a c d x : ℤ) → a ≤ℤ x → is_between c d x ≡ true → int_max a c +ℤ pos (int_gap (int_max a c) (int_min x d)) ≡ x
reaches a c d x above between = grind (arith, ints, clamps)

next_is : (a : ℤ) (n : ℕ) → a +ℤ pos (suc n) ≡ (a +ℤ pos n) +ℤ pos 1
next_is a n = omega (arith, ints)

above_low : (a : ℤ) (n : ℕ) → a ≤ℤ (a +ℤ pos n)
above_low a n = omega (arith, ints)

-- the numbers that lie in another range, among so many from one up
filter-up : (a c d : ℤ) (n : ℕ) → filter (is_between c d) (up a n) ≡ from_to (int_max a c) (int_min (a +ℤ pos n) d)
filter-up a c d zero = ap (up (int_max a c)) (sym (no_gap a (a +ℤ pos 0) c d (omega (arith, ints))))
filter-up a c d (suc n) =
    ap (filter (is_between c d)) (up_more a n)
    ∙ filter-append (is_between c d) (up a n) ((a +ℤ pos n) ∷ [])
    ∙ by_test (is_between c d (a +ℤ pos n)) refl (filter-up a c d n)
    ∙ ap (λ (x : ℤ). from_to (int_max a c) (int_min x d)) (sym (next_is a n))
  where
    by_test : (b : Bool) → is_between c d (a +ℤ pos n) ≡ b →
        filter (is_between c d) (up a n) ≡ from_to (int_max a c) (int_min (a +ℤ pos n) d) →
        filter (is_between c d) (up a n) ++ cond b ((a +ℤ pos n) ∷ []) [] ≡ from_to (int_max a c) (int_min ((a +ℤ pos n) +ℤ pos 1) d)
    by_test true between before =
        ap (λ xs. xs ++ (a +ℤ pos n) ∷ []) before
        ∙ ap (λ (x : ℤ). from_to (int_max a c) (int_min (a +ℤ pos n) d) ++ x ∷ []) (sym (reaches a c d (a +ℤ pos n) (above_low a n) between))
        ∙ sym (up_more (int_max a c) (int_gap (int_max a c) (int_min (a +ℤ pos n) d)))
        ∙ ap (up (int_max a c)) (sym (gap_grows a c d (a +ℤ pos n) (above_low a n) between))
    by_test false beside before =
        append-nil (filter (is_between c d) (up a n)) ∙ before
        ∙ ap (up (int_max a c)) (sym (gap_stays a c d (a +ℤ pos n) (above_low a n) beside))

gap_to : (a b c d : ℤ) → int_gap (int_max a c) (int_min (a +ℤ pos (int_gap a b)) d) ≡ int_gap (int_max a c) (int_min b d)
gap_to a b c d = grind (arith, ints, clamps)

filter-from_to : (a b c d : ℤ) → filter (is_between c d) (from_to a b) ≡ from_to (int_max a c) (int_min b d)
filter-from_to a b c d = filter-up a c d (int_gap a b) ∙ ap (up (int_max a c)) (gap_to a b c d)

-- the indexes of these coordinates that lie in a span
module _ (s : Span) (xs ys zs : List ℤ) where
  row : (y z : ℤ) → filter (is_inside s) (map (λ x. index x y z) xs)
      ≡ guarded (is_between s.lo.y s.hi.y y && is_between s.lo.z s.hi.z z) (map (λ x. index x y z) (filter (is_between s.lo.x s.hi.x) xs))
  row y z =
      let t = is_between s.lo.y s.hi.y y && is_between s.lo.z s.hi.z z in
      filter-map (is_inside s) (λ (x : ℤ). index x y z) xs
      ∙ ap (map (λ (x : ℤ). index x y z)) (filter_and (is_between s.lo.x s.hi.x) t xs)
      ∙ map-guarded (λ (x : ℤ). index x y z) t (filter (is_between s.lo.x s.hi.x) xs)

  plane : (z : ℤ) → filter (is_inside s) (flat_map (λ y. map (λ x. index x y z) xs) ys)
      ≡ guarded (is_between s.lo.z s.hi.z z) (flat_map (λ y. map (λ x. index x y z) (filter (is_between s.lo.x s.hi.x) xs)) (filter (is_between s.lo.y s.hi.y) ys))
  plane z =
      let rows : ℤ → List Index = λ y. map (λ x. index x y z) (filter (is_between s.lo.x s.hi.x) xs) in
      filter-flat_map (is_inside s) (λ y. map (λ x. index x y z) xs) ys
      ∙ ap (λ (f : ℤ → List Index). flat_map f ys) (λ i y. (row y z ∙ guarded_and (is_between s.lo.y s.hi.y y) (is_between s.lo.z s.hi.z z) (rows y)) i)
      ∙ flat_map-guarded (is_between s.lo.z s.hi.z z) (λ y. guarded (is_between s.lo.y s.hi.y y) (rows y)) ys
      ∙ ap (guarded (is_between s.lo.z s.hi.z z)) (flat_map_where (is_between s.lo.y s.hi.y) rows ys)

  all : filter (is_inside s) (flat_map (λ z. flat_map (λ y. map (λ x. index x y z) xs) ys) zs)
      ≡ flat_map (λ z. flat_map (λ y. map (λ x. index x y z) (filter (is_between s.lo.x s.hi.x) xs)) (filter (is_between s.lo.y s.hi.y) ys)) (filter (is_between s.lo.z s.hi.z) zs)
  all =
      filter-flat_map (is_inside s) (λ z. flat_map (λ y. map (λ x. index x y z) xs) ys) zs
      ∙ ap (λ (f : ℤ → List Index). flat_map f zs) (λ i z. plane z i)
      ∙ flat_map_where (is_between s.lo.z s.hi.z) (λ z. flat_map (λ y. map (λ x. index x y z) (filter (is_between s.lo.x s.hi.x) xs)) (filter (is_between s.lo.y s.hi.y) ys)) zs

pub indexes-meet : (a b : Span) → indexes_of (meet_of a b) ≡ filter (is_inside b) (indexes_of a)
indexes-meet a b =
    let joined : List ℤ → List ℤ → List ℤ → List Index = λ xs ys zs. flat_map (λ z. flat_map (λ y. map (λ x. index x y z) xs) ys) zs in
    sym
    (all b (from_to a.lo.x a.hi.x) (from_to a.lo.y a.hi.y) (from_to a.lo.z a.hi.z)
    ∙ ap (λ xs. joined xs (filter (is_between b.lo.y b.hi.y) (from_to a.lo.y a.hi.y)) (filter (is_between b.lo.z b.hi.z) (from_to a.lo.z a.hi.z))) (filter-from_to a.lo.x a.hi.x b.lo.x b.hi.x)
    ∙ ap (λ ys. joined (from_to (int_max a.lo.x b.lo.x) (int_min a.hi.x b.hi.x)) ys (filter (is_between b.lo.z b.hi.z) (from_to a.lo.z a.hi.z))) (filter-from_to a.lo.y a.hi.y b.lo.y b.hi.y)
    ∙ ap (λ zs. joined (from_to (int_max a.lo.x b.lo.x) (int_min a.hi.x b.hi.x)) (from_to (int_max a.lo.y b.lo.y) (int_min a.hi.y b.hi.y)) zs) (filter-from_to a.lo.z a.hi.z b.lo.z b.hi.z))
