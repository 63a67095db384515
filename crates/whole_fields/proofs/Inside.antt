-- The children of an index inside a level's index space.
use Rattle.std.proofs.Common.{◌≡◌, ◌∙◌, ◌≤◌, ◌<◌, ◌+◌, ◌*◌, ◌^◌, inl, inr, ℕ, zero, suc, ℤ, pos, List, [], ◌∷◌, ◌++◌, length, map, fold, cond, Bool, true, false, refl, ap, sym, arith}
use Rattle.std.specs.Prelude.{◌&&◌, filter}
use Rattle.std.specs.List.{flat_map}
use Rattle.std.proofs.lemmas.Bool.{cases_Bool}
use Rattle.std.proofs.lemmas.List.Elements.{filter-append, filter_agree}
use Rattle.uts_geom.specs.Centrings.{is_point_like}
use Rattle.uts_geom.specs.Spans.{index, is_between, is_inside}
use Rattle.uts_geom.specs.declared.centring.Axis.TheVariants.{X, Y, Z}
use Rattle.uts_geom.specs.declared.centring.Centring.{Centring}
use Rattle.uts_geom.specs.declared.index.Index.{Index}
use Rattle.uts_geom.specs.declared.span.Span.{Span}
use Rattle.problem_types.specs.Regions.{children_along, children_of, is_in_space, ratio_of}
use Rattle.problem_types.specs.declared.problem.Problem.{Problem}
use Rattle.whole_fields.specs.Children.{children_in, children_on_x, children_on_y, children_on_z}
use Rattle.uts_model.specs.Spaces.{IsSpaceOn}

filter-flat_map : {A B : Type 0} (p : B → Bool) (f : A → List B) (items : List A) → filter p (flat_map f items) ≡ flat_map (λ a. filter p (f a)) items
filter-flat_map p f [] = refl
filter-flat_map p f (a ∷ items) = filter-append p (f a) (flat_map f items) ∙ ap (λ rest. filter p (f a) ++ rest) (filter-flat_map p f items)

flat_map_alike : {A B : Type 0} (f g : A → List B) (items : List A) → ((a : A) → f a ≡ g a) → flat_map f items ≡ flat_map g items
flat_map_alike f g [] same = refl
flat_map_alike f g (a ∷ items) same = ap (λ front. front ++ flat_map f items) (same a) ∙ ap (λ rest. g a ++ rest) (flat_map_alike f g items same)

-- what stands for the items that pass a test
flat_map-cond : {A B : Type 0} (p : A → Bool) (f : A → List B) (items : List A) → flat_map (λ a. cond (p a) (f a) []) items ≡ flat_map f (filter p items)
flat_map-cond p f [] = refl
flat_map-cond p f (a ∷ items) =
    elim (cases_Bool (p a)) [
      | inl passes ↦ rw passes (ap (λ rest. f a ++ rest) (flat_map-cond p f items))
      | inr fails ↦ rw fails (flat_map-cond p f items)
    ]

flat_map-none : {A B : Type 0} (items : List A) → flat_map {X = A} {A = B} (λ a. []) items ≡ []
flat_map-none [] = refl
flat_map-none (a ∷ items) = flat_map-none items

and_true : (b : Bool) → (b && true) ≡ b
and_true true = refl
and_true false = refl

and_false : (b : Bool) → (b && false) ≡ false
and_false true = refl
and_false false = refl

module _ (s : Span) (y z : ℤ) where
  -- a row of indexes inside a span
  row_inside : (xs : List ℤ) → (is_between s.lo.y s.hi.y y && is_between s.lo.z s.hi.z z) ≡ true →
      filter (is_inside s) (map (λ x. index x y z) xs) ≡ map (λ x. index x y z) (filter (is_between s.lo.x s.hi.x) xs)
  row_inside [] inside = refl
  row_inside (x ∷ xs) inside =
      elim (cases_Bool (is_between s.lo.x s.hi.x x)) [
        | inl here ↦ rw (inside, here) (ap (λ (rest : List Index). index x y z ∷ rest) (row_inside xs inside))
        | inr away ↦ rw (inside, away) (row_inside xs inside)
      ]

  row_outside : (xs : List ℤ) → (is_between s.lo.y s.hi.y y && is_between s.lo.z s.hi.z z) ≡ false →
      filter (is_inside s) (map (λ x. index x y z) xs) ≡ []
  row_outside [] outside = refl
  row_outside (x ∷ xs) outside = rw (outside, and_false (is_between s.lo.x s.hi.x x)) (row_outside xs outside)

module _ (s : Span) (xs : List ℤ) where
  on_x : List ℤ
  on_x = filter (is_between s.lo.x s.hi.x) xs

  -- rows of indexes at one z
  plane_inside : (z : ℤ) (ys : List ℤ) → is_between s.lo.z s.hi.z z ≡ true →
      filter (is_inside s) (flat_map (λ y. map (λ x. index x y z) xs) ys) ≡ flat_map (λ y. map (λ x. index x y z) on_x) (filter (is_between s.lo.y s.hi.y) ys)
  unfolding on_x
  plane_inside z ys inside =
      let test = is_between s.lo.y s.hi.y in
      filter-flat_map (is_inside s) (λ (y : ℤ). map (λ x. index x y z) xs) ys
      ∙ flat_map_alike (λ (y : ℤ). filter (is_inside s) (map (λ x. index x y z) xs)) (λ y. cond (test y) (map (λ x. index x y z) on_x) []) ys (λ y.
      elim (cases_Bool (test y)) [
        | inl here ↦ row_inside s y z xs (rw (here, inside) refl) ∙ rw here refl
        | inr away ↦ row_outside s y z xs (rw away refl) ∙ rw away refl
      ])
      ∙ flat_map-cond test (λ y. map (λ x. index x y z) on_x) ys

  plane_outside : (z : ℤ) (ys : List ℤ) → is_between s.lo.z s.hi.z z ≡ false → filter (is_inside s) (flat_map (λ y. map (λ x. index x y z) xs) ys) ≡ []
  plane_outside z ys outside =
      filter-flat_map (is_inside s) (λ (y : ℤ). map (λ x. index x y z) xs) ys
      ∙ flat_map_alike (λ (y : ℤ). filter (is_inside s) (map (λ x. index x y z) xs)) (λ y. []) ys
      (λ y. row_outside s y z xs (rw outside (and_false (is_between s.lo.y s.hi.y y))))
      ∙ flat_map-none ys

  block_inside : (ys zs : List ℤ) → filter (is_inside s) (flat_map (λ z. flat_map (λ y. map (λ x. index x y z) xs) ys) zs)
      ≡ flat_map (λ z. flat_map (λ y. map (λ x. index x y z) on_x) (filter (is_between s.lo.y s.hi.y) ys)) (filter (is_between s.lo.z s.hi.z) zs)
  block_inside ys zs =
      let test = is_between s.lo.z s.hi.z in
      let plane : ℤ → List Index = λ z. flat_map (λ y. map (λ x. index x y z) on_x) (filter (is_between s.lo.y s.hi.y) ys) in
      filter-flat_map (is_inside s) (λ (z : ℤ). flat_map (λ y. map (λ x. index x y z) xs) ys) zs
      ∙ flat_map_alike (λ (z : ℤ). filter (is_inside s) (flat_map (λ y. map (λ x. index x y z) xs) ys)) (λ z. cond (test z) (plane z) []) zs (λ z.
      elim (cases_Bool (test z)) [
        | inl here ↦ plane_inside z ys here ∙ rw here refl
        | inr away ↦ plane_outside z ys away ∙ rw away refl
      ])
      ∙ flat_map-cond test plane zs

-- the children inside a level's index space are those on each axis
pub children_inside : (p : Problem) (level : ℕ) (c : Centring) (s : Span) (i : Index) → IsSpaceOn p (level + 1) c s →
    children_of p level c i ≡ children_in (ratio_of p (level + 1)) c s i
unfolding on_x
children_inside p level c s i space =
    let ratio = ratio_of p (level + 1) in
    let xs = children_along (is_point_like c X) ratio i.x in
    let ys = children_along (is_point_like c Y) ratio i.y in
    let zs = children_along (is_point_like c Z) ratio i.z in
    filter_agree (is_in_space p (level + 1) c) (is_inside s) space.inside (flat_map (λ z. flat_map (λ y. map (λ x. index x y z) xs) ys) zs)
    ∙ block_inside s xs ys zs
