-- The rows of a span: each lies in it, and each of its indexes lies in one.
use Rattle.std.proofs.Common.{◌≡◌, ◌∙◌, ◌<◌, ℕ, zero, suc, ℤ, pos, ◌+ℤ◌, List, [], ◌∷◌, ◌++◌, Bool, true, false, refl, ap, sym, subst, inl, inr, arith}
use Rattle.std.specs.Prelude.{◌&&◌, All, Contains, slice_index_or, int_lt}
use Rattle.std.specs.Int.{int_gap}
use Rattle.std.specs.List.{flat_map}
use Rattle.std.specs.Ordering.{int_eq}
use Rattle.std.proofs.lemmas.Bool.{cases_Bool, and_parts, and_from, true≢false}
use Rattle.std.proofs.lemmas.Bool.Decides.{Decides-int_eq}
use Rattle.std.proofs.lemmas.Int.{ints}
use Rattle.std.proofs.lemmas.List.Elements.{All-append, All-nil, All-contains, Contains-append_left, Contains-append_right, Contains-push_cases}
use Rattle.std.proofs.lemmas.Option.{slice_get_within, get_or_from_slice_get}
use Rattle.uts_geom.specs.declared.index.Index.{Index}
use Rattle.uts_geom.specs.declared.span.Span.{Span}
use Rattle.uts_geom.specs.Spans.{from_to, is_between, is_inside, all_rows, rows_of}
use Rattle.uts_geom.specs.Places.{get-from_to, length-from_to}
use Rattle.field_box.specs.Fields.{IsRow}

abbrev pub is_in_row : (y z : ℤ) → Index → Bool
is_in_row y z i = int_eq i.y y && int_eq i.z z

pub above_low : (low high : ℤ) (k : ℕ) → k < int_gap low high → is_between low high (low +ℤ pos k) ≡ true
above_low low high k below = grind (arith, ints)

pub gap_below : (low high n : ℤ) → is_between low high n ≡ true → int_gap low n < int_gap low high
gap_below low high n between = grind (arith, ints)

pub gap_reaches : (low high n : ℤ) → is_between low high n ≡ true → low +ℤ pos (int_gap low n) ≡ n
gap_reaches low high n between = grind (arith, ints)

some_width : (low high n : ℤ) → is_between low high n ≡ true → int_lt low high ≡ true
some_width low high n between = grind (arith, ints)

low_between : (low high : ℤ) → int_lt low high ≡ true → is_between low high low ≡ true
low_between low high some = grind (arith, ints)

All-between : (low high : ℤ) → All (λ n. is_between low high n ≡ true) (from_to low high)
All-between low high k d below =
    let place : k < int_gap low high = omega (arith, length-from_to low high) in
    let at : slice_index_or (from_to low high) k d ≡ low +ℤ pos k = get_or_from_slice_get (from_to low high) k (low +ℤ pos k) d (get-from_to low high k place) in
    subst (λ (n : ℤ). is_between low high n ≡ true) (sym at) (above_low low high k place)

Contains-between : (low high n : ℤ) → is_between low high n ≡ true → Contains (from_to low high) n
Contains-between low high n between =
    let k = int_gap low n in
    let at = get-from_to low high k (gap_below low high n between) in
    (k, slice_get_within (from_to low high) k _ at, get_or_from_slice_get (from_to low high) k _ n at ∙ gap_reaches low high n between)

-- what holds of each part of each piece, and a part of one piece
All-pieces : {X A : Type 0} (P : A → Type 0) (f : X → List A) (xs : List X) → All (λ x. All P (f x)) xs → All P (flat_map f xs)
All-pieces P f [] each = All-nil P
All-pieces P f (x ∷ xs) each =
    All-append P (f x) (flat_map f xs) (each 0 x (omega arith)) (All-pieces P f xs (λ k d below. each (suc k) d (omega arith)))

Contains-pieces : {X A : Type 0} (f : X → List A) (xs : List X) (x : X) (a : A) → Contains xs x → Contains (f x) a → Contains (flat_map f xs) a
Contains-pieces f [] x a (k, below, here) there = absurd (omega arith)
Contains-pieces f (y ∷ ys) x a (zero, below, here) there =
    Contains-append_left (f y) (flat_map f ys) a (subst (λ v. Contains (f v) a) (sym here) there)
Contains-pieces f (y ∷ ys) x a (suc k, below, here) there =
    Contains-append_right (f y) (flat_map f ys) a (Contains-pieces f ys x a (k, omega arith, here) there)

All-one : {A : Type 0} (P : A → Type 0) (a : A) → P a → All P (a ∷ [])
All-one P a holds zero d below = holds
All-one P a holds (suc k) d below = absurd (omega arith)

module _ (s : Span) where
  rows_inside_some : int_lt s.lo.x s.hi.x ≡ true → All (IsRow s) (all_rows s)
  rows_inside_some some =
      All-pieces (IsRow s) (λ z. flat_map (λ y. (y, z) ∷ []) (from_to s.lo.y s.hi.y)) (from_to s.lo.z s.hi.z) (λ k d in_z.
      let on_z = All-between s.lo.z s.hi.z k d in_z in
      All-pieces (IsRow s) (λ y. (y, slice_index_or (from_to s.lo.z s.hi.z) k d) ∷ []) (from_to s.lo.y s.hi.y) (λ j e in_y.
      let on_y = All-between s.lo.y s.hi.y j e in_y in
      All-one (IsRow s) (slice_index_or (from_to s.lo.y s.hi.y) j e, slice_index_or (from_to s.lo.z s.hi.z) k d)
      (and_from _ _ (low_between s.lo.x s.hi.x some) (and_from _ _ on_y on_z))))

  rows_some : int_lt s.lo.x s.hi.x ≡ true → rows_of s ≡ all_rows s
  rows_some some = rw some refl

  rows_none : int_lt s.lo.x s.hi.x ≡ false → rows_of s ≡ []
  rows_none none = rw none refl

  -- each row that is walked lies in the span
  pub rows_inside : All (IsRow s) (rows_of s)
  rows_inside =
      elim (cases_Bool (int_lt s.lo.x s.hi.x)) [
        | inl some ↦ subst (All (IsRow s)) (sym (rows_some some)) (rows_inside_some some)
        | inr none ↦ subst (All (IsRow s)) (sym (rows_none none)) (All-nil (IsRow s))
      ]

  -- the row of each index of the span is walked
  pub rows_hold : (i : Index) → is_inside s i ≡ true → Contains (rows_of s) (i.y, i.z)
  rows_hold i inside =
      let on_x = and_parts (is_between s.lo.x s.hi.x i.x) (is_between s.lo.y s.hi.y i.y && is_between s.lo.z s.hi.z i.z) inside in
      let on_y = and_parts (is_between s.lo.y s.hi.y i.y) (is_between s.lo.z s.hi.z i.z) on_x.1 in
      let row : Contains ((i.y, i.z) ∷ []) (i.y, i.z) = (0, omega arith, refl) in
      let plane : Contains (flat_map (λ y. (y, i.z) ∷ []) (from_to s.lo.y s.hi.y)) (i.y, i.z) =
      Contains-pieces (λ (y : ℤ). (y, i.z) ∷ []) (from_to s.lo.y s.hi.y) i.y (i.y, i.z) (Contains-between s.lo.y s.hi.y i.y on_y.0) row in
      let all : Contains (all_rows s) (i.y, i.z) =
      Contains-pieces (λ (z : ℤ). flat_map (λ y. (y, z) ∷ []) (from_to s.lo.y s.hi.y)) (from_to s.lo.z s.hi.z) i.z (i.y, i.z)
      (Contains-between s.lo.z s.hi.z i.z on_y.1) plane in
      subst (λ (rows : List (ℤ × ℤ)). Contains rows (i.y, i.z)) (sym (rows_some (some_width s.lo.x s.hi.x i.x on_x.0))) all

-- a row that the walk comes to
pub row_walked : (s : Span) (done rest : List (ℤ × ℤ)) (at : ℤ × ℤ) → done ++ at ∷ rest ≡ rows_of s → IsRow s at
row_walked s done rest at split =
    let there : Contains (done ++ at ∷ rest) at = Contains-append_right done (at ∷ rest) at (0, omega arith, refl) in
    All-contains (IsRow s) (rows_of s) at (rows_inside s) (subst (λ (rows : List (ℤ × ℤ)). Contains rows at) split there)

-- an index of another row than the last was in one before
pub walked_before : (done : List (ℤ × ℤ)) (at : ℤ × ℤ) (i : Index) → Contains (done ++ at ∷ []) (i.y, i.z) → is_in_row at.0 at.1 i ≡ false →
    Contains done (i.y, i.z)
walked_before done at i there other =
    elim (Contains-push_cases done at (i.y, i.z) there) [
      | inl earlier ↦ earlier
      | inr now ↦
          let same : is_in_row at.0 at.1 i ≡ true =
          and_from _ _ ((Decides-int_eq i.y at.0).1 (ap (λ (p : ℤ × ℤ). p.0) (sym now))) ((Decides-int_eq i.z at.1).1 (ap (λ (p : ℤ × ℤ). p.1) (sym now))) in
          absurd (true≢false (sym same ∙ other))
    ]
