-- A window along x.
use Rattle.std.proofs.Common.{◌≡◌, ◌∙◌, ◌≤◌, ◌<◌, ◌+◌, ◌-◌, inl, inr, ℕ, ℤ, pos, ◌+ℤ◌, min, List, ◌++◌, length, map, take, drop, replicate, get_or, true, false, refl, ap, sym, subst, arith, length-append}
use Rattle.std.specs.Prelude.{◌&&◌, IsTrue, ◌≤ℤ◌}
use Rattle.std.specs.Int.{int_gap}
use Rattle.std.proofs.lemmas.Bool.{cases_lt, and_parts, and_from, and_cases, and_left, and_right, true≢false}
use Rattle.std.proofs.lemmas.Int.{ints}
use Rattle.std.proofs.lemmas.List.{length-map, length-take, length-drop, length-replicate, get_or-take, get_or-drop, get_or-replicate}
use Rattle.std.proofs.lemmas.Simd.{map-map}
use Rattle.uts_geom.specs.declared.index.Index.{Index}
use Rattle.uts_geom.specs.Spans.{index, counted, is_between, is_inside, IsNearNumber}
use Rattle.uts_geom.specs.ByPlace.{first_of_three, get-by_place, length-by_place, listed_by, second_of_three, third_of_three}
use Rattle.field_box.specs.Fields.{HoldsAlong, along, number_at}
use Rattle.ghost_gather.specs.Storing.{IsStored}
use Rattle.ghost_gather.specs.Windows.{WindowData, number_seen}

across : (x low high : ℤ) (n before stop k : ℕ) → before ≡ min (int_gap x low) n → stop ≡ min (int_gap x high) n → before ≤ k → k < stop →
    is_between low high (x +ℤ pos k) ≡ true
across x low high n before stop k begins ends after below = grind (arith, ints)

early : (x low high : ℤ) (n before k : ℕ) → before ≡ min (int_gap x low) n → k < before → is_between low high (x +ℤ pos k) ≡ false
early x low high n before k begins below = grind (arith, ints)

late : (x low high : ℤ) (n stop k : ℕ) → stop ≡ min (int_gap x high) n → k < n → stop ≤ k → is_between low high (x +ℤ pos k) ≡ false
late x low high n stop k ends below after = grind (arith, ints)

pub below_end : (x high : ℤ) (n stop k : ℕ) → stop ≡ min (int_gap x high) n → k < stop → IsNearNumber high → (x +ℤ pos k) ≤ℤ pos 65536
below_end x high n stop k ends below near = grind (arith, ints)

step_on : (x : ℤ) (a b k : ℕ) → a + b ≡ k → (x +ℤ pos a) +ℤ pos b ≡ x +ℤ pos k
step_on x a b k sum = grind (arith, ints)

module _ (w : WindowData) (stored : IsStored w.span w.space w.stored.span) (from : Index) (n before stop : ℕ) (held : HoldsAlong w.span from n)
    (begins : before ≡ min (int_gap from.x w.space.lo.x) n) (ends : stop ≡ min (int_gap from.x w.space.hi.x) n) where
  abbrev at : ℕ → Index
  at k = index (from.x +ℤ pos k) from.y from.z

  beyond_before : (k : ℕ) → k < before → is_inside w.space (at k) ≡ false
  beyond_before k below = and_left _ _ (early from.x w.space.lo.x w.space.hi.x n before k begins below)

  beyond_stop : (k : ℕ) → k < n → stop ≤ k → is_inside w.space (at k) ≡ false
  beyond_stop k below after = and_left _ _ (late from.x w.space.lo.x w.space.hi.x n stop k ends below after)

  all_outside : ((k : ℕ) → k < n → is_inside w.space (at k) ≡ false) → replicate n w.outside ≡ map (number_seen w) (along from n)
  all_outside beyond =
      listed_by (λ k. number_seen w (at k)) n (replicate n w.outside) (pos 0) (length-replicate n w.outside)
      (λ k below. get_or-replicate n k w.outside (pos 0) below ∙ rw (beyond k below) refl)
      ∙ sym (map-map (number_seen w) at (counted 0 n))

  -- no index of the row lies between the bounds of the index space along x
  pub none_between : stop ≤ before → replicate n w.outside ≡ map (number_seen w) (along from n)
  none_between none =
      all_outside (λ k below. elim (cases_lt k before) [
        | inl first ↦ beyond_before k first
        | inr after ↦ beyond_stop k below (omega arith)
      ])

  -- the row lies beside the index space
  pub row_beside : before < stop → is_inside w.space (at before) ≡ false → replicate n w.outside ≡ map (number_seen w) (along from n)
  row_beside some beside =
      all_outside (λ k below. elim (and_cases _ _ beside) [
        | inl none ↦ absurd (true≢false (sym (across from.x w.space.lo.x w.space.hi.x n before stop before begins ends (omega arith) some) ∙ none))
        | inr other ↦ and_right _ _ other
      ])

  module _ (some : before < stop) (within : is_inside w.space (at before) ≡ true) where
    inside_space : (k : ℕ) → before ≤ k → k < stop → is_inside w.space (at k) ≡ true
    inside_space k after below =
        and_from _ _ (across from.x w.space.lo.x w.space.hi.x n before stop k begins ends after below)
        (and_parts (is_between w.space.lo.x w.space.hi.x (from.x +ℤ pos before)) (is_between w.space.lo.y w.space.hi.y from.y && is_between w.space.lo.z w.space.hi.z from.z) within).1

    pub is_stored : HoldsAlong w.stored.span (at before) (stop - before)
    is_stored = record {
      each = λ k below.
          let j = before + k in
          let early : before ≤ j = omega arith in
          let late : j < stop = omega arith in
          let here : index ((from.x +ℤ pos before) +ℤ pos k) from.y from.z ≡ at j = ap (λ (x : ℤ). index x from.y from.z) (step_on from.x before k j refl) in
          subst (λ (i : Index). IsTrue (is_inside w.stored.span i)) (sym here)
          (stored.inside (at j) ∙ and_from _ _ (held.each j (omega (arith, ends))) (inside_space j early late));
    }

    module _ (part : List ℤ) (read : part ≡ map (number_at w.stored) (along (at before) (stop - before))) where
      abbrev blank : List ℤ
      blank = replicate n w.outside

      abbrev joined : List ℤ
      joined = take before blank ++ (part ++ drop (before + length part) blank)

      length-part : length part ≡ stop - before
      length-part =
          ap length read ∙ length-map (along (at before) (stop - before)) (number_at w.stored)
          ∙ length-by_place (λ k. index ((from.x +ℤ pos before) +ℤ pos k) from.y from.z) (stop - before)

      length-front : length (take before blank) ≡ before
      length-front = omega (arith, length-take before blank, length-replicate n w.outside, ends)

      length-joined : length joined ≡ n
      length-joined =
          omega (
            arith,
            length-append (take before blank) (part ++ drop (before + length part) blank),
            length-append part (drop (before + length part) blank),
            length-drop (before + length part) blank,
            length-replicate n w.outside,
            length-front,
            length-part,
            ends,
          )

      part_at : (j : ℕ) → j < stop - before → get_or part j (pos 0) ≡ number_at w.stored (at (before + j))
      part_at j below =
          let next : ℕ → Index = λ k. index ((from.x +ℤ pos before) +ℤ pos k) from.y from.z in
          ap (λ (l : List ℤ). get_or l j (pos 0)) (read ∙ map-map (number_at w.stored) next (counted 0 (stop - before)))
          ∙ get-by_place (λ k. number_at w.stored (next k)) (stop - before) j (pos 0) below
          ∙ ap (λ (x : ℤ). number_at w.stored (index x from.y from.z)) (step_on from.x before j (before + j) refl)

      in_part : (k : ℕ) → before ≤ k → k < stop → get_or joined k (pos 0) ≡ number_seen w (at k)
      in_part k after below =
          let j = k - before in
          second_of_three (take before blank) part (drop (before + length part) blank) (pos 0) k (omega (arith, length-front)) (omega (arith, length-front, length-part))
          ∙ ap (λ (m : ℕ). get_or part (k - m) (pos 0)) length-front
          ∙ part_at j (omega arith)
          ∙ ap (λ (m : ℕ). number_at w.stored (at m)) (let e : before + j ≡ k = omega arith in e)
          ∙ rw (inside_space k after below) refl

      in_joined : (k : ℕ) → k < n → get_or joined k (pos 0) ≡ number_seen w (at k)
      in_joined k below =
          let front = take before blank in
          let back = drop (before + length part) blank in
          elim (cases_lt k before) [
            | inl first ↦
                first_of_three front part back (pos 0) k (omega (arith, length-front)) ∙ get_or-take before blank k (pos 0) first
                ∙ get_or-replicate n k w.outside (pos 0) below ∙ rw (beyond_before k first) refl
            | inr after ↦ elim (cases_lt k stop) [
              | inl within ↦ in_part k after within
              | inr past ↦
                  third_of_three front part back (pos 0) k (omega (arith, length-front)) (omega (arith, length-front, length-part))
                  ∙ get_or-drop (before + length part) blank (k - length front - length part) (pos 0)
                  ∙ get_or-replicate n (before + length part + (k - length front - length part)) w.outside (pos 0) (omega (arith, length-front, length-part))
                  ∙ rw (beyond_stop k below past) refl
            ]
          ]

      pub put_between : joined ≡ map (number_seen w) (along from n)
      put_between = listed_by (λ k. number_seen w (at k)) n joined (pos 0) length-joined in_joined ∙ sym (map-map (number_seen w) at (counted 0 n))
