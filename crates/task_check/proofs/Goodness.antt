-- The levels of a problem of which no line has a fault are good. Each rule for them holds where it does not fail.
use Rattle.std.proofs.Common.{◌≡◌, ◌≤◌, ◌<◌, ◌-◌, ◌⊎◌, inl, inr, ℕ, zero, suc, List, [], ◌∷◌, Option, Some, None, length, get_or, refl, sym, arith, subst}
use Rattle.std.specs.Prelude.{All, Any, IfSome, slice_get}
use Rattle.std.proofs.lemmas.List.Folds.{Any-from_list_any, list_any-from_Any}
use Rattle.uts_geom.specs.declared.span.Span.{Span}
use Rattle.uts_geom.specs.Spans.{is_inside}
use Rattle.uts_geom.specs.Lists.{not_above}
use Rattle.problem_types.specs.Form.{IsProblemInForm}
use Rattle.problem_types.specs.Levels.{cells_of, IsProper, LiesIn, IsTiled}
use Rattle.problem_types.specs.declared.problem.Problem.{Problem}
use Rattle.problem_types.specs.declared.problem.BoxLine.{BoxLine}
use Rattle.problem_types.specs.declared.problem.Level.{Level}
use Rattle.grid_levels.specs.Good.{HasMultiples, divided, IsNested, IsGood, IsGoodLevel}
use Rattle.task_check.specs.declared.fault.FaultKind.TheVariants as kind
use Rattle.task_check.specs.Faults.{of_level}
use Rattle.task_check.specs.First.{IsFaultless}
use Rattle.task_check.proofs.Accepted.{not_from, not_not_true, level_in_form}

abbrev Stable : Type 0 → Type 0
Stable P = ((P → ⊥) → ⊥) → P

stable_all : {A : Type 0} (P : A → Type 0) → ((x : A) → Stable (P x)) → (xs : List A) → Stable (All P xs)
stable_all P stable xs not_not = λ k d below. stable (get_or xs k d) (λ no. not_not (λ each. no (each k d below)))

at_one : {A : Type 0} (P : A → Type 0) (x y : A) (k : ℕ) → k < 1 → get_or (x ∷ []) k y ≡ y → P y → P x
at_one P x y zero below is holds = subst P (sym is) holds
at_one P x y (suc k) below is holds = absurd (omega arith)

stable_any_of_one : {A : Type 0} (P : A → Type 0) → ((x : A) → Stable (P x)) → (xs : List A) → length xs ≡ 1 → Stable (Any P xs)
stable_any_of_one P stable [] one not_not = absurd (omega arith)
stable_any_of_one P stable (x ∷ []) one not_not =
    (0, x, omega arith, refl, stable x (λ no. not_not (λ some. no (at_one P x some.1 some.0 some.2 some.3 some.4))))
stable_any_of_one P stable (x ∷ y ∷ xs) one not_not = absurd (omega arith)

stable_proper : (b : BoxLine) → Stable (IsProper b)
stable_proper b not_not = λ axis below. not_from _ _ (λ from. not_not (λ proper. let low = proper axis below in omega (arith, from, low)))

stable_lies : (inner outer : Span) → Stable (LiesIn inner outer)
stable_lies inner outer not_not = λ i inside. not_not_true _ (λ no. not_not (λ lies. no (lies i inside)))

stable_tiled : (l : Level) → length l.boxes ≡ 1 → Stable (IsTiled l)
stable_tiled l one not_not = record {
  boxes = stable_all IsProper stable_proper l.boxes (λ no. not_not (λ tiled. no tiled.boxes));
  patches = stable_all IsProper stable_proper l.patches (λ no. not_not (λ tiled. no tiled.patches));
  inside = stable_all (λ q. Any (λ b. LiesIn (cells_of q) (cells_of b)) l.boxes)
      (λ q. stable_any_of_one (λ b. LiesIn (cells_of q) (cells_of b)) (λ b. stable_lies (cells_of q) (cells_of b)) l.boxes one)
      l.patches (λ no. not_not (λ tiled. no tiled.inside));
  apart = λ j k d before below i here there. not_not (λ tiled. tiled.apart j k d before below i here there);
  filled = λ i on_level. Any-from_list_any (λ q. is_inside (cells_of q) i) l.patches
      (not_not_true _ (λ no. not_not (λ tiled. no (list_any-from_Any (λ q. is_inside (cells_of q) i) l.patches (tiled.filled i on_level)))));
}

stable_same : (m n : ℕ) → Stable (m ≡ n)
stable_same m n not_not =
    let low : m ≤ n = not_above m n (λ above. not_not (λ same. omega (arith, above, same))) in
    let high : n ≤ m = not_above n m (λ above. not_not (λ same. omega (arith, above, same))) in
    omega (arith, low, high)

neither : (r m n : ℕ) → (r ≡ m → ⊥) → (r ≡ n → ⊥) → (r ≡ m) ⊎ (r ≡ n) → ⊥
neither r m n no_m no_n (inl same) = no_m same
neither r m n no_m no_n (inr same) = no_n same

stable_two_or_four : (r : ℕ) → Stable ((r ≡ 2) ⊎ (r ≡ 4))
stable_two_or_four zero not_not = absurd (not_not (neither 0 2 4 (λ e. omega (arith, e)) (λ e. omega (arith, e))))
stable_two_or_four (suc zero) not_not = absurd (not_not (neither 1 2 4 (λ e. omega (arith, e)) (λ e. omega (arith, e))))
stable_two_or_four (suc (suc zero)) not_not = inl refl
stable_two_or_four (suc (suc (suc zero))) not_not = absurd (not_not (neither 3 2 4 (λ e. omega (arith, e)) (λ e. omega (arith, e))))
stable_two_or_four (suc (suc (suc (suc zero)))) not_not = inr refl
stable_two_or_four (suc (suc (suc (suc (suc r))))) not_not =
    absurd (not_not (neither (suc (suc (suc (suc (suc r))))) 2 4 (λ e. omega (arith, e)) (λ e. omega (arith, e))))

stable_multiples : (ratio : ℕ) (b : BoxLine) → Stable (HasMultiples ratio b)
stable_multiples ratio b not_not = λ axis below. (
  stable_same _ _ (λ no. not_not (λ multiples. no (multiples axis below).0)),
  stable_same _ _ (λ no. not_not (λ multiples. no (multiples axis below).1)),
)

stable_nested : (coarser l : Level) → length coarser.boxes ≡ 1 → Stable (IsNested coarser l)
stable_nested coarser l one =
    stable_all (λ b. Any (λ c. LiesIn (divided l.ratio (cells_of b)) (cells_of c)) coarser.boxes)
    (λ b. stable_any_of_one (λ c. LiesIn (divided l.ratio (cells_of b)) (cells_of c)) (λ c. stable_lies (divided l.ratio (cells_of b)) (cells_of c)) coarser.boxes one) l.boxes

stable_nested_in : (o : Option Level) (l : Level) → ((coarser : Level) → o ≡ Some coarser → length coarser.boxes ≡ 1) → Stable (IfSome o (λ coarser. IsNested coarser l))
stable_nested_in None l one not_not = tt
stable_nested_in (Some coarser) l one not_not = stable_nested coarser l (one coarser refl) not_not

stable_good : (p : Problem) (level : ℕ) (l : Level) → IsProblemInForm p → slice_get p.levels level ≡ Some l → Stable (IsGood p level l)
stable_good p level l form at not_not = record {
  ratio = (
    λ coarsest. stable_same l.ratio 1 (λ no. not_not (λ good. no (good.ratio.0 coarsest))),
    λ refined. stable_two_or_four l.ratio (λ no. not_not (λ good. no (good.ratio.1 refined))),
  );
  tiled = stable_tiled l (level_in_form p form level l at).one_box (λ no. not_not (λ good. no good.tiled));
  multiples = λ refined. record {
    boxes = stable_all (HasMultiples l.ratio) (stable_multiples l.ratio) l.boxes (λ no. not_not (λ good. no (good.multiples refined).boxes));
    patches = stable_all (HasMultiples l.ratio) (stable_multiples l.ratio) l.patches (λ no. not_not (λ good. no (good.multiples refined).patches));
  };
  nested = λ refined. stable_nested_in (slice_get p.levels (level - 1)) l (λ coarser there. (level_in_form p form (level - 1) coarser there).one_box)
      (λ no. not_not (λ good. no (good.nested refined)));
}

module _ (p : Problem) (form : IsProblemInForm p) (faultless : IsFaultless p) (level : ℕ) (l : Level) (at : slice_get p.levels level ≡ Some l) where
  -- each level is good
  pub is_good : IsGood p level l
  is_good = stable_good p level l form at (λ no. faultless l.line kind.BadGrid
      (of_level level l kind.BadGrid at (λ good. no (subst (λ o. IfSome o (IsGood p level)) at good))))

  pub is_good_level : IsGoodLevel p level
  is_good_level = subst (λ o. IfSome o (IsGood p level)) (sym at) is_good
