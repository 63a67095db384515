-- Probes that watch a run, step by step.
use Rattle.std.proofs.Common.{◌≡◌, ◌∙◌, ◌+◌, ◌≤◌, ℕ, zero, suc, List, [], ◌∷◌, ◌++◌, map, Bool, true, false, Result, Ok, Err, ap, sym, subst, refl, arith, append-nil}
use Rattle.std.specs.Prelude.{IsOk, OnOk, if◌then◌else◌}
use Rattle.std.specs.List.{flat_map}
use Rattle.std.proofs.lemmas.Grind.{flat_map-append}
use Rattle.uts_geom.specs.Spans.{counted}
use Rattle.problem_types.specs.Lists.{is_dumped}
use Rattle.problem_types.specs.declared.problem.Problem.{Problem}
use Rattle.probes.specs.declared.row.Row.{Row}
use Rattle.probes.specs.Watching.{Meaning, after_rows}
use Rattle.uts_model.specs.Dump.{Shown, dump_rows, shown_at, step_rows}
use Rattle.dump_text.specs.Counted.{counted-more}
use Rattle.dump_text.specs.Laws.{WatchTheRun}
use Rattle.dump_text.specs.declared.fault.RunFault.{RunFault}
use Rattle.dump_text.proofs.Seen.{after_both, none_after}

at_ok : {T E : Type 0} (P : Type 0) (r : Result T E) → IsOk r → OnOk r P → P
at_ok P (Ok x) ok at = at
at_ok P (Err e) ok at = cc

all_after_both : (a b : List Row) (ms : List Meaning) → map (after_rows b) (map (after_rows a) ms) ≡ map (after_rows (a ++ b)) ms
all_after_both a b [] = refl
all_after_both a b (m ∷ ms) =
    ap (λ x. x ∷ map (after_rows b) (map (after_rows a) ms)) (after_both a b m) ∙ ap (λ t. after_rows (a ++ b) m ∷ t) (all_after_both a b ms)

module _ (p : Problem) (shown : ℕ → Shown) (result : ℕ → Result (Unit {0}) RunFault) (probes : ℕ → List Meaning)
    (watch : WatchTheRun p shown result probes) where
  -- what a step adds
  step_seen : (step : ℕ) → step ≤ p.steps.value → (dumped : Bool) → is_dumped p step ≡ dumped →
      probes (step + 1) ≡ map (after_rows (if dumped then step_rows p (shown_at p step) step else [])) (probes step)
  step_seen step within true is =
      at_ok (probes (step + 1) ≡ map (after_rows (step_rows p (shown step) step)) (probes step)) (result step) (watch.ok step within is) (watch.noted step within is)
      ∙ ap (λ rows. map (after_rows rows) (probes step)) (watch.right step within is)
  step_seen step within false is = watch.same step within is ∙ none_after (probes step)

  seen_before : (count : ℕ) → count ≤ p.steps.value + 1 →
      probes count ≡ map (after_rows (flat_map (λ step. if is_dumped p step then step_rows p (shown_at p step) step else []) (counted 0 count))) (probes 0)
  seen_before zero within = none_after (probes 0)
  seen_before (suc k) within =
      let of : ℕ → List Row = λ step. if is_dumped p step then step_rows p (shown_at p step) step else [] in
      let seen = seen_before k (omega arith) in
      let next : probes (k + 1) ≡ map (after_rows (of k)) (probes k) = step_seen k (omega arith) (is_dumped p k) refl in
      let together : flat_map of (counted 0 (k + 1)) ≡ flat_map of (counted 0 k) ++ of k =
      ap (flat_map of) (counted-more k) ∙ flat_map-append of (counted 0 k) (k ∷ []) ∙ ap (λ t. flat_map of (counted 0 k) ++ t) (append-nil (of k)) in
      let one : suc k ≡ k + 1 = omega arith in
      subst (λ n. probes n ≡ map (after_rows (flat_map of (counted 0 n))) (probes 0)) (sym one)
      (next ∙ ap (map (after_rows (of k))) seen ∙ all_after_both (flat_map of (counted 0 k)) (of k) (probes 0)
      ∙ ap (λ rows. map (after_rows rows) (probes 0)) (sym together))

  pub run_seen : probes (p.steps.value + 1) ≡ map (after_rows (dump_rows p)) (probes 0)
  unfolding dump_rows
  run_seen = seen_before (p.steps.value + 1) (omega arith)
