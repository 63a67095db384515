-- What probes have seen at the end of a run.
use Rattle.std.specs.Prelude.{◌≡◌, ℕ, ◌+◌, ◌≤◌, List, Result, IsOk, OnOk, true, false, map}
use Rattle.problem_types.specs.Lists.{is_dumped}
use Rattle.problem_types.specs.declared.problem.Problem.{Problem}
use Rattle.probes.specs.Watching.{Meaning, after_rows}
use Rattle.uts_model.specs.Dump.{Shown, dump_rows, shown_at, step_rows}
use Rattle.dump_text.specs.declared.fault.RunFault.{RunFault}

-- What the probes of a run mean before each of its steps, and behind the last one. At each dumped step a call of `dump_step` was Ok, which
-- had rows that are right to show, and the probes noted them (`all_noted`). No other call of a run changes a probe.
pub record WatchTheRun (p : Problem) (shown : ℕ → Shown) (result : ℕ → Result (Unit {0}) RunFault) (probes : ℕ → List Meaning) : Type 0 where
  pub right : (step : ℕ) → step ≤ p.steps.value → is_dumped p step ≡ true → step_rows p (shown step) step ≡ step_rows p (shown_at p step) step
  pub ok : (step : ℕ) → step ≤ p.steps.value → is_dumped p step ≡ true → IsOk (result step)
  pub noted : (step : ℕ) → step ≤ p.steps.value → is_dumped p step ≡ true →
      OnOk (result step) (probes (step + 1) ≡ map (after_rows (step_rows p (shown step) step)) (probes step))
  pub same : (step : ℕ) → step ≤ p.steps.value → is_dumped p step ≡ false → probes (step + 1) ≡ probes step

-- Probes that watched a whole run have seen all rows of its dump: the state of each is its fold over them in order, from the state before.
abbrev pub ProbesSeeTheDump : Type 0
ProbesSeeTheDump = (p : Problem) (shown : ℕ → Shown) (result : ℕ → Result (Unit {0}) RunFault) (probes : ℕ → List Meaning)
    → WatchTheRun p shown result probes → probes (p.steps.value + 1) ≡ map (after_rows (dump_rows p)) (probes 0)
