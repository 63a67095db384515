use Rattle.std.proofs.Common.{◌≡◌, ◌<◌, ◌≤◌, ℕ}
use Rattle.std.specs.Prelude.{IsTrue}
use Rattle.std.specs.List.{count_by}
use Rattle.uts_geom.specs.Spans.{counted, do_meet, has_indexes}
use Rattle.uts_geom.specs.declared.span.Span.{Span}
use Rattle.task_check.specs.Columns.{HasSpan, IsCutWindow}
use Rattle.task_check.proofs.plan.columns.Columns.met.Given as goal

abbrev pub invariant-loop-place : goal.invariant-loop-place
invariant-loop-place l = record {
  count : (own : ℕ → Span) (s : Span) → ((place : ℕ) → place < l.self.count → HasSpan l.self place (own place)) → IsCutWindow l.w s → IsTrue (has_indexes s) →
      l.n ≡ count_by (λ place. do_meet (own place) s) (counted 0 l.place);
  few : l.n ≤ l.place;
}
