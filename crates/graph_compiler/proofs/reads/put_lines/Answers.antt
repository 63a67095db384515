use Rattle.std.proofs.Common.{◌≡◌, ◌∙◌, ◌<◌, ◌++◌, ◌∷◌, [], ℕ, List, Bool, Some, cond, filter, length, map, ap, sym, arith, append_assoc}
use Rattle.std.specs.Prelude.{slice_get, false}
use Rattle.std.specs.Option.{option_map_or}
use Rattle.std.proofs.lemmas.Option.{slice_get-get_or}
use Rattle.uts_geom.specs.Spans.{counted}
use Rattle.problem_types.specs.Lists.{is_reduces}
use Rattle.problem_types.specs.declared.problem.Write.{Write}
use Rattle.task_check.specs.Plan.{line_is}
use Rattle.graph_compiler.specs.Reading.{part_slots}
use Rattle.graph_compiler.proofs.Merging.{map_passing}
use Rattle.graph_compiler.proofs.reads.put_lines.Goals as goal

pub loop-line-preserved : goal.loop-line-preserved
loop-line-preserved c =
    let writes = c.args.t.now.writes in
    let line = c.loop-line.line in
    let test = line_is writes (λ w. is_reduces w.kind) in
    let g = part_slots c.args.layout in
    let below : line < length c.as_slice.result.now = omega (arith, c.loop-line-test.true, c.requires.lines, ap length c.as_slice.ensures) in
    let w = c.index-as_slice-line.result in
    let at : slice_get writes line ≡ Some w =
    ap (λ (ws : List Write). slice_get ws line) (sym c.as_slice.ensures) ∙ slice_get-get_or c.as_slice.result.now line w below ∙ ap Some (sym c.index-as_slice-line.is) in
    let passes : c.is_reduces-reduces.result ≡ test line =
    c.is_reduces-reduces.ensures ∙ ap (λ (v : Write). is_reduces v.kind) (sym c.index-as_slice-line.is) ∙ sym (ap (λ o. option_map_or (λ (v : Write). is_reduces v.kind) o false) at) in
    c.in_ok-put_combining.ensures
    ∙ ap (λ (b : Bool). c.loop-line.all ++ cond b (g line ∷ []) []) passes
    ∙ ap (λ (xs : List (List ℕ)). xs ++ cond (test line) (g line ∷ []) []) c.loop-line.invariant
    ∙ append_assoc c.args.all.now (map g (filter test (counted 0 line))) (cond (test line) (g line ∷ []) [])
    ∙ ap (λ (xs : List (List ℕ)). c.args.all.now ++ xs) (sym (map_passing g test line))
