use Rattle.std.proofs.Common.{◌≡◌, ◌∙◌, length, ap, sym}
use Rattle.uts_geom.specs.Counting.{length-counted}
use Rattle.task_check.specs.Plan.{patches_of}
use Rattle.graph_compiler.proofs.OldPlacing.{old_at, patches_below}
use Rattle.graph_compiler.proofs.old_places.old_place.Goals as goal

pub returns-clause-place : goal.returns-clause-place
returns-clause-place c = λ v patch at there.
    let p = c.args.p.now in
    let all : c.patches_below-all.result ≡ patches_below p (length p.levels) = c.patches_below-all.ensures.count ∙ ap (patches_below p) c.len.ensures in
    let count : c.patch_count-on_level.result ≡ length (patches_of p c.args.level) =
    sym (ap length c.patch_count-on_level.ensures.patches ∙ length-counted 0 c.patch_count-on_level.result) in
    rw (all, count, c.patches_below.ensures.count) (old_at p c.args.var c.args.level c.args.material patch v at c.requires.level c.requires.material there)
