use Rattle.std.proofs.Common.{◌≡◌, ◌∙◌, ◌+◌, ◌*◌, ℕ, List, length, take, ap, sym, refl, arith}
use Rattle.uts_geom.specs.Counting.{length-counted}
use Rattle.task_check.specs.Plan.{patches_of}
use Rattle.task_check.specs.Sizes.{patches_on}
use Rattle.graph_compiler.specs.Layouts.{before}
use Rattle.graph_compiler.proofs.Laying.{few_materials, few_parts}
use Rattle.graph_compiler.proofs.layout.parts_before.Goals as goal

pub returns-clause-few : goal.returns-clause-few
returns-clause-few c =
    let t = c.args.t.now in
    let few = few_materials c.args.p.now t c.requires.limits c.requires.task c.requires.form in
    let within = few_parts c.args.p.now t c.args.level c.args.material c.patches_on.result c.patch_count.result few c.patches_on.ensures.few c.patch_count.ensures.few in
    let same : length c.as_slice-materials.result.now * c.patches_on.result + c.before-2.result * c.patch_count.result
    ≡ length t.materials * c.patches_on.result + before c.args.material t.materials * c.patch_count.result =
    rw (c.before-2.ensures, c.as_slice-materials.ensures) refl in
    omega (arith, within, same)

pub overflow_add-result : goal.overflow_add-result
overflow_add-result c = omega (arith, returns-clause-few c)

pub returns-clause-count : goal.returns-clause-count
returns-clause-count c =
    let p = c.args.p.now in
    let t = c.args.t.now in
    let count : c.patch_count.result ≡ length (patches_of p c.args.level) = sym (length-counted 0 c.patch_count.result) ∙ ap length (sym c.patch_count.ensures.patches) in
    let below : c.before-below.result ≡ before c.args.level t.levels = c.before-below.ensures ∙ ap (before c.args.level) c.as_slice-levels.ensures in
    let lower : c.before-2.result ≡ before c.args.material t.materials = c.before-2.ensures ∙ ap (before c.args.material) c.as_slice-materials.ensures in
    let on : c.patches_on.result ≡ patches_on p (take (before c.args.level t.levels) t.levels) =
    c.patches_on.ensures.count ∙ ap (λ (levels : List ℕ). patches_on p (take c.before-below.result levels)) c.as_slice-levels.ensures ∙ ap (λ (n : ℕ). patches_on p (take n t.levels)) below in
    rw (on, count, lower, c.as_slice-materials.ensures) refl
