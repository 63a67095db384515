use Rattle.std.proofs.Common.{◌≡◌, ◌∙◌, ap, sym, rules, arith, ℕ, ℤ, pos, ◌+◌, ◌-◌, ◌*◌, ◌≤◌, ◌<◌, true, false, w64, FitsSigned, Some, List, length, fold, take, slice_get, to_z}
use Rattle.std.specs.List.{flat_map}
use Rattle.std.specs.Ordering.{int_eq}
use Rattle.std.proofs.lemmas.Int.{to_z-of_z}
use Rattle.std.proofs.lemmas.List.{take_all}
use Rattle.problem_types.specs.Lists.{centring_of}
use Rattle.problem_types.specs.Regions.{is_in_space, moved, offset_of, ratio_of, coarse_index}
use Rattle.kernel_ast.specs.Size.{depth_of}
use Rattle.problem_types.specs.Regions.{indexes_of as indexes_on, children_of}
use Rattle.problem_types.specs.Lists.{fold_of}
use Rattle.problem_types.specs.declared.problem.Fold.{Fold}
use Rattle.reductions.specs.Folding.{combined, identity_of, all_combined}
use Rattle.uts_geom.specs.Spans.{indexes_of}
use Rattle.uts_geom.specs.declared.centring.Centring.{Centring}
use Rattle.uts_geom.specs.declared.index.Index.{Index}
use Rattle.kernel_ast.specs.Arithmetic.{difference_of}
use Rattle.kernel_ast.specs.Value.{value_of, result_of}
use Rattle.kernel_ast.specs.declared.expression.Expr.{Expr}
use Rattle.uts_model.specs.Folds.{numbers_of_children, place_of, numbers_on, numbers_for, all_numbers}
use Rattle.uts_model.specs.WholeField.{task_count, reduced_centring}
use Rattle.uts_model.specs.Moments.{state_of, moment_of, environment_at}
use Rattle.uts_model.specs.declared.numbers.Reducing.{Reducing}
use Rattle.uts_model.specs.declared.moments.Moment.TheVariants.{InStep}
use Rattle.uts_model.proofs.Far.{field_alike}
use Rattle.uts_model.proofs.Folded.{child_number, length-children, number_at, length-numbers_on, fold_step, fold_end, all_numbers_are}
use Rattle.uts_model.proofs.Ranks.{rank, rank-moment_of, IsMoment-moment_of}
use Rattle.uts_model.proofs.ReadForms.{read_same, read_coarse, read_sum, read_min, read_max}
use Rattle.uts_model.proofs.Shallow.{shallow_kernel, shallow_reduction}
use Rattle.uts_model.proofs.States.{field_before, reduction_before, field_unset, reduction_unset, field_outside, field_written, field_left, reduction_written, reduction_left}
use Rattle.uts_model.proofs.Expressions.{number_of_negation, number_of_operation, number_of_first, number_of_second}
use Rattle.uts_model.proofs.numbers.+numbers.Goals as goal

pub field-returns-in_default : goal.field-returns-in_default
field-returns-in_default t c =
    rw c.in_default.is (sym (field_before c.args.problem.now c.args.name c.args.site.material c.args.site.level c.args.site.index))

pub field-returns-then-tasks-eq0 : goal.field-returns-then-tasks-eq0
field-returns-then-tasks-eq0 t c =
    let fits : FitsSigned w64 c.outside_of.result = search rules in
    let moment : c.args.moment ≡ InStep c.in-InStep.step 0 = c.in-InStep.is ∙ ap (InStep c.in-InStep.step) c.if-tasks-eq0.true in
    rw moment
    (to_z-of_z w64 c.outside_of.result fits ∙ c.outside_of.ensures
    ∙ sym (field_unset c.args.problem.now c.in-InStep.step c.args.name c.args.site.material c.args.site.level c.args.site.index))

pub field-returns-then-not-is_in_space : goal.field-returns-then-not-is_in_space
field-returns-then-not-is_in_space t c =
    let p = c.args.problem.now in
    let fits : FitsSigned w64 c.outside_of-then-not-is_in_space.result = search rules in
    let beside : is_in_space p c.args.site.level (centring_of p c.args.name) c.args.site.index ≡ false =
    ap (λ (k : Centring). is_in_space p c.args.site.level k c.args.site.index) (sym c.centring_of.ensures)
    ∙ sym c.is_in_space.ensures.inside ∙ c.if-not-is_in_space.true in
    rw c.in-InStep.is
    (to_z-of_z w64 c.outside_of-then-not-is_in_space.result fits ∙ c.outside_of-then-not-is_in_space.ensures
    ∙ sym (field_outside p c.in-InStep.step c.args.name c.args.site.material c.args.site.level c.args.site.index beside c.in-InStep.tasks))

pub field-value-requires : goal.field-value-requires
field-value-requires t c =
    let few : c.in-InStep.tasks ≤ task_count c.args.problem.now c.in-InStep.step = rw c.in-InStep.is at c.requires.moment in
    let measure : 128 * (65 * c.in-InStep.step + c.in-InStep.tasks + 1) ≡ t = rw c.in-InStep.is at c.decreases in
    let shallow : depth_of c.in-Some.kernel.now ≤ 64 =
    shallow_kernel c.task_at.result.now
    (c.requires.evaluable.tasks c.in-InStep.step (c.in-InStep.tasks - 1) c.task_at.result.now c.task_at.ensures).shallow
    c.args.name c.args.site.material c.args.site.level c.in-Some.kernel.now (sym c.in-Some.ensures) in
    let falls : 128 * (65 * c.in-InStep.step + (c.in-InStep.tasks - 1) + 1) + 2 + depth_of c.in-Some.kernel.now < t =
    omega (arith, measure, shallow, c.if-tasks-eq0.false) in (
      falls,
      (
        record {
          evaluable = c.requires.evaluable;
          tasks = omega (arith, few);
          on_level = c.is_in_space.ensures.on_level c.if-not-is_in_space.false;
        },
        shallow,
      ),
    )

pub field-returns-in-Some : goal.field-returns-in-Some
field-returns-in-Some t c =
    let p = c.args.problem.now in
    let fits : FitsSigned w64 c.value.result = search rules in
    let inside : is_in_space p c.args.site.level (centring_of p c.args.name) c.args.site.index ≡ true =
    ap (λ (k : Centring). is_in_space p c.args.site.level k c.args.site.index) (sym c.centring_of.ensures)
    ∙ sym c.is_in_space.ensures.inside ∙ c.if-not-is_in_space.false in
    let more : c.in-InStep.tasks ≡ (c.in-InStep.tasks - 1) + 1 = omega (arith, c.if-tasks-eq0.false) in
    let moment : c.args.moment ≡ InStep c.in-InStep.step ((c.in-InStep.tasks - 1) + 1) = c.in-InStep.is ∙ ap (InStep c.in-InStep.step) more in
    rw moment
    (to_z-of_z w64 c.value.result fits ∙ c.value.ensures
    ∙ sym (field_written p c.in-InStep.step (c.in-InStep.tasks - 1) c.task_at.result.now c.task_at.ensures
    c.args.name c.args.site.material c.args.site.level c.args.site.index c.in-Some.kernel.now inside (sym c.in-Some.ensures)))

pub field-returns-in-None : goal.field-returns-in-None
field-returns-in-None t c =
    let p = c.args.problem.now in
    let fits : FitsSigned w64 c.field.result = search rules in
    let inside : is_in_space p c.args.site.level (centring_of p c.args.name) c.args.site.index ≡ true =
    ap (λ (k : Centring). is_in_space p c.args.site.level k c.args.site.index) (sym c.centring_of.ensures)
    ∙ sym c.is_in_space.ensures.inside ∙ c.if-not-is_in_space.false in
    let more : c.in-InStep.tasks ≡ (c.in-InStep.tasks - 1) + 1 = omega (arith, c.if-tasks-eq0.false) in
    let moment : c.args.moment ≡ InStep c.in-InStep.step ((c.in-InStep.tasks - 1) + 1) = c.in-InStep.is ∙ ap (InStep c.in-InStep.step) more in
    rw moment
    (to_z-of_z w64 c.field.result fits ∙ c.field.ensures
    ∙ sym (field_left p c.in-InStep.step (c.in-InStep.tasks - 1) c.task_at.result.now c.task_at.ensures
    c.args.name c.args.site.material c.args.site.level c.args.site.index inside (sym c.in-None.ensures)))

pub over_children-field-requires : goal.over_children-field-requires
over_children-field-requires t c =
    let lower = rank-moment_of c.args.place.now c.args.r.now.store c.requires in
    let falls : 128 * rank c.moment_of-moment.result < t = rw c.moment_of-moment.ensures (omega (arith, lower, c.decreases)) in
    (falls, (c.requires.evaluable, rw c.moment_of-moment.ensures (IsMoment-moment_of c.args.place.now c.args.r.now.store c.requires)))

pub over_children-loop-k-preserved : goal.over_children-loop-k-preserved
over_children-loop-k-preserved t c =
    let place = c.args.place.now in
    let r = c.args.r.now in
    let p = place.problem.now in
    let fits : FitsSigned w64 c.combine-total.result = search rules in
    let part : FitsSigned w64 c.field.result = search rules in
    let child : slice_get (children_of p place.site.level (centring_of p r.name) place.site.index) c.loop-k.k ≡ Some c.index_at.result =
    ap (λ (xs : List Index). slice_get xs c.loop-k.k)
    (sym (c.children-span.ensures.children ∙ ap (λ (k : Centring). children_of p place.site.level k place.site.index) c.centring_of.ensures))
    ∙ c.index_at.ensures.at in
    let number = rw (c.moment_of-moment.ensures, c.above-site.ensures) at c.field.ensures in
    to_z-of_z w64 c.combine-total.result fits
    ∙ fold_step c.args.f (identity_of c.args.f) (numbers_of_children place r) c.loop-k.k (to_z w64 c.loop-k.total-bits) c.field.result
    ((state_of p (moment_of place r.store)).field r.name place.site.material (place.site.level + 1) c.index_at.result)
    c.combine-total.result c.loop-k.invariant (child_number place r c.loop-k.k c.index_at.result child) number
    (simp to_z-of_z at c.combine-total.ensures)

pub over_children-returns : goal.over_children-returns
over_children-returns t c =
    let place = c.args.place.now in
    let r = c.args.r.now in
    let p = place.problem.now in
    let whole : length (numbers_of_children place r) ≡ length (indexes_of c.children-span.result) =
    length-children place r
    ∙ ap (λ (k : Centring). length (children_of p place.site.level k place.site.index)) (sym c.centring_of.ensures)
    ∙ ap length (sym c.children-span.ensures.children) in
    fold_end c.args.f (identity_of c.args.f) (numbers_of_children place r) c.loop-k.k (to_z w64 c.loop-k.total-bits) c.loop-k.invariant
    (omega (arith, whole, c.volume-k-end.ensures, c.loop-k-test.false))

pub over_indexes-value-requires : goal.over_indexes-value-requires
over_indexes-value-requires t c =
    let line = c.args.line.now in
    let falls : 128 * (65 * line.step + line.tasks + 1) + 2 + depth_of line.write.now.expr < t = omega (arith, c.decreases, c.requires.shallow) in (
      falls,
      (
        record {
          evaluable = c.requires.evaluable;
          tasks = c.requires.tasks;
          on_level = c.space-span.ensures.on_level c.index_at.result c.index_at.ensures.inside;
        },
        c.requires.shallow,
      ),
    )

pub over_indexes-loop-k-preserved : goal.over_indexes-loop-k-preserved
over_indexes-loop-k-preserved t c =
    let line = c.args.line.now in
    let p = line.problem.now in
    let fits : FitsSigned w64 c.combine-total.result = search rules in
    let part : FitsSigned w64 c.value.result = search rules in
    let start : FitsSigned w64 c.args.before = search rules in
    let at : slice_get (indexes_on p c.args.level (reduced_centring line.write.now.kind)) c.loop-k.k ≡ Some c.index_at.result =
    ap (λ (xs : List Index). slice_get xs c.loop-k.k)
    (ap (λ (k : Centring). indexes_on p c.args.level k) (sym c.reduced_centring.ensures) ∙ c.space-span.ensures.space.indexes)
    ∙ c.index_at.ensures.at in
    let numbers = numbers_on line c.args.level c.args.material in
    let so_far : to_z w64 c.loop-k.total-bits ≡ fold (combined c.args.f) c.args.before (take c.loop-k.k numbers) = simp to_z-of_z at c.loop-k.invariant in
    let next : c.combine-total.result ≡ fold (combined c.args.f) c.args.before (take (c.loop-k.k + 1) numbers) =
    fold_step c.args.f c.args.before numbers c.loop-k.k (to_z w64 c.loop-k.total-bits) c.value.result
    (value_of line.write.now.expr (environment_at (place_of line c.args.level c.args.material c.index_at.result)))
    c.combine-total.result so_far (number_at line c.args.level c.args.material c.loop-k.k c.index_at.result at) c.value.ensures
    (simp to_z-of_z at c.combine-total.ensures) in
    simp to_z-of_z next

pub over_indexes-returns : goal.over_indexes-returns
over_indexes-returns t c =
    let line = c.args.line.now in
    let p = line.problem.now in
    let whole : length (numbers_on line c.args.level c.args.material) ≡ length (indexes_of c.space-span.result) =
    length-numbers_on line c.args.level c.args.material
    ∙ ap (λ (k : Centring). length (indexes_on p c.args.level k)) (sym c.reduced_centring.ensures)
    ∙ ap length c.space-span.ensures.space.indexes in
    let start : FitsSigned w64 c.args.before = search rules in
    let numbers = numbers_on line c.args.level c.args.material in
    let so_far : to_z w64 c.loop-k.total-bits ≡ fold (combined c.args.f) c.args.before (take c.loop-k.k numbers) = simp to_z-of_z at c.loop-k.invariant in
    fold_end c.args.f c.args.before numbers c.loop-k.k (to_z w64 c.loop-k.total-bits) so_far
    (omega (arith, whole, c.volume-k-end.ensures, c.loop-k-test.false))

pub over_levels-returns : goal.over_levels-returns
unfolding all_numbers
over_levels-returns t c =
    let line = c.args.line.now in
    let items = c.as_slice-level-items.result.now in
    c.loop-level.invariant
    ∙ ap (λ (xs : List ℕ). fold (combined c.args.f) (identity_of c.args.f) (flat_map (numbers_for line) xs))
    (take_all c.loop-level.level-index items (omega (arith, c.loop-level-test.false)) ∙ c.as_slice-level-items.ensures)

pub over_materials-returns : goal.over_materials-returns
unfolding numbers_for
over_materials-returns t c =
    let line = c.args.line.now in
    let items = c.as_slice-material-items.result.now in
    let start : FitsSigned w64 c.args.before = search rules in
    let so_far : to_z w64 c.loop-material.total-bits
    ≡ fold (combined c.args.f) c.args.before (flat_map (numbers_on line c.args.level) (take c.loop-material.material-index items)) =
    simp to_z-of_z at c.loop-material.invariant in
    so_far
    ∙ ap (λ (xs : List ℕ). fold (combined c.args.f) c.args.before (flat_map (numbers_on line c.args.level) xs))
    (take_all c.loop-material.material-index items (omega (arith, c.loop-material-test.false)) ∙ c.as_slice-material-items.ensures)

pub read-returns-in-Same : goal.read-returns-in-Same
read-returns-in-Same t c =
    let place = c.args.place.now in
    let fits : FitsSigned w64 c.field.result = search rules in
    let made = rw (c.moment_of-moment.ensures, c.beside.ensures.material, c.beside.ensures.level) at c.field.ensures in
    to_z-of_z w64 c.field.result fits ∙ made
    ∙ field_alike place.problem.now c.requires.evaluable.levels (moment_of place c.args.r.now.store) c.args.r.now.name place.site.material place.site.level
    c.beside.result.index (moved place.site.index (offset_of c.args.r.now.offset)) c.beside.ensures.index
    ∙ sym (read_same place c.args.r.now c.in-Same.is)

pub read-returns-in-Coarse : goal.read-returns-in-Coarse
read-returns-in-Coarse t c =
    let place = c.args.place.now in
    let fits : FitsSigned w64 c.field-in-Coarse.result = search rules in
    let made = rw (c.moment_of-moment.ensures, c.below.ensures.material, c.below.ensures.level) at c.field-in-Coarse.ensures in
    to_z-of_z w64 c.field-in-Coarse.result fits ∙ made
    ∙ field_alike place.problem.now c.requires.evaluable.levels (moment_of place c.args.r.now.store) c.args.r.now.name place.site.material (place.site.level - 1)
    c.below.result.index (moved (coarse_index (ratio_of place.problem.now place.site.level) place.site.index) (offset_of c.args.r.now.offset)) c.below.ensures.index
    ∙ sym (read_coarse place c.args.r.now c.in-Coarse.is)

pub read-returns-in-FineSum : goal.read-returns-in-FineSum
read-returns-in-FineSum t c =
    let fits : FitsSigned w64 c.over_children.result = search rules in
    to_z-of_z w64 c.over_children.result fits ∙ c.over_children.ensures ∙ sym (read_sum c.args.place.now c.args.r.now c.in-FineSum.is)

pub read-returns-in-FineMin : goal.read-returns-in-FineMin
read-returns-in-FineMin t c =
    let fits : FitsSigned w64 c.over_children-in-FineMin.result = search rules in
    to_z-of_z w64 c.over_children-in-FineMin.result fits ∙ c.over_children-in-FineMin.ensures ∙ sym (read_min c.args.place.now c.args.r.now c.in-FineMin.is)

pub read-returns-in-FineMax : goal.read-returns-in-FineMax
read-returns-in-FineMax t c =
    let fits : FitsSigned w64 c.over_children-in-FineMax.result = search rules in
    to_z-of_z w64 c.over_children-in-FineMax.result fits ∙ c.over_children-in-FineMax.ensures ∙ sym (read_max c.args.place.now c.args.r.now c.in-FineMax.is)

pub reduction-returns-in_default : goal.reduction-returns-in_default
reduction-returns-in_default t c = rw c.in_default.is (sym (reduction_before c.args.problem.now c.args.name))

pub reduction-returns-then-tasks-eq0 : goal.reduction-returns-then-tasks-eq0
reduction-returns-then-tasks-eq0 t c =
    let moment : c.args.moment ≡ InStep c.in-InStep.step 0 = c.in-InStep.is ∙ ap (InStep c.in-InStep.step) c.if-tasks-eq0.true in
    rw moment (sym (reduction_unset c.args.problem.now c.in-InStep.step c.args.name))

pub reduction-over_levels-requires : goal.reduction-over_levels-requires
reduction-over_levels-requires t c =
    let few : c.in-InStep.tasks ≤ task_count c.args.problem.now c.in-InStep.step = rw c.in-InStep.is at c.requires.moment in
    let measure : 128 * (65 * c.in-InStep.step + c.in-InStep.tasks + 1) ≡ t = rw c.in-InStep.is at c.decreases in
    let task = c.requires.evaluable.tasks c.in-InStep.step (c.in-InStep.tasks - 1) c.task_at-task.result.now c.task_at-task.ensures in
    let falls : 128 * (65 * c.in-InStep.step + (c.in-InStep.tasks - 1) + 1) + 69 < t = omega (arith, measure, c.if-tasks-eq0.false) in (
      falls,
      record {
        evaluable = c.requires.evaluable;
        tasks = omega (arith, few);
        shallow = shallow_reduction c.task_at-task.result.now task.shallow c.args.name c.in-Some.write.now (sym c.in-Some.ensures);
        task = task;
      },
    )

pub reduction-returns-in-Some : goal.reduction-returns-in-Some
reduction-returns-in-Some t c =
    let p = c.args.problem.now in
    let fits : FitsSigned w64 c.over_levels.result = search rules in
    let line : Reducing = record {
      problem = c.args.problem;
      step = c.in-InStep.step;
      tasks = c.in-InStep.tasks - 1;
      task = c.task_at-task.result;
      write = c.in-Some.write;
    } in
    let more : c.in-InStep.tasks ≡ (c.in-InStep.tasks - 1) + 1 = omega (arith, c.if-tasks-eq0.false) in
    let moment : c.args.moment ≡ InStep c.in-InStep.step ((c.in-InStep.tasks - 1) + 1) = c.in-InStep.is ∙ ap (InStep c.in-InStep.step) more in
    rw moment
    (to_z-of_z w64 c.over_levels.result fits ∙ c.over_levels.ensures
    ∙ ap (λ (f : Fold). all_combined f (all_numbers line)) c.fold_of.ensures
    ∙ ap (all_combined (fold_of p c.args.name)) (all_numbers_are line)
    ∙ sym (reduction_written p c.in-InStep.step (c.in-InStep.tasks - 1) c.task_at-task.result.now c.task_at-task.ensures
    c.args.name c.in-Some.write.now (sym c.in-Some.ensures)))

pub reduction-returns-in-None : goal.reduction-returns-in-None
reduction-returns-in-None t c =
    let fits : FitsSigned w64 c.reduction.result = search rules in
    let more : c.in-InStep.tasks ≡ (c.in-InStep.tasks - 1) + 1 = omega (arith, c.if-tasks-eq0.false) in
    let moment : c.args.moment ≡ InStep c.in-InStep.step ((c.in-InStep.tasks - 1) + 1) = c.in-InStep.is ∙ ap (InStep c.in-InStep.step) more in
    rw moment
    (to_z-of_z w64 c.reduction.result fits ∙ c.reduction.ensures
    ∙ sym (reduction_left c.args.problem.now c.in-InStep.step (c.in-InStep.tasks - 1) c.task_at-task.result.now c.task_at-task.ensures
    c.args.name (sym c.in-None.ensures)))

pub value-returns-in-Neg : goal.value-returns-in-Neg
value-returns-in-Neg t c =
    let e = environment_at c.args.place.now in
    let fits : FitsSigned w64 c.wsub.result = search rules in
    let part : FitsSigned w64 c.value.result = search rules in
    to_z-of_z w64 c.wsub.result fits ∙ (simp to_z-of_z at c.wsub.ensures)
    ∙ ap (λ (n : ℤ). difference_of (pos 0) n) (c.value.ensures ∙ ap (λ (k : Expr). value_of k e) c.get.ensures)
    ∙ number_of_negation c.args.e.now e c.in-Neg.a c.in-Neg.is

pub value-returns-in-Binary : goal.value-returns-in-Binary
value-returns-in-Binary t c =
    let e = environment_at c.args.place.now in
    let fits : FitsSigned w64 c.apply.result = search rules in
    let left : FitsSigned w64 c.value-in-Binary.result = search rules in
    let right : FitsSigned w64 c.value-in-Binary-2.result = search rules in
    to_z-of_z w64 c.apply.result fits ∙ (simp to_z-of_z at c.apply.ensures)
    ∙ ap (λ (n : ℤ). result_of c.in-Binary.op n c.value-in-Binary-2.result) (c.value-in-Binary.ensures ∙ ap (λ (k : Expr). value_of k e) c.get-in-Binary.ensures)
    ∙ ap (λ (n : ℤ). result_of c.in-Binary.op (value_of c.in-Binary.a e) n) (c.value-in-Binary-2.ensures ∙ ap (λ (k : Expr). value_of k e) c.get-in-Binary-2.ensures)
    ∙ number_of_operation c.args.e.now e c.in-Binary.op c.in-Binary.a c.in-Binary.b c.in-Binary.is

pub value-returns-then-is_zero : goal.value-returns-then-is_zero
value-returns-then-is_zero t c =
    let e = environment_at c.args.place.now in
    let fits : FitsSigned w64 c.value-then-is_zero.result = search rules in
    let test : FitsSigned w64 c.value-in-Select.result = search rules in
    let tested : int_eq (value_of c.in-Select.c e) (pos 0) ≡ true =
    ap (λ (n : ℤ). int_eq n (pos 0)) (sym (c.value-in-Select.ensures ∙ ap (λ (k : Expr). value_of k e) c.get-in-Select.ensures))
    ∙ sym (simp to_z-of_z at c.is_zero.ensures) ∙ c.if-is_zero.true in
    to_z-of_z w64 c.value-then-is_zero.result fits ∙ c.value-then-is_zero.ensures ∙ ap (λ (k : Expr). value_of k e) c.get-then-is_zero.ensures
    ∙ number_of_second c.args.e.now e c.in-Select.c c.in-Select.a c.in-Select.b c.in-Select.is tested

pub value-returns-else-is_zero : goal.value-returns-else-is_zero
value-returns-else-is_zero t c =
    let e = environment_at c.args.place.now in
    let fits : FitsSigned w64 c.value-else-is_zero.result = search rules in
    let test : FitsSigned w64 c.value-in-Select.result = search rules in
    let tested : int_eq (value_of c.in-Select.c e) (pos 0) ≡ false =
    ap (λ (n : ℤ). int_eq n (pos 0)) (sym (c.value-in-Select.ensures ∙ ap (λ (k : Expr). value_of k e) c.get-in-Select.ensures))
    ∙ sym (simp to_z-of_z at c.is_zero.ensures) ∙ c.if-is_zero.false in
    to_z-of_z w64 c.value-else-is_zero.result fits ∙ c.value-else-is_zero.ensures ∙ ap (λ (k : Expr). value_of k e) c.get-else-is_zero.ensures
    ∙ number_of_first c.args.e.now e c.in-Select.c c.in-Select.a c.in-Select.b c.in-Select.is tested
