use Rattle.std.proofs.Common.{◌≡◌, ◌∙◌, length, sym, subst, ◌≤◌, ℕ, Some, None, refl}
use Rattle.std.specs.Prelude.{slice_get}
use Rattle.std.proofs.lemmas.Option.{slice_get_read, slice_get_past}
use Rattle.task_check.proofs.Details.{patches_at, patches_past, few_patches}
use Rattle.task_check.proofs.plan.details.patch_count.Goals as goal

pub returns-in-Some-clause-count : goal.returns-in-Some-clause-count
returns-in-Some-clause-count c =
    let there = c.in-Some.ensures.lookup.3 in
    let read : slice_get c.as_slice.result.now c.args.level ≡ Some c.in-Some.l.now =
    slice_get_read c.as_slice.result.now (length c.as_slice.result.now) c.args.level c.in-Some.l.now refl there.0 (there.1 c.in-Some.l.now) in
    c.len.ensures ∙ patches_at c.args.p.now c.args.level c.in-Some.l.now (rw c.as_slice.ensures at read)

pub returns-in-Some-clause-few : goal.returns-in-Some-clause-few
returns-in-Some-clause-few c =
    subst (λ (n : ℕ). n ≤ 1024) (sym (returns-in-Some-clause-count c)) (few_patches c.args.p.now c.requires.form c.requires.faultless c.args.level)

pub returns-in-None-clause-count : goal.returns-in-None-clause-count
returns-in-None-clause-count c =
    let past : slice_get c.as_slice.result.now c.args.level ≡ None = slice_get_past c.as_slice.result.now c.args.level c.in-None.ensures.lookup.3 in
    patches_past c.args.p.now c.args.level (rw c.as_slice.ensures at past)
