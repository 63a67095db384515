use Rattle.std.proofs.Common.{◌≡◌, ◌∙◌, ◌<◌, ℕ, Some, ap, sym, subst, arith, length}
use Rattle.std.specs.Prelude.{slice_get}
use Rattle.std.specs.List.{sum_by}
use Rattle.uts_geom.specs.Spans.{indexes_of, meet_of}
use Rattle.uts_geom.specs.declared.centring.Centring.{Centring}
use Rattle.uts_geom.specs.Lists.{placed}
use Rattle.problem_types.specs.Regions.{spaces_on}
use Rattle.problem_types.specs.Lists.{centring_of}
use Rattle.task_rules.specs.Lines.{wanted_level, wanted_name}
use Rattle.task_check.proofs.Accepted.{few_levels, keeps_grid_limits}
use Rattle.task_check.proofs.Details.{patches_at}
use Rattle.task_check.proofs.Gathered.{gathered_is, variable_unless}
use Rattle.task_check.proofs.plan.gathered.gathered_for.Goals as goal

pub wanted_level-requires : goal.wanted_level-requires
wanted_level-requires c = let few = few_levels c.args.p.now c.requires.faultless in omega (arith, few, c.requires.level)

pub wanted_window-requires : goal.wanted_window-requires
wanted_window-requires c = record {
  form = c.requires.form;
  faultless = c.requires.faultless;
  few = c.requires.few_layers;
  level = c.requires.level;
  patch = λ l there. subst (λ (n : ℕ). c.args.patch < n) (sym (patches_at c.args.p.now c.args.level l there)) c.requires.patch;
}

pub stored_on-requires : goal.stored_on-requires
stored_on-requires c =
    keeps_grid_limits c.args.p.now c.requires.form c.requires.faultless c.wanted_level.result c.level_at-wanted.result.now c.level_at-wanted.ensures

pub returns-in_default : goal.returns-in_default
returns-in_default c =
    let p = c.args.p.now in
    let r = c.args.r in
    let (l, there) = placed p.levels c.args.level c.requires.level in
    let wanted : slice_get p.levels (wanted_level r.what c.args.level) ≡ Some c.level_at-wanted.result.now = rw c.wanted_level.ensures at c.level_at-wanted.ensures in
    let centring : c.centring_of.result ≡ centring_of p (wanted_name r.what) = c.centring_of.ensures ∙ ap (centring_of p) c.wanted_name.ensures in record {
      count = gathered_is p c.args.t.now c.args.level c.args.patch r l c.level_at-wanted.result.now c.wanted_window.result c.stored_on.result
          (variable_unless r.what c.in_default.not-Number) there (c.wanted_window.ensures l there) wanted
          (c.stored_on.ensures.stored ∙ ap (λ (k : Centring). sum_by (λ s. length (indexes_of (meet_of c.wanted_window.result s))) (spaces_on k c.level_at-wanted.result.now)) centring);
      few = c.stored_on.ensures.few;
    }
