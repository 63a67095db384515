use Rattle.std.proofs.Common.{◌≡◌, ◌∙◌, Option, Some, length, ap}
use Rattle.std.specs.Option.{option_map_or}
use Rattle.uts_geom.specs.declared.centring.Centring.{Centring}
use Rattle.problem_types.specs.Lists.{centring_of}
use Rattle.task_rules.specs.Lines.{wanted_name}
use Rattle.task_check.specs.Plan.{patches_of}
use Rattle.task_check.specs.Reaches.{reach_of, touch_count}
use Rattle.task_check.specs.declared.plan.reach.Reach.{Reach}
use Rattle.task_check.proofs.plan.reads.requirement_reads.Goals as goal

pub returns-in-Some-clause-reads : goal.returns-in-Some-clause-reads
returns-in-Some-clause-reads c =
    let is : ◌≡◌ {A = Option Reach} (Some c.in-Some.reach) (reach_of c.args.t.now c.args.r.store c.args.r.what) = c.in-Some.ensures in
    c.count.ensures.count
    ∙ ap (λ (centring : Centring). touch_count c.args.p.now c.args.level c.in-Some.reach centring)
    (c.centring_of.ensures ∙ ap (centring_of c.args.p.now) c.wanted_name.ensures)
    ∙ ap (λ (o : Option Reach). option_map_or (λ reach. touch_count c.args.p.now c.args.level reach (centring_of c.args.p.now (wanted_name c.args.r.what))) o
    (length (patches_of c.args.p.now c.args.level))) is
