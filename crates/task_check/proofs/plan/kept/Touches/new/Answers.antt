use Rattle.std.proofs.Common.{sym, subst, None, Option, IfSome}
use Rattle.std.proofs.lemmas.List.{get_or-replicate}
use Rattle.task_check.specs.Kept.{IsRight}
use Rattle.task_check.specs.declared.plan.kept.Kept.{Kept}
use Rattle.task_check.proofs.plan.kept.Touches.new.Goals as goal

pub returns : goal.returns
returns c p k d within = subst (λ (o : Option Kept). IfSome o (IsRight p)) (sym (get_or-replicate 2048 k None d within)) tt
