use Rattle.std.proofs.Common.{sym, subst}
use Rattle.std.specs.Prelude.{if◌then◌else◌}
use Rattle.uts_geom.specs.declared.index.Index.{Index}
use Rattle.uts_geom.specs.declared.span.Span.{Span}
use Rattle.uts_geom.specs.Spans.{is_inside}
use Rattle.field_box.specs.Fields.{number_at}
use Rattle.ghost_gather.specs.Storing.{IsStored}
use Rattle.ghost_gather.specs.Windows.{WindowData, IsWindow, number_seen}
use Rattle.ghost_gather.proofs.Seen.{part_put}
use Rattle.ghost_gather.proofs.window.Window.put_part.Goals as goal

pub invariant_of-self : goal.invariant_of-self
invariant_of-self c =
    let w = c.self.inside in
    subst (λ (s : Span). IsStored w.span w.space s) (sym c.copy_part.ensures.span) c.self.invariant

pub returns : goal.returns
returns c =
    let w = c.self.inside in
    let from = c.args.from.now in
    let old : WindowData = record { span = w.span; space = w.space; outside = w.outside; stored = w.stored } in
    subst (λ (v : WindowData). IsWindow v.span v.space v.outside (λ (i : Index). if is_inside from.span i then number_at from i else number_seen v i)
    (record { span = w.span; space = w.space; outside = w.outside; stored = c.copy_part.new.self })) c.self.view_is
    (part_put old from c.copy_part.new.self c.self.invariant c.copy_part.ensures)
