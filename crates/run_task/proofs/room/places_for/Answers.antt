use Rattle.std.proofs.Common.{◌≡◌, ◌∙◌, ◌≤◌, ◌+◌, ℕ, ap, sym, subst}
use Rattle.uts_geom.specs.Spans.{width_of}
use Rattle.uts_geom.specs.declared.centring.Centring.TheVariants.{Node}
use Rattle.kernel_ast.specs.Size.{depth_of}
use Rattle.kernel_sweeps.specs.Room.{room_on}
use Rattle.slot_contents.specs.Contents.{owned_on}
use Rattle.run_task.proofs.OwnedRows.{rooms_grow, rows_at_nodes}
use Rattle.run_task.proofs.room.places_for.Goals as goal

pub returns : goal.returns
returns c = λ w k deep.
    let p = c.args.job.now.checked.now in
    let level = c.args.site.level in
    let patch = c.args.site.patch in
    let row : c.width-row.result ≡ width_of (owned_on p level patch Node) = c.width-row.ensures ∙ ap width_of c.owned_at.ensures.owned in
    let wide : width_of (owned_on p level patch k) ≤ c.width-row.result =
    subst (λ (n : ℕ). width_of (owned_on p level patch k) ≤ n) (sym row) (rows_at_nodes p level patch k) in
    subst (λ (n : ℕ). room_on w.expr (owned_on p level patch k) ≤ c.width-row.result + n) (sym c.scratch_places.ensures)
    (rooms_grow (width_of (owned_on p level patch k)) c.width-row.result (depth_of w.expr) c.args.job.now.depth wide deep)
