use Rattle.std.proofs.Common.{◌≡◌, ◌∙◌, pos, map, Option, None, ap}
use Rattle.std.specs.List.{find}
use Rattle.std.specs.Option.{option_map_or}
use Rattle.kernel_rows.specs.Values.{indexes_on}
use Rattle.kernel_eval.specs.Environments.{is_part_of, number_in_part}
use Rattle.kernel_eval.specs.declared.part.Part.{Part}
use Rattle.kernel_eval.proofs.Rows.{alike_along}
use Rattle.kernel_eval.proofs.reads.WindowsReads.fill.Goals as goal

pub returns-in-None : goal.returns-in-None
returns-in-None c =
    let read = c.args.read.now in
    let row = c.args.row in
    let missing : None ≡ find (is_part_of read) c.args.self.now.parts.items = c.in-None.ensures ∙ ap (find (is_part_of read)) c.deref.ensures.value in
    c.fill_with_zero.ensures
    ∙ alike_along row (pos 0) _ c.requires
    ∙ ap (λ (found : Option Part). map (λ i. option_map_or (λ part. number_in_part part read.how read.offset i) found (pos 0)) (indexes_on row)) missing
