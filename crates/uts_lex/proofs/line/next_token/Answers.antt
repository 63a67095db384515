use Rattle.std.proofs.Common.{◌≡◌, ◌-◌, ◌<◌, take, drop, slice_range, length, arith, rules}
use Rattle.std.proofs.lemmas.Grind.{common_steps}
use Rattle.uts_lex.proofs.Fronts.{token_behind_gap}
use Rattle.uts_lex.proofs.line.next_token.Goals as goal

pub returns-in-Some-clause-first : goal.returns-in-Some-clause-first
returns-in-Some-clause-first c =
    let whole = slice_range c.args.text.now c.args.place c.args.end in
    let gap = c.gap_length-gap.result in
    let rest = take (length whole - gap) (drop gap whole) in
    let rest_is : rest ≡ drop gap whole = grind (arith, common_steps) in
    let some : 0 < length rest = search rules in
    let not_at_end : gap < length whole = grind (arith, common_steps) in
    token_behind_gap c.args.text.now rest c.args.place c.args.end gap c.in-Some.length c.args.line c.in-Some.kind (omega arith) (omega arith)
    c.gap_length-gap.ensures.inside rest_is (rw rest_is c.gap_length-gap.ensures.no_token)
    (grind (arith, common_steps, c.gap_length-gap.ensures.no_blank not_at_end))
    (grind (arith, common_steps, c.gap_length-gap.ensures.no_comment not_at_end))
    c.in-Some.ensures.token c.in-Some.ensures.not_empty c.in-Some.ensures.inside
    (c.gap_length-gap.ensures.blanks not_at_end)
