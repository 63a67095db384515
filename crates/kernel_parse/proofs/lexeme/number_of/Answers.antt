use Rattle.std.proofs.Common.{◌<◌, ◌^◌, rules}
use Rattle.std.specs.Prelude.{IfSome}
use Rattle.kernel_parse.specs.Numbers.{number_read}
use Rattle.kernel_parse.proofs.lexeme.number_of.Goals as goal

pub returns-in-Number : goal.returns-in-Number
returns-in-Number c =
    let small : IfSome c.read_u64.result (λ n. n < 2 ^ 64) = search (rules, c.read_u64.type_inv) in
    rw (c.in-Number.is, ← c.bytes_in.ensures) (number_read c.bytes_in.result.now c.read_u64.result c.read_u64.ensures.found small c.read_u64.ensures.none)
