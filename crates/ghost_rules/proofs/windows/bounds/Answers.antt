use Rattle.std.proofs.Common.{arith, ◌≡◌, ◌+ℤ◌, to_z, of_z, w64, refl, false}
use Rattle.std.proofs.lemmas.Int.{ints}
use Rattle.ghost_rules.specs.Windows.{window_begin, window_end}
use Rattle.ghost_rules.proofs.Near.{begins_near, ends_near}
use Rattle.ghost_rules.proofs.windows.bounds.Goals as goal

pub returns : goal.returns
returns c =
    let begins = begins_near c.args.a c.args.point c.requires.few in
    let ends = ends_near c.args.a c.args.point c.requires.few in
    let low_near = c.requires.low_near in
    let high_near = c.requires.high_near in
    let low : to_z w64 (of_z w64 (to_z w64 (of_z w64 c.args.low) +ℤ to_z w64 (of_z w64 c.window_begin.result))) ≡ c.args.low +ℤ window_begin c.args.a c.args.point =
    omega (arith, ints, c.window_begin.ensures, begins.0, begins.1, low_near.0, low_near.1) in
    let high : to_z w64 (of_z w64 (to_z w64 (of_z w64 c.args.high) +ℤ to_z w64 (of_z w64 c.window_end.result))) ≡ c.args.high +ℤ window_end c.args.a c.args.point false =
    omega (arith, ints, c.window_end.ensures, ends.0, ends.1, high_near.0, high_near.1) in
    rw (low, high) refl
