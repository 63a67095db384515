use Rattle.std.proofs.Common.{◌≡◌, ◌+◌, ◌*◌, ℕ, map, get_or, arith}
use Rattle.std.proofs.lemmas.List.{get_or-map, length-map}
use Rattle.graph_compiler.proofs.reads.put_new.Goals as goal

pub overflow_add-first : goal.overflow_add-first
overflow_add-first c =
    let found = c.args.found.now in
    let i = c.loop-other.other-index in
    let f = λ (other : ℕ). c.args.first + other * c.args.lines in
    let few = c.requires i 0 (omega (arith, c.loop-other-test.true, length-map found f)) in
    let is : get_or (map f found) i 0 ≡ f (get_or found i 0) = get_or-map f found i 0 0 c.loop-other-test.true in
    omega (arith, few, is)

pub overflow_mul-other : goal.overflow_mul-other
overflow_mul-other c =
    let found = c.args.found.now in
    let i = c.loop-other.other-index in
    let f = λ (other : ℕ). c.args.first + other * c.args.lines in
    let few = c.requires i 0 (omega (arith, c.loop-other-test.true, length-map found f)) in
    let is : get_or (map f found) i 0 ≡ f (get_or found i 0) = get_or-map f found i 0 0 c.loop-other-test.true in
    omega (arith, few, is)
