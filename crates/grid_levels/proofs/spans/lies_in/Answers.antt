use Rattle.std.proofs.Common.{arith, ◌≤ℤ◌, ◌↔◌, IsTrue}
use Rattle.std.proofs.lemmas.Int.{to_z-of_z}
use Rattle.grid_levels.proofs.Beside.{lies_decided}
use Rattle.grid_levels.proofs.spans.lies_in.Goals as goal
use Rattle.grid_levels.proofs.spans.lies_in.Goals.{then-x, else-x}

pub returns-then-y : goal.returns-then-y
returns-then-y c =
    let x : IsTrue c.is_within-x.result ↔ ((c.args.outer.lo.x ≤ℤ c.args.inner.lo.x) × (c.args.inner.hi.x ≤ℤ c.args.outer.hi.x)) =
    (grind (arith, to_z-of_z, c.is_within-x.ensures), grind (arith, to_z-of_z, c.is_within-x.ensures)) in
    let y : IsTrue c.is_within-y.result ↔ ((c.args.outer.lo.y ≤ℤ c.args.inner.lo.y) × (c.args.inner.hi.y ≤ℤ c.args.outer.hi.y)) =
    (grind (arith, to_z-of_z, c.is_within-y.ensures), grind (arith, to_z-of_z, c.is_within-y.ensures)) in
    let z : IsTrue c.is_within-z.result ↔ ((c.args.outer.lo.z ≤ℤ c.args.inner.lo.z) × (c.args.inner.hi.z ≤ℤ c.args.outer.hi.z)) =
    (grind (arith, to_z-of_z, c.is_within-z.ensures), grind (arith, to_z-of_z, c.is_within-z.ensures)) in
    lies_decided c.args.inner c.args.outer c.is_within-x.result c.is_within-y.result c.is_within-z.result c.is_within-z.result c.requires x y z
    (grind (arith, c.if-y.true))

pub returns-else-y : goal.returns-else-y
returns-else-y c =
    let x : IsTrue c.is_within-x.result ↔ ((c.args.outer.lo.x ≤ℤ c.args.inner.lo.x) × (c.args.inner.hi.x ≤ℤ c.args.outer.hi.x)) =
    (grind (arith, to_z-of_z, c.is_within-x.ensures), grind (arith, to_z-of_z, c.is_within-x.ensures)) in
    let y : IsTrue c.is_within-y.result ↔ ((c.args.outer.lo.y ≤ℤ c.args.inner.lo.y) × (c.args.inner.hi.y ≤ℤ c.args.outer.hi.y)) =
    (grind (arith, to_z-of_z, c.is_within-y.ensures), grind (arith, to_z-of_z, c.is_within-y.ensures)) in
    let z : IsTrue c.is_within-z.result ↔ ((c.args.outer.lo.z ≤ℤ c.args.inner.lo.z) × (c.args.inner.hi.z ≤ℤ c.args.outer.hi.z)) =
    (grind (arith, to_z-of_z, c.is_within-z.ensures), grind (arith, to_z-of_z, c.is_within-z.ensures)) in
    lies_decided c.args.inner c.args.outer c.is_within-x.result c.is_within-y.result c.is_within-z.result _ c.requires x y z
    (elim c.if-x.branch [ then-x w ↦ grind (arith, c.if-y.either, w.t-7-is) | else-x w ↦ grind (arith, c.if-y.either, w.t-7-is) ])
