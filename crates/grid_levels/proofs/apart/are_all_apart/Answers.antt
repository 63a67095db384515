use Rattle.std.proofs.Common.{◌<◌, ◌+◌, ℕ, List, [], get_or, take, length, refl, subst, arith}
use Rattle.std.specs.Prelude.{AllPairs, All}
use Rattle.std.proofs.lemmas.List.{take_all, take_more, get_or-take, length-take-le}
use Rattle.std.proofs.lemmas.List.Elements.{All-from_get_or}
use Rattle.std.proofs.lemmas.List.Quantifiers.{all_pairs_push}
use Rattle.problem_types.specs.declared.problem.BoxLine.{BoxLine}
use Rattle.problem_types.specs.Levels.{AreApart, cells_of}
use Rattle.grid_levels.proofs.apart.are_all_apart.Goals as goal

-- what holds of each pair holds of each value with those before it, and the other way round
before : {X : Type 0} (R : X → X → Type 0) (xs : List X) (i : ℕ) (d : X) → i < length xs → AllPairs R xs → All (λ q. R q (get_or xs i d)) (take i xs)
before R xs i d below pairs =
    All-from_get_or (λ q. R q (get_or xs i d)) (take i xs) d (λ k in_front.
    let front : k < i = omega (arith, length-take-le i xs (omega arith)) in
    rw (get_or-take i xs k d front) (pairs k i d front below))

more : {X : Type 0} (R : X → X → Type 0) (xs : List X) (i : ℕ) (d : X) → i < length xs → AllPairs R (take i xs) →
    All (λ q. R q (get_or xs i d)) (take i xs) → AllPairs R (take (i + 1) xs)
more R xs i d below pairs each = rw (take_more xs i d below) (all_pairs_push R (take i xs) (get_or xs i d) pairs each)

abbrev Apart : BoxLine → BoxLine → Type 0
Apart q r = AreApart (cells_of q) (cells_of r)

pub returns-then-not-is_apart_from_each : goal.returns-then-not-is_apart_from_each
returns-then-not-is_apart_from_each c =
    let d : BoxLine = record { line = 0; lo = []; hi = [] } in
    (λ t. absurd cc, λ pairs. absurd (let apart = c.is_apart_from_each.ensures.1 (before Apart c.args.patches.now c.loop-i.i d c.loop-i-test.true pairs) in let none = c.if-not-is_apart_from_each.true in cc))

pub loop-i-preserved : goal.loop-i-preserved
loop-i-preserved c =
    let d : BoxLine = record { line = 0; lo = []; hi = [] } in
    more Apart c.args.patches.now c.loop-i.i d c.loop-i-test.true c.loop-i.invariant (c.is_apart_from_each.ensures.0 c.if-not-is_apart_from_each.false)

pub returns : goal.returns
returns c = (
  λ t. subst (AllPairs Apart) (take_all c.loop-i.i c.args.patches.now c.loop-i-test.false) c.loop-i.invariant,
  λ pairs. refl,
)
