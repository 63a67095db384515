use Rattle.std.proofs.Common.{◌≡◌, ◌∙◌, ℕ, List, ap, sym, subst, eqb}
use Rattle.std.specs.Prelude.{◌==◌}
use Rattle.std.specs.List.{dedup}
use Rattle.std.specs.List.Sorted.{IsStrictlyIncreasing}
use Rattle.std.proofs.lemmas.List.Filters.{dedup_is}
use Rattle.std.proofs.lemmas.Map.Keys.{IsStrictlyIncreasing-dedup}
use Rattle.std.proofs.lemmas.List.Sorted.{list_any-IsPermutation}
use Rattle.graph_types.specs.Graph.{has}
use Rattle.graph_compiler.proofs.Merging.{has-dedup}
use Rattle.graph_compiler.proofs.reads.ascending.Goals as goal

pub returns-clause-ascending : goal.returns-clause-ascending
returns-clause-ascending c =
    let sorted = c.sort_unstable.new.self.items in
    let are : c.dedup.new.self.items ≡ dedup eqb sorted = dedup_is eqb sorted c.dedup.new.self.items c.dedup.ensures.filtered in
    subst IsStrictlyIncreasing (sym are) (IsStrictlyIncreasing-dedup sorted c.sort_unstable.ensures.sorted)

pub returns-clause-same : goal.returns-clause-same
returns-clause-same c = λ slot.
    let sorted = c.sort_unstable.new.self.items in
    let are : c.dedup.new.self.items ≡ dedup eqb sorted = dedup_is eqb sorted c.dedup.new.self.items c.dedup.ensures.filtered in
    ap (λ (xs : List ℕ). has xs slot) are ∙ has-dedup sorted slot ∙ sym (list_any-IsPermutation (λ m. m == slot) c.args.slots.items sorted c.sort_unstable.ensures.permutation)
