-- What each detailed task reads is what its sources give.
use Rattle.std.proofs.Common.{◌≡◌, ◌∙◌, ◌<◌, ◌≤◌, inl, inr, ℕ, zero, suc, List, false, Option, Some, length, get_or, ap, sym, arith, subst}
use Rattle.std.specs.Prelude.{slice_get, All, ◌==◌}
use Rattle.std.specs.List.{flat_map, list_any}
use Rattle.std.specs.List.Sorted.{IsStrictlyIncreasing}
use Rattle.std.specs.Option.{option_map_or}
use Rattle.uts_geom.specs.Lists.{not_above}
use Rattle.problem_types.specs.Lists.{task_list}
use Rattle.problem_types.specs.declared.problem.Problem.{Problem}
use Rattle.problem_types.specs.declared.problem.Task.{Task}
use Rattle.task_check.specs.declared.fault.Which.TheVariants as limit
use Rattle.task_check.specs.Counts.{slot_count}
use Rattle.task_check.specs.First.{IsAccepted}
use Rattle.task_check.specs.Plan.{OnPatch, patches_of, reads, slots_of, wants}
use Rattle.graph_types.specs.Counting.{all_has, has_all}
use Rattle.graph_types.specs.Graph.{has}
use Rattle.graph_compiler.specs.Reading.{places_read}
use Rattle.graph_compiler.specs.Sources.{AreSourcesOf, slots_from}
use Rattle.graph_compiler.specs.declared.sources.Source.{Source}
use Rattle.graph_compiler.specs.declared.touched.Touched.{Touched}
use Rattle.graph_compiler.proofs.Ascending.{are_places}
use Rattle.graph_compiler.proofs.LastVersions.{list_any-flat_map}
use Rattle.graph_compiler.proofs.ValidOrders.{all-flat_map}

-- a list of an accepted problem has few slots
pub few_slots : (p : Problem) → IsAccepted p → (list : ℕ) → list < 2 → length (slots_of p (task_list p list)) ≤ 262144
few_slots p accepted zero below = not_above (slot_count p p.init) 262144 (λ above. accepted.plans limit.Slots (inl above))
few_slots p accepted (suc n) below = not_above (slot_count p p.timestep) 262144 (λ above. accepted.plans limit.Slots (inr above))

pub few_slots_of : (p : Problem) (tasks : List Task) → IsAccepted p → (list : ℕ) × (list < 2) × (tasks ≡ task_list p list) → length (slots_of p tasks) ≤ 262144
few_slots_of p tasks accepted list = subst (λ (ts : List Task). length (slots_of p ts) ≤ 262144) (sym list.2) (few_slots p accepted list.0 list.1)

module _ (p : Problem) (tasks : List Task) (task : ℕ) (t : Task) (stands : slice_get tasks task ≡ Some t) (level material : ℕ) (made : List Touched) (old : List ℕ) (sources : List Source)
    (from : AreSourcesOf p tasks task t level material t.requirements made old sources) (patch : ℕ) (below : patch < length (patches_of p level)) where
  abbrev given : List ℕ
  given = flat_map (slots_from made old patch) sources

  given_within : All (λ place. place < length (slots_of p tasks)) given
  given_within = all-flat_map (λ place. place < length (slots_of p tasks)) (slots_from made old patch) sources (from.within patch below)

  -- the slots that the sources give are below so many
  pub given_few : length (slots_of p tasks) ≤ 262144 → All (λ source. All (λ slot. slot < 262144) (slots_from made old patch source)) sources
  given_few few = λ k d on. λ j e under.
      let within : get_or (slots_from made old patch (get_or sources k d)) j e < length (slots_of p tasks) = from.within patch below k d on j e under in
      omega (arith, within, few)

  -- and they are those that the detailed task reads
  pub given_are : (numbers : List ℕ) → IsStrictlyIncreasing numbers → ((n : ℕ) → has numbers n ≡ has given n) → numbers ≡ places_read p tasks (OnPatch task level material patch)
  given_are numbers up same = are_places (reads p tasks (OnPatch task level material patch)) (slots_of p tasks) numbers up
      (all_has (λ place. place < length (slots_of p tasks)) numbers (λ n there. has_all (λ place. place < length (slots_of p tasks)) given given_within n (sym (same n) ∙ there)))
      (λ place x at.
      same place
      ∙ list_any-flat_map (λ m. m == place) (slots_from made old patch) sources
      ∙ from.wanted patch place x below at
      ∙ sym (ap (λ (o : Option Task). option_map_or (λ u. list_any (wants p tasks task u level material patch x) u.requirements) o false) stands))
