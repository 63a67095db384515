-- Of detailed tasks and slots in lists: where each slot is written and read as it should be, the graph of their places is valid.
use Rattle.std.proofs.Common.{◌≡◌, ◌∙◌, ◌<◌, ◌≤◌, ◌+◌, ℕ, List, [], ◌∷◌, Bool, true, false, Some, length, map, ap, sym, refl, arith, subst, eq-eqb}
use Rattle.std.specs.Prelude.{slice_get, slice_index_or, option_map, ◌==◌, All}
use Rattle.std.specs.List.{count_by, sum_by, range_with_len}
use Rattle.std.proofs.lemmas.List.{length-map}
use Rattle.std.proofs.lemmas.List.Elements.{All-map}
use Rattle.std.proofs.lemmas.List.FromFn.{length-map-range_with_len, get_or-map-range_with_len}
use Rattle.std.proofs.lemmas.List.Sums.{sum_by-cons}
use Rattle.std.proofs.lemmas.Option.{slice_get-map, get_or_from_slice_get}
use Rattle.uts_geom.specs.Lists.{all_at, any_at, at_place, placed}
use Rattle.graph_types.specs.Graph.{IsSlotList, HasLengths, IsWithinLimits, AreSlotsValid, AreTasksOrdered, IsValid, has, reads, writes_of, follows}
use Rattle.graph_types.specs.declared.graph.Graph.{Graph}
use Rattle.graph_types.specs.Linked.{linked}
use Rattle.graph_compiler.specs.Plan.{places_of}
use Rattle.graph_compiler.proofs.ValidLists.{every, count-range, length-places, has-places, are_places}

module _ {D S : Type 0} (ds : List D) (ss : List S) (f : D → S → Bool) where
  abbrev pub places : List (List ℕ)
  places = map (λ d. places_of (f d) ss) ds

  pub places_at : (task : ℕ) (d : D) → slice_get ds task ≡ Some d → slice_index_or places task [] ≡ places_of (f d) ss
  places_at task d at =
      get_or_from_slice_get places task (places_of (f d) ss) [] (slice_get-map (λ e. places_of (f e) ss) ds task ∙ ap (option_map (λ e. places_of (f e) ss)) at)

  pub touches : (task slot : ℕ) (d : D) (s : S) → slice_get ds task ≡ Some d → slice_get ss slot ≡ Some s → has (slice_index_or places task []) slot ≡ f d s
  touches task slot d s at there = ap (λ (numbers : List ℕ). has numbers slot) (places_at task d at) ∙ has-places (f d) ss slot s there

  pub touching : (slot : ℕ) (s : S) → slice_get ss slot ≡ Some s →
      count_by (λ task. has (slice_index_or places task []) slot) (range_with_len 0 (length ds)) ≡ count_by (λ d. f d s) ds
  touching slot s there =
      count-range (λ task. has (slice_index_or places task []) slot) (λ d. f d s) ds 0
      (λ k d at. ap (λ (task : ℕ). has (slice_index_or places task []) slot) (let e : 0 + k ≡ k = omega arith in e) ∙ touches k slot d s at there)

  pub are_lists : All (IsSlotList (length ss)) places
  are_lists = All-map (IsSlotList (length ss)) (λ d. places_of (f d) ss) ds (every (λ d. IsSlotList (length ss) (places_of (f d) ss)) ds (λ d. are_places (f d) ss))

  pub sum-places : sum_by length places ≡ sum_by (λ d. count_by (f d) ss) ds
  sum-places = over ds
    where
      over : (es : List D) → sum_by length (map (λ d. places_of (f d) ss) es) ≡ sum_by (λ d. count_by (f d) ss) es
      over [] = refl
      over (e ∷ es) = omega (
        arith,
        sum_by-cons length (places_of (f e) ss) (map (λ d. places_of (f d) ss) es),
        sum_by-cons (λ d. count_by (f d) ss) e es,
        length-places (f e) ss,
        over es,
      )

  -- a slot at one of a task's places
  pub slot_of : (task : ℕ) (d : D) (k slot : ℕ) → slice_get ds task ≡ Some d → slice_get (slice_index_or places task []) k ≡ Some slot →
      (s : S) × (slice_get ss slot ≡ Some s) × (f d s ≡ true)
  slot_of task d k slot at there =
      let listed : slice_get (places_of (f d) ss) k ≡ Some slot = subst (λ (numbers : List ℕ). slice_get numbers k ≡ Some slot) (places_at task d at) there in
      let below = all_at (λ n. n < length ss) (places_of (f d) ss) k slot listed (are_places (f d) ss).below in
      let stands = placed ss slot below in
      let listed_too = any_at (λ m. m == slot) (places_of (f d) ss) k slot listed (eq-eqb slot slot refl) in
      (stands.0, stands.1, sym (has-places (f d) ss slot stands.0 stands.1) ∙ listed_too)

module _ {D S : Type 0} (ds : List D) (ss : List S) (R W : D → S → Bool) (old : ℕ) (kept : List Bool) where
  -- the graph before it is linked
  abbrev pub unlinked : Graph
  unlinked = record {
    tasks = length ds;
    old = old;
    slots = length ss;
    reads = places ds ss R;
    writes = places ds ss W;
    successors = [];
    predecessors = [];
    uses = [];
    kept = kept;
  }

  -- what makes it valid
  pub record IsFit : Type 0 where
    pub few_tasks : length ds ≤ 65536
    pub few_slots : length ss ≤ 262144
    pub few_reads : sum_by (λ d. count_by (R d) ss) ds ≤ 2097152
    pub each_kept : length kept ≡ length ss
    pub few_old : old ≤ length ss
    pub written : (slot : ℕ) (s : S) → slice_get ss slot ≡ Some s → old ≤ slot → count_by (λ d. W d s) ds ≡ 1
    pub unwritten : (slot : ℕ) (s : S) → slice_get ss slot ≡ Some s → slot < old → count_by (λ d. W d s) ds ≡ 0
    pub wanted : (slot : ℕ) (s : S) → slice_get ss slot ≡ Some s → slot < old → 1 ≤ count_by (λ d. R d s) ds
    pub let_go : (slot : ℕ) (s : S) → slice_get ss slot ≡ Some s → slot < old → slice_index_or kept slot false ≡ false
    pub forward : (first second : ℕ) (d e : D) (s : S) → slice_get ds first ≡ Some d → slice_get ds second ≡ Some e → W d s ≡ true → R e s ≡ true → first < second

  module _ (fit : IsFit) where
    has_lengths : HasLengths (linked unlinked)
    unfolding linked
    has_lengths = record {
      reads = length-map ds (λ d. places_of (R d) ss);
      writes = length-map ds (λ d. places_of (W d) ss);
      successors = length-map-range_with_len _ 0 (length ds);
      predecessors = length-map-range_with_len _ 0 (length ds);
      uses = length-map-range_with_len _ 0 (length ss);
      kept = fit.each_kept;
      old = fit.few_old;
    }

    within_limits : IsWithinLimits (linked unlinked)
    unfolding linked
    within_limits = record {
      tasks = fit.few_tasks;
      slots = fit.few_slots;
      reads = let few = fit.few_reads in omega (arith, few, sum-places ds ss R);
    }

    slots_valid : AreSlotsValid (linked unlinked)
    unfolding linked
    slots_valid = record {
      written = λ slot from below. let there = placed ss slot below in touching ds ss W slot there.0 there.1 ∙ fit.written slot there.0 there.1 from;
      unwritten = λ slot below. let there = stands slot below in touching ds ss W slot there.0 there.1 ∙ fit.unwritten slot there.0 there.1 below;
      wanted = λ slot below. let there = stands slot below in
          let some = fit.wanted slot there.0 there.1 below in
          subst (λ (n : ℕ). 1 ≤ n) (sym (touching ds ss R slot there.0 there.1)) some;
      let_go = λ slot below. let there = stands slot below in fit.let_go slot there.0 there.1 below;
      uses = λ slot below. get_or-map-range_with_len _ 0 (length ss) slot slot 0 below (omega arith);
    }
      where
        stands : (slot : ℕ) → slot < old → (s : S) × (slice_get ss slot ≡ Some s)
        stands slot below = placed ss slot (let few = fit.few_old in omega (arith, few))

    ordered : AreTasksOrdered (linked unlinked)
    unfolding linked
    ordered = record {
      successors = λ task below. get_or-map-range_with_len _ 0 (length ds) task task [] below (omega arith);
      forward = forward;
      predecessors = λ task below. get_or-map-range_with_len _ 0 (length ds) task task 0 below (omega arith);
    }
      where
        forward : (first second : ℕ) → first < length ds → second < length ds → follows unlinked first second ≡ true → first < second
        forward first second below_first below_second behind =
            let d = placed ds first below_first in
            let e = placed ds second below_second in
            let shared = at_place (reads unlinked second) (writes_of unlinked first) behind in
            let s = slot_of ds ss W first d.0 shared.0 shared.1 d.1 shared.2 in
            fit.forward first second d.0 e.0 s.0 d.1 e.1 s.2 (sym (touches ds ss R second shared.1 e.0 s.0 e.1 s.1) ∙ shared.3)

    pub fit_is_valid : IsValid (linked unlinked)
    unfolding linked
    fit_is_valid = record {
      lengths = has_lengths;
      limits = within_limits;
      reads = are_lists ds ss R;
      writes = are_lists ds ss W;
      slots = slots_valid;
      order = ordered;
    }
