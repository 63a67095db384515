-- The slots that each detailed task writes, task by task.
use Rattle.std.proofs.Common.{◌≡◌, ◌∙◌, ◌<◌, ◌+◌, ◌-◌, ◌*◌, ℕ, List, [], ◌∷◌, ◌++◌, Bool, true, false, Option, Some, length, map, take, filter, get_or, ap, sym, refl, arith, subst}
use Rattle.std.specs.Prelude.{slice_get, All}
use Rattle.std.specs.List.{flat_map, sum_by}
use Rattle.std.specs.Option.{option_map_or}
use Rattle.std.proofs.lemmas.List.{ext_get_or, get_or-map, length-map, map-append}
use Rattle.std.proofs.lemmas.List.Elements.{All-from_get_or, All-tail}
use Rattle.std.proofs.lemmas.Option.{get_or_from_slice_get, same_Some, slice_get_within}
use Rattle.uts_geom.specs.Spans.{counted}
use Rattle.uts_geom.specs.Counting.{counted-at, get-counted, get_right, length-counted}
use Rattle.uts_geom.specs.Lists.{all_at, any_at, at_place, placed}
use Rattle.problem_types.specs.Form.{IsProblemInForm}
use Rattle.problem_types.specs.Lists.{task_list}
use Rattle.problem_types.specs.declared.problem.Problem.{Problem}
use Rattle.problem_types.specs.declared.problem.Task.{Task}
use Rattle.task_check.specs.First.{IsAccepted}
use Rattle.task_check.specs.Plan.{Detail, Slot, combining, details_of, is_read, old_numbers, old_variables, on_patches, slots_of, written_by}
use Rattle.graph_types.specs.Graph.{has}
use Rattle.graph_compiler.specs.Layouts.{AreLaidOut, IsLaidOut, rows, rows_of}
use Rattle.graph_compiler.specs.Places.{StandsAt}
use Rattle.graph_compiler.specs.Plan.{is_same, is_writing, places_of, writes_of_list}
use Rattle.graph_compiler.specs.declared.layout.Layout.{Layout}
use Rattle.graph_compiler.proofs.Ascending.{are_places, counted-ascends, counted-at-low, counted-has, has-counted}
use Rattle.graph_compiler.specs.Slots.{StandInOrder}
use Rattle.graph_compiler.proofs.Laying.{details_at, each_one, each_size, get-joined}
use Rattle.graph_compiler.proofs.Standing.{slots_stand_once}
use Rattle.graph_compiler.proofs.TaskSlots.{at_all_places, map-flat_map}
use Rattle.graph_compiler.proofs.ValidDetails.{same_is, same_itself}
use Rattle.graph_compiler.proofs.ValidLists.{counted-below}

-- two answers are one where each holds if the other does
pub same_answers : (a b : Bool) → (a ≡ true → b ≡ true) → (b ≡ true → a ≡ true) → a ≡ b
same_answers true b to from = sym (to refl)
same_answers false true to from = from refl
same_answers false false to from = refl

-- a list by its places
map_by_places : {A B : Type 0} (d : B) (f : A → B) (g : ℕ → B) (xs : List A) → ((k : ℕ) (x : A) → slice_get xs k ≡ Some x → f x ≡ g k) → map f xs ≡ map g (counted 0 (length xs))
map_by_places {A} {B} d f g xs same = ext_get_or d (map f xs) (map g (counted 0 (length xs)))
    (length-map xs f ∙ sym (length-map (counted 0 (length xs)) g ∙ length-counted 0 (length xs))) (λ k below.
    let there : k < length xs = omega (arith, below, length-map xs f) in
    let x = placed xs k there in
    get_or-map f xs k x.0 d there
    ∙ ap f (get_or_from_slice_get xs k x.0 x.0 x.1)
    ∙ same k x.0 x.1
    ∙ ap g (sym (get_or_from_slice_get (counted 0 (length xs)) k k 0 (counted-at (length xs) k there)))
    ∙ sym (get_or-map g (counted 0 (length xs)) k 0 d (omega (arith, there, length-counted 0 (length xs)))))

flat_map-same-all : {X A : Type 0} (f g : X → List A) (xs : List X) → All (λ x. f x ≡ g x) xs → flat_map f xs ≡ flat_map g xs
flat_map-same-all f g [] same = refl
flat_map-same-all {X} {A} f g (x ∷ xs) same =
    ap (λ (first : List A). first ++ flat_map f xs) (same 0 x (omega arith))
    ∙ ap (λ (rest : List A). g x ++ rest) (flat_map-same-all f g xs (All-tail (λ y. f y ≡ g y) x xs same))

-- the old slots of a list
abbrev olds_of : Problem → List Task → List Slot
olds_of p tasks = filter (is_read p tasks) (old_variables p ++ old_numbers p)

module _ (p : Problem) (form : IsProblemInForm p) (accepted : IsAccepted p) (list : ℕ) (of_two : list < 2) where
  abbrev tasks : List Task
  tasks = task_list p list

  abbrev places_written : Detail → List ℕ
  places_written d = places_of (is_writing tasks d) (slots_of p tasks)

  -- what a detailed task writes stands in a row
  in_row : (d : Detail) (first : ℕ) → ((k : ℕ) (s : Slot) → slice_get (written_by tasks d) k ≡ Some s → StandsAt p tasks (first + k) s)
      → counted first (length (written_by tasks d)) ≡ places_written d
  in_row d first stands = are_places (is_writing tasks d) (slots_of p tasks) (counted first n) (counted-ascends first n) within by_place
    where
      n : ℕ
      n = length (written_by tasks d)

      at : (k : ℕ) → k < n → (s : Slot) × (slice_get (written_by tasks d) k ≡ Some s) × StandsAt p tasks (first + k) s
      at k below = let s = placed (written_by tasks d) k below in (s.0, s.1, stands k s.0 s.1)

      within : All (λ place. place < length (slots_of p tasks)) (counted first n)
      within = All-from_get_or (λ place. place < length (slots_of p tasks)) (counted first n) 0 (λ k below.
          let short : k < n = omega (arith, below, length-counted first n) in
          let s = at k short in
          omega (arith, counted-at-low first n k short, slice_get_within (slots_of p tasks) (first + k) s.0 s.2))

      by_place : (place : ℕ) (x : Slot) → slice_get (slots_of p tasks) place ≡ Some x → has (counted first n) place ≡ is_writing tasks d x
      by_place place x there = same_answers (has (counted first n) place) (is_writing tasks d x) written listed
        where
          written : has (counted first n) place ≡ true → is_writing tasks d x ≡ true
          written has_it =
              let around = counted-has first n place has_it in
              let k = place - first in
              let s = at k (omega arith) in
              let same : x ≡ s.0 = same_Some x s.0 (sym there ∙ ap (slice_get (slots_of p tasks)) (let e : place ≡ first + k = omega arith in e) ∙ s.2) in
              any_at (is_same x) (written_by tasks d) k s.0 s.1 (ap (is_same x) (sym same) ∙ same_itself x)

          listed : is_writing tasks d x ≡ true → has (counted first n) place ≡ true
          listed writes =
              let found = at_place (is_same x) (written_by tasks d) writes in
              let same : x ≡ found.1 = same_is x found.1 found.3 in
              let k = found.0 in
              let short = slice_get_within (written_by tasks d) k found.1 found.2 in
              let here : place ≡ first + k = slots_stand_once p form accepted list of_two place (first + k) x there (stands k found.1 found.2 ∙ ap Some (sym same)) in
              ap (has (counted first n)) here ∙ has-counted first n k short

  module _ (place : ℕ) (d : Detail) (at : slice_get (details_of p tasks) place ≡ Some d) where
    -- where what the detailed task writes begins
    abbrev first_written : ℕ
    first_written = length (olds_of p tasks) + sum_by (λ e. length (written_by tasks e)) (take place (details_of p tasks))

    stands : (k : ℕ) (s : Slot) → slice_get (written_by tasks d) k ≡ Some s → StandsAt p tasks (first_written + k) s
    stands k s there =
        get_right (olds_of p tasks) (flat_map (written_by tasks) (details_of p tasks)) (first_written + k)
        (sum_by (λ e. length (written_by tasks e)) (take place (details_of p tasks)) + k) (omega arith)
        ∙ get-joined (written_by tasks) (details_of p tasks) place k d s at there

    pub written_in_order : StandInOrder p tasks (places_written d) (written_by tasks d)
    written_in_order = subst (λ (places : List ℕ). StandInOrder p tasks places (written_by tasks d)) (in_row d first_written stands) (record {
      many = length-counted first_written (length (written_by tasks d));
      each = λ k found s here there.
          let short = slice_get_within (written_by tasks d) k s there in
          let same : found ≡ first_written + k = same_Some found (first_written + k) (sym here ∙ get-counted first_written (length (written_by tasks d)) k short) in
          subst (λ (n : ℕ). StandsAt p tasks n s) (sym same) (stands k s there);
    })

  -- and so do the detailed tasks of a run, each of which writes so many
  in_rows : (ds : List Detail) (first count : ℕ) → All (λ d. length (written_by tasks d) ≡ count) ds
      → ((row k : ℕ) (d : Detail) (s : Slot) → slice_get ds row ≡ Some d → slice_get (written_by tasks d) k ≡ Some s → StandsAt p tasks (first + row * count + k) s)
      → map places_written ds ≡ rows first count (length ds)
  in_rows ds first count sizes stands = map_by_places [] places_written (λ row. counted (first + row * count) count) ds (λ row d at.
      sym (in_row d (first + row * count) (λ k s there. stands row k d s at there))
      ∙ ap (counted (first + row * count)) (sizes_at row d at))
    where
      sizes_at : (row : ℕ) (d : Detail) → slice_get ds row ≡ Some d → length (written_by tasks d) ≡ count
      sizes_at row d at = all_at (λ e. length (written_by tasks e) ≡ count) ds row d at sizes

  -- what the task of a layout writes
  task_rows : (place : ℕ) (t : Task) (layout : Layout) → slice_get tasks place ≡ Some t → IsLaidOut p tasks place t layout
      → map places_written (on_patches p place t ++ combining place t) ≡ rows_of layout
  task_rows place t layout at laid =
      map-append places_written (on_patches p place t) (combining place t)
      ∙ ap (λ (front : List (List ℕ)). front ++ map places_written (combining place t)) parts
      ∙ ap (λ (back : List (List ℕ)). rows layout.first layout.lines layout.parts ++ back) numbers
    where
      parts : map places_written (on_patches p place t) ≡ rows layout.first layout.lines layout.parts
      parts =
          in_rows (on_patches p place t) layout.first layout.lines (λ k d below. each_size p tasks place t at k d below ∙ sym laid.lines)
          (λ row k d s there under. subst (λ (n : ℕ). StandsAt p tasks n s) (let e : layout.first + (row * layout.lines + k) ≡ layout.first + row * layout.lines + k = omega arith in e)
          (laid.part row k d s there under))
          ∙ ap (rows layout.first layout.lines) laid.part_count

      numbers : map places_written (combining place t) ≡ rows (layout.first + layout.parts * layout.lines) 1 layout.numbers
      numbers =
          in_rows (combining place t) (layout.first + layout.parts * layout.lines) 1 (each_one p tasks place t at)
          (λ row k d s there under.
          let short = slice_get_within (written_by tasks d) k s under in
          let one : length (written_by tasks d) ≡ 1 = all_at (λ e. length (written_by tasks e) ≡ 1) (combining place t) row d there (each_one p tasks place t at) in
          let zero_is : k ≡ 0 = omega (arith, short, one) in
          subst (λ (n : ℕ). StandsAt p tasks n s) (let e : layout.first + (layout.parts * layout.lines + row) ≡ layout.first + layout.parts * layout.lines + row * 1 + k = omega (arith, zero_is) in e)
          (laid.number row d s there (ap (slice_get (written_by tasks d)) (sym zero_is) ∙ under)))
          ∙ ap (rows (layout.first + layout.parts * layout.lines) 1) laid.number_count

  pub list_rows : (layouts : List Layout) → AreLaidOut p tasks layouts → flat_map rows_of layouts ≡ writes_of_list p tasks
  list_rows layouts laid =
      sym (at_all_places rows_of layouts)
      ∙ ap (λ (n : ℕ). flat_map at_layout (counted 0 n)) laid.count
      ∙ flat_map-same-all at_layout (λ place. map places_written (details_at p tasks place)) (counted 0 (length tasks)) (λ k d below. same (get_or (counted 0 (length tasks)) k d) (counted-below (length tasks) k d below))
      ∙ sym (map-flat_map places_written (details_at p tasks) (counted 0 (length tasks)))
    where
      at_layout : ℕ → List (List ℕ)
      at_layout place = option_map_or rows_of (slice_get layouts place) []

      same : (place : ℕ) → place < length tasks → at_layout place ≡ map places_written (details_at p tasks place)
      same place below =
          let t = placed tasks place below in
          let layout = placed layouts place (omega (arith, laid.count)) in
          ap (λ (o : Option Layout). option_map_or rows_of o []) layout.1
          ∙ sym (task_rows place t.0 layout.0 t.1 (laid.each place t.0 layout.0 t.1 layout.1))
          ∙ ap (λ (o : Option Task). map places_written (option_map_or (λ u. on_patches p place u ++ combining place u) o [])) (sym t.1)
