-- Where the slots stand that a requirement wants: the number of a reduction, and those of a variable in the windows of a patch.
use Rattle.std.proofs.Common.{◌≡◌, ◌∙◌, ◌<◌, ◌+◌, ◌*◌, ℕ, zero, suc, List, [], ◌∷◌, Bool, true, false, cond, Option, Some, None, length, map, filter, take, get_or, ap, sym, refl, arith, subst, eqb-true}
use Rattle.std.specs.Prelude.{slice_get, slice_index, option_map, All, Contains, ◌==◌, ◌&&◌, ◌||◌, if◌then◌else◌}
use Rattle.std.specs.List.{list_any}
use Rattle.std.specs.Option.{option_map_or, option_to_list}
use Rattle.std.proofs.lemmas.Bool.{and_from, and_parts, eq-eqb, false_from_ne_true, or_left, or_right}
use Rattle.std.proofs.lemmas.List.Elements.{All-cons, All-filter, All-map, All-nil, filter_passes}
use Rattle.std.proofs.lemmas.Option.{slice_get-map, slice_get_within}
use Rattle.kernel_ast.specs.declared.expression.Store.{Store}
use Rattle.kernel_ast.specs.declared.expression.Store.TheVariants as store
use Rattle.uts_geom.specs.Counting.{counted-at, length-counted}
use Rattle.uts_geom.specs.Lists.{all_at, any_at, at_place}
use Rattle.problem_types.specs.Lists.{is_of_field, is_reduces, variable_place}
use Rattle.problem_types.specs.declared.problem.Problem.{Problem}
use Rattle.problem_types.specs.declared.problem.Require.{Require}
use Rattle.problem_types.specs.declared.problem.Task.{Task}
use Rattle.problem_types.specs.declared.problem.Var.{Var}
use Rattle.task_rules.specs.Lines.{wanted_level, wanted_name}
use Rattle.task_check.specs.Plan.{Slot, Old, OldNumber, New, Part, Number, has_number, has_variable, is_in_window, is_last_writer, is_line_of, is_of_number, is_read, patch_of, patches_of, slots_of, wants, writes_variable}
use Rattle.graph_types.specs.Graph.{has}
use Rattle.graph_compiler.specs.Places.{StandsAt}
use Rattle.graph_compiler.specs.Searched.{found_by}
use Rattle.graph_compiler.specs.Sources.{AreFoundBy, AreSourcesOf, HasNumberAt, IsLast, IsMade, IsSourceOf, IsWriterSource, IsWrittenFrom, slots_from}
use Rattle.graph_compiler.specs.declared.sources.Source.{Source}
use Rattle.graph_compiler.specs.declared.sources.Source.TheVariants as source
use Rattle.graph_compiler.specs.declared.touched.Touched.{Touched}
use Rattle.graph_compiler.proofs.LastVersions.{list_any-map}
use Rattle.graph_compiler.proofs.Placed.{last_is_writer, no_writer, none_at, one_writer, position_none, same_tests}
use Rattle.graph_compiler.specs.Slots.{AreOnce, IsOfList}
use Rattle.graph_compiler.proofs.Standing.{contained_at, in_counted, slot_is_of_list, wanted_is_read}

-- ---- lists

-- what an item of a mapped list comes from
from_map : {A B : Type 0} (f : A → B) (xs : List A) (k : ℕ) (b : B) → slice_get (map f xs) k ≡ Some b → (a : A) × (slice_get xs k ≡ Some a) × (f a ≡ b)
from_map {A} {B} f xs k b at = by_item (slice_get xs k) refl (sym (slice_get-map f xs k) ∙ at)
  where
    by_item : (o : Option A) → slice_get xs k ≡ o → option_map f o ≡ Some b → (a : A) × (slice_get xs k ≡ Some a) × (f a ≡ b)
    by_item None is mapped = absurd cc
    by_item (Some a) is mapped = (a, is, let e : f a ≡ b = cc in e)

-- an item that passes both tests
any_filtered : {A : Type 0} (g test : A → Bool) (xs : List A) (k : ℕ) (x : A) → slice_get xs k ≡ Some x → test x ≡ true → g x ≡ true → list_any g (filter test xs) ≡ true
any_filtered g test [] k x at kept passes = absurd cc
any_filtered g test (y ∷ ys) zero x at kept passes =
    let same : y ≡ x = cc in
    ap (λ (b : Bool). list_any g (cond b (y ∷ filter test ys) (filter test ys))) (ap test same ∙ kept) ∙ or_left (g y) (list_any g (filter test ys)) (ap g same ∙ passes)
any_filtered g test (y ∷ ys) (suc k) x at kept passes = by_test (test y) (any_filtered g test ys k x at kept passes)
  where
    by_test : (b : Bool) → list_any g (filter test ys) ≡ true → list_any g (cond b (y ∷ filter test ys) (filter test ys)) ≡ true
    by_test true rest = or_right (g y) (list_any g (filter test ys)) rest
    by_test false rest = rest

itself : (n : ℕ) → (n == n) ≡ true
itself n = eq-eqb n n refl

module _ (p : Problem) (tasks : List Task) (once : AreOnce p tasks) where
  same_slot : (place : ℕ) (s x : Slot) → StandsAt p tasks place s → StandsAt p tasks place x → s ≡ x
  same_slot place s x at also = cc

  -- ---- the number of a reduction

  -- where the only slot that passes stands
  alone : (passing : Slot → Bool) (place : ℕ) (s : Slot) → StandsAt p tasks place s → passing s ≡ true → ((x : Slot) → passing x ≡ true → x ≡ s) →
      (at : ℕ) (x : Slot) → StandsAt p tasks at x → passing x ≡ (place == at)
  alone passing place s stands passes only at x there = same_tests (passing x) (place == at)
      (λ is. eq-eqb place at (once.slots place at s stands (there ∙ ap Some (only x is))))
      (λ is. let here : place ≡ at = eqb-true place at is in
      let one : s ≡ x = same_slot at s x (subst (λ (k : ℕ). StandsAt p tasks k s) here stands) there in ap passing (sym one) ∙ passes)

  number_at : (at : Store) (name place : ℕ) (s : Slot) → StandsAt p tasks place s → has_number tasks at name s ≡ true → ((x : Slot) → has_number tasks at name x ≡ true → x ≡ s) →
      HasNumberAt p tasks at name (Some place)
  number_at at name place s stands passes only = record {
    within = slice_get_within (slots_of p tasks) place s stands;
    alone = alone (has_number tasks at name) place s stands passes only;
  }

  pub old_number_at : (name place : ℕ) → StandsAt p tasks place (OldNumber name) → HasNumberAt p tasks store.Old name (Some place)
  old_number_at name place stands = number_at store.Old name place (OldNumber name) stands (itself name) only
    where
      only : (x : Slot) → has_number tasks store.Old name x ≡ true → x ≡ OldNumber name
      only (OldNumber n) is = ap OldNumber (eqb-true n name is)
      only (Old n l m q) is = absurd cc
      only (New u k l m q) is = absurd cc
      only (Part u k l m q) is = absurd cc
      only (Number u k) is = absurd cc

  pub new_number_at : (name place task line : ℕ) → is_line_of tasks (λ w. is_reduces w.kind) name task line ≡ true → StandsAt p tasks place (Number task line) →
      HasNumberAt p tasks store.New name (Some place)
  new_number_at name place task line reduces stands = number_at store.New name place (Number task line) stands reduces only
    where
      only : (x : Slot) → has_number tasks store.New name x ≡ true → x ≡ Number task line
      only (Number u k) is =
          let one = once.numbers name u k task line is reduces in
          let first : u ≡ task = one.0 in
          let second : k ≡ line = one.1 in
          cc
      only (OldNumber n) is = absurd cc
      only (Old n l m q) is = absurd cc
      only (New u k l m q) is = absurd cc
      only (Part u k l m q) is = absurd cc

  pub no_new_number : (name : ℕ) → ((task line : ℕ) → is_line_of tasks (λ w. is_reduces w.kind) name task line ≡ false) → HasNumberAt p tasks store.New name None
  no_new_number name none = record { within = tt; alone = λ place s there. by_slot s }
    where
      by_slot : (s : Slot) → has_number tasks store.New name s ≡ false
      by_slot (Number u k) = none u k
      by_slot (OldNumber n) = refl
      by_slot (Old n l m q) = refl
      by_slot (New u k l m q) = refl
      by_slot (Part u k l m q) = refl

  -- ---- the slots of a variable

  module _ (task name level material search : ℕ) (old : List ℕ) where
    abbrev old_passes : Slot → Bool
    old_passes s = has_variable tasks task store.Old name material level s

    abbrev new_passes : Slot → Bool
    new_passes s = has_variable tasks task store.New name material level s

    pub old_found : (first : ℕ) → ((patch : ℕ) → patch < length (patches_of p level) → is_read p tasks (Old name level material patch) ≡ true
        → StandsAt p tasks (slice_index old (first + patch)) (Old name level material patch)) → IsSourceOf p tasks old_passes level search old (Some (source.Old search first))
    old_found first stands = record {
      slot = λ patch. Old name level material patch;
      place = λ patch. slice_index old (first + patch);
      from = λ made patch. refl;
      made = λ made below. below;
      passes = λ patch. and_from (name == name) ((level == level) && (material == material)) (itself name) (and_from (level == level) (material == material) (itself level) (itself material));
      on_patch = λ patch. refl;
      stands = stands;
      no_other = λ place s there passes. by_slot s (slot_is_of_list p tasks place s there) passes;
    }
      where
        by_slot : (s : Slot) → IsOfList p tasks s → old_passes s ≡ true → (s ≡ Old name level material (patch_of s)) × (patch_of s < length (patches_of p level))
        by_slot (Old n l m q) of_list passes =
            let first = and_parts (n == name) ((l == level) && (m == material)) passes in
            let second = and_parts (l == level) (m == material) first.1 in
            let a : n ≡ name = eqb-true n name first.0 in
            let b : l ≡ level = eqb-true l level second.0 in
            let c : m ≡ material = eqb-true m material second.1 in
            (cc, subst (λ (k : ℕ). q < length (patches_of p k)) b of_list.of_patches)
        by_slot (OldNumber n) of_list passes = absurd cc
        by_slot (New u k l m q) of_list passes = absurd cc
        by_slot (Part u k l m q) of_list passes = absurd cc
        by_slot (Number u k) of_list passes = absurd cc

    pub no_old : variable_place p name ≡ None → IsSourceOf p tasks old_passes level search old None
    no_old none = λ place s there. by_slot s (slot_is_of_list p tasks place s there)
      where
        by_slot : (s : Slot) → IsOfList p tasks s → old_passes s ≡ false
        by_slot (Old n l m q) of_list = false_from_ne_true ((n == name) && ((l == level) && (m == material))) (λ passes.
            let same : n ≡ name = eqb-true n name (and_parts (n == name) ((l == level) && (m == material)) passes).0 in
            let there = contained_at p.vars of_list.variable of_list.declared in
            let fails = none_at (λ (v : Var). v.name == name) p.vars there.0 of_list.variable (position_none (λ (v : Var). v.name == name) p.vars none) there.1 in
            let is = eq-eqb of_list.variable.name name (of_list.named ∙ same) in cc)
        by_slot (OldNumber n) of_list = refl
        by_slot (New u k l m q) of_list = refl
        by_slot (Part u k l m q) of_list = refl
        by_slot (Number u k) of_list = refl

    module _ (writer : ℕ) (last : IsLast (writes_variable name material level) (take task tasks) (Some writer)) where
      new_found : (first lines : ℕ) → IsWrittenFrom p tasks writer name level material first lines → IsSourceOf p tasks new_passes level search old (Some (source.New search first lines))
      new_found first lines written = record {
        slot = λ patch. New writer written.line level material patch;
        place = λ patch. first + patch * lines;
        from = λ made patch. refl;
        made = λ made below. below;
        passes = λ patch.
            and_from (level == level) ((material == material) && (is_last_writer tasks task name material level writer && is_line_of tasks (λ w. is_of_field w.kind) name writer written.line)) (itself level)
            (and_from (material == material) (is_last_writer tasks task name material level writer && is_line_of tasks (λ w. is_of_field w.kind) name writer written.line) (itself material)
            (and_from (is_last_writer tasks task name material level writer) (is_line_of tasks (λ w. is_of_field w.kind) name writer written.line)
            (last_is_writer tasks task name material level writer last) written.of_line));
        on_patch = λ patch. refl;
        stands = λ patch below read. written.stands patch below;
        no_other = λ place s there passes. by_slot s (slot_is_of_list p tasks place s there) passes;
      }
        where
          by_slot : (s : Slot) → IsOfList p tasks s → new_passes s ≡ true → (s ≡ New writer written.line level material (patch_of s)) × (patch_of s < length (patches_of p level))
          by_slot (New u k l m q) of_list passes =
              let first = and_parts (l == level) ((m == material) && (is_last_writer tasks task name material level u && is_line_of tasks (λ w. is_of_field w.kind) name u k)) passes in
              let second = and_parts (m == material) (is_last_writer tasks task name material level u && is_line_of tasks (λ w. is_of_field w.kind) name u k) first.1 in
              let third = and_parts (is_last_writer tasks task name material level u) (is_line_of tasks (λ w. is_of_field w.kind) name u k) second.1 in
              let a : l ≡ level = eqb-true l level first.0 in
              let b : m ≡ material = eqb-true m material second.0 in
              let c : u ≡ writer = one_writer tasks task name material level writer u last third.0 in
              let d : k ≡ written.line = once.fields name writer k written.line
              (subst (λ (x : ℕ). is_line_of tasks (λ w. is_of_field w.kind) name x k ≡ true) c third.1) written.of_line in
              (cc, subst (λ (x : ℕ). q < length (patches_of p x)) a of_list.of_patches)
          by_slot (Old n l m q) of_list passes = absurd cc
          by_slot (OldNumber n) of_list passes = absurd cc
          by_slot (Part u k l m q) of_list passes = absurd cc
          by_slot (Number u k) of_list passes = absurd cc

      pub of_writer : (o : Option Source) → IsWriterSource p tasks writer name level material search o → IsSourceOf p tasks new_passes level search old o
      of_writer None is = absurd is
      of_writer (Some (source.Number slot)) is = absurd is
      of_writer (Some (source.Old at first)) is = absurd is
      of_writer (Some (source.New at first lines)) is =
          subst (λ (x : ℕ). IsSourceOf p tasks new_passes level search old (Some (source.New x first lines))) (sym is.0) (new_found first lines is.1)

    pub no_new : IsLast (writes_variable name material level) (take task tasks) None → IsSourceOf p tasks new_passes level search old None
    no_new none = λ place s there. by_slot s
      where
        by_slot : (s : Slot) → new_passes s ≡ false
        by_slot (New u k l m q) = false_from_ne_true (new_passes (New u k l m q)) (λ passes.
            let first = and_parts (l == level) ((m == material) && (is_last_writer tasks task name material level u && is_line_of tasks (λ w. is_of_field w.kind) name u k)) passes in
            let second = and_parts (m == material) (is_last_writer tasks task name material level u && is_line_of tasks (λ w. is_of_field w.kind) name u k) first.1 in
            let is = (and_parts (is_last_writer tasks task name material level u) (is_line_of tasks (λ w. is_of_field w.kind) name u k) second.1).0 in
            let fails = no_writer tasks task name material level none u in cc)
        by_slot (Old n l m q) = refl
        by_slot (OldNumber n) = refl
        by_slot (Part u k l m q) = refl
        by_slot (Number u k) = refl

  -- ---- what a requirement wants

  module _ (task : ℕ) (t : Task) (at_task : slice_get tasks task ≡ Some t) (level material : ℕ) (level_there : Contains t.levels level) (material_there : Contains t.materials material)
      (r : Require) (at_r : Contains t.requirements r) where
    -- what it wants is read
    read_here : (patch : ℕ) → patch < length (patches_of p level) → (s : Slot) → wants p tasks task t level material patch s r ≡ true → is_read p tasks s ≡ true
    read_here patch below s wanted =
        let there = contained_at t.requirements r at_r in
        wanted_is_read p tasks task t at_task level material patch level_there material_there below s
        (any_at (wants p tasks task t level material patch s) t.requirements there.0 r there.1 wanted)

    abbrev here : List Require
    here = r ∷ []

    module _ (number : is_of_number r.what ≡ true) where
      wants_number : (patch : ℕ) (s : Slot) → wants p tasks task t level material patch s r ≡ has_number tasks r.store (wanted_name r.what) s
      wants_number patch s = ap (λ (b : Bool). if b then has_number tasks r.store (wanted_name r.what) s
          else has_variable tasks task r.store (wanted_name r.what) material (wanted_level r.what level) s && is_in_window p t r level patch (patch_of s)) number

      pub old_number_read : (patch : ℕ) → patch < length (patches_of p level) → r.store ≡ store.Old → is_read p tasks (OldNumber (wanted_name r.what)) ≡ true
      old_number_read patch below old = read_here patch below (OldNumber (wanted_name r.what))
          (wants_number patch (OldNumber (wanted_name r.what)) ∙ ap (λ (at : Store). has_number tasks at (wanted_name r.what) (OldNumber (wanted_name r.what))) old ∙ itself (wanted_name r.what))

      pub number_source : (made : List Touched) (old : List ℕ) (o : Option ℕ) → HasNumberAt p tasks r.store (wanted_name r.what) o →
          AreSourcesOf p tasks task t level material here made old (option_to_list (option_map source.Number o))
      number_source made old None found = record {
        searched = All-nil (IsMade made);
        within = λ patch below. All-nil (λ s. All (λ place. place < length (slots_of p tasks)) (slots_from made old patch s));
        wanted = λ patch place s below at. sym (ap (λ b. b || false) (wants_number patch s ∙ found.alone place s at));
      }
      number_source made old (Some n) found = record {
        searched = All-cons (IsMade made) (source.Number n) [] tt (All-nil (IsMade made));
        within = λ patch below. All-cons (λ s. All (λ place. place < length (slots_of p tasks)) (slots_from made old patch s)) (source.Number n) []
            (All-cons (λ place. place < length (slots_of p tasks)) n [] found.within (All-nil (λ place. place < length (slots_of p tasks))))
            (All-nil (λ s. All (λ place. place < length (slots_of p tasks)) (slots_from made old patch s)));
        wanted = λ patch place s below at. ap (λ b. b || false) (or_false (n == place) ∙ sym (wants_number patch s ∙ found.alone place s at));
      }
        where
          or_false : (b : Bool) → (b || false) ≡ b
          or_false true = refl
          or_false false = refl

    module _ (variable : is_of_number r.what ≡ false) (made : List Touched) (old : List ℕ) (search : ℕ) (below_made : search < length made)
        (found : (patch : ℕ) → patch < length (patches_of p level) → found_by made search patch ≡ filter (is_in_window p t r level patch) (patches_of p (wanted_level r.what level))) where
      abbrev wanted_on : ℕ
      wanted_on = wanted_level r.what level

      abbrev has_it : Slot → Bool
      has_it s = has_variable tasks task r.store (wanted_name r.what) material (wanted_level r.what level) s

      abbrev near : (patch other : ℕ) → Bool
      near patch other = is_in_window p t r level patch other

      wants_is : (patch : ℕ) (s : Slot) → wants p tasks task t level material patch s r ≡ (has_it s && near patch (patch_of s))
      wants_is patch s = ap (λ (b : Bool). if b then has_number tasks r.store (wanted_name r.what) s else has_it s && near patch (patch_of s)) variable

      module _ (s : Source) (f : AreFoundBy p tasks has_it (wanted_level r.what level) search old s) (patch : ℕ) (below : patch < length (patches_of p level)) where
        abbrev others : List ℕ
        others = filter (near patch) (patches_of p (wanted_level r.what level))

        abbrev is_near : ℕ → Type 0
        is_near other = (other < length (patches_of p (wanted_level r.what level))) × (near patch other ≡ true)

        slots_are : slots_from made old patch s ≡ map f.place others
        slots_are = f.from made patch ∙ ap (map f.place) (found patch below)

        stands_near : (other : ℕ) → is_near other → StandsAt p tasks (f.place other) (f.slot other)
        stands_near other is = f.stands other is.0 (read_here patch below (f.slot other) (wants_is patch (f.slot other)
            ∙ and_from (has_it (f.slot other)) (near patch (patch_of (f.slot other))) (f.passes other) (ap (near patch) (f.on_patch other) ∙ is.1)))

        all_near : All is_near others
        all_near i other on = (
          All-filter (near patch) (λ k. k < length (patches_of p (wanted_level r.what level))) (patches_of p (wanted_level r.what level))
              (in_counted (option_map_or (λ l. length l.patches) (slice_get p.levels (wanted_level r.what level)) 0)) i other on,
          filter_passes (near patch) (patches_of p (wanted_level r.what level)) i other on,
        )

        places_within : All (λ place. place < length (slots_of p tasks)) (slots_from made old patch s)
        places_within = subst (All (λ place. place < length (slots_of p tasks))) (sym slots_are)
            (All-map (λ place. place < length (slots_of p tasks)) f.place others (λ i other on.
            slice_get_within (slots_of p tasks) (f.place (get_or others i other)) (f.slot (get_or others i other)) (stands_near (get_or others i other) (all_near i other on))))

        wanted_at : (place : ℕ) (x : Slot) → StandsAt p tasks place x → has (slots_from made old patch s) place ≡ wants p tasks task t level material patch x r
        wanted_at place x there = ap (λ slots. has slots place) slots_are ∙ same_tests (has (map f.place others) place) (has_it x && near patch (patch_of x)) forth back ∙ sym (wants_is patch x)
          where
            forth : has (map f.place others) place ≡ true → (has_it x && near patch (patch_of x)) ≡ true
            forth is =
                let at = at_place (λ m. m == place) (map f.place others) is in
                let other = from_map f.place others at.0 at.1 at.2 in
                let close = all_at is_near others at.0 other.0 other.1 all_near in
                let at_it : f.place other.0 ≡ place = other.2 ∙ eqb-true at.1 place at.3 in
                let one : x ≡ f.slot other.0 = same_slot place x (f.slot other.0) there (subst (λ (k : ℕ). StandsAt p tasks k (f.slot other.0)) at_it (stands_near other.0 close)) in
                and_from (has_it x) (near patch (patch_of x)) (ap has_it one ∙ f.passes other.0) (ap (λ y. near patch (patch_of y)) one ∙ ap (near patch) (f.on_patch other.0) ∙ close.1)

            back : (has_it x && near patch (patch_of x)) ≡ true → has (map f.place others) place ≡ true
            back is =
                let two = and_parts (has_it x) (near patch (patch_of x)) is in
                let one = f.no_other place x there two.0 in
                let standing = stands_near (patch_of x) (one.1, two.1) in
                let here : f.place (patch_of x) ≡ place = once.slots (f.place (patch_of x)) place x (standing ∙ ap Some (sym one.0)) there in
                list_any-map (λ m. m == place) f.place others
                ∙ any_filtered (λ other. f.place other == place) (near patch) (patches_of p (wanted_level r.what level)) (patch_of x) (patch_of x)
                (counted-at (option_map_or (λ l. length l.patches) (slice_get p.levels (wanted_level r.what level)) 0) (patch_of x)
                (omega (arith, one.1, length-counted 0 (option_map_or (λ l. length l.patches) (slice_get p.levels (wanted_level r.what level)) 0))))
                two.1 (eq-eqb (f.place (patch_of x)) place here)

      pub variable_source : (o : Option Source) → IsSourceOf p tasks has_it (wanted_level r.what level) search old o → AreSourcesOf p tasks task t level material here made old (option_to_list o)
      variable_source None none = record {
        searched = All-nil (IsMade made);
        within = λ patch below. All-nil (λ s. All (λ place. place < length (slots_of p tasks)) (slots_from made old patch s));
        wanted = λ patch place s below at. sym (ap (λ b. b || false) (wants_is patch s ∙ ap (λ b. b && near patch (patch_of s)) (none place s at)));
      }
      variable_source (Some s) f = record {
        searched = All-cons (IsMade made) s [] (f.made made below_made) (All-nil (IsMade made));
        within = λ patch below. All-cons (λ x. All (λ place. place < length (slots_of p tasks)) (slots_from made old patch x)) s [] (places_within s f patch below)
            (All-nil (λ x. All (λ place. place < length (slots_of p tasks)) (slots_from made old patch x)));
        wanted = λ patch place x below at. ap (λ b. b || false) (wanted_at s f patch below place x at);
      }
