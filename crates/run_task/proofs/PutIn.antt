-- A slot's value put into what a task sees is what stood before the task.
use Rattle.std.proofs.Common.{◌≡◌, ◌∙◌, ◌⊎◌, inl, inr, ℕ, ◌+◌, ℤ, Bool, true, false, cond, List, [], ◌∷◌, ◌++◌, length, map, take, Some, refl, sym, ap, subst, arith}
use Rattle.std.specs.Prelude.{◌&&◌, ◌↔◌, Contains, IsTrue, slice_get}
use Rattle.std.specs.Option.{option_map}
use Rattle.std.proofs.lemmas.Bool.{and_from, and_parts}
use Rattle.std.proofs.lemmas.List.{length-map, map-append}
use Rattle.std.proofs.lemmas.List.Elements.{Contains-push_cases}
use Rattle.std.proofs.lemmas.List.Sums.{fold_push}
use Rattle.std.proofs.lemmas.Option.{same_Some, slice_get-map, slice_get_within}
use Rattle.uts_geom.specs.Spans.{indexes_of, is_inside}
use Rattle.uts_geom.specs.declared.index.Index.{Index}
use Rattle.uts_geom.specs.declared.span.Span.{Span}
use Rattle.kernel_ast.specs.declared.expression.How.{How}
use Rattle.kernel_ast.specs.declared.expression.Store.{Store}
use Rattle.problem_types.specs.Lists.{centring_of, fold_of, task_list}
use Rattle.problem_types.specs.declared.problem.Fold.{Fold}
use Rattle.problem_types.specs.declared.problem.Problem.{Problem}
use Rattle.problem_types.specs.declared.problem.Require.{Require}
use Rattle.problem_types.specs.declared.problem.Task.{Task}
use Rattle.problem_types.specs.declared.problem.What.{What}
use Rattle.problem_types.specs.declared.problem.What.TheVariants as what
use Rattle.problem_types.specs.declared.problem.Write.{Write}
use Rattle.task_rules.specs.Lines.{wanted_level, wanted_name}
use Rattle.task_check.specs.Plan.{Combining, Detail, OnPatch, Slot, details_of, has_number, has_variable, is_of_number, patch_of, reads, slots_of}
use Rattle.field_box.specs.Fields.{NumberedSpan, number_at}
use Rattle.field_box.specs.declared.value.Value.{Value}
use Rattle.field_box.specs.declared.value.Value.TheVariants as value
use Rattle.ghost_gather.specs.Windows.{number_seen}
use Rattle.graph_types.specs.Content.{FitsSlot}
use Rattle.graph_types.specs.Graph.{reads_of}
use Rattle.graph_compiler.specs.Shown.{shown_slot}
use Rattle.graph_compiler.specs.declared.plan.Plan.{Plan}
use Rattle.graph_compiler.specs.declared.plan.Slot.{Slot as ShownSlot}
use Rattle.kernel_eval.specs.declared.part.Part.{Part}
use Rattle.kernel_eval.specs.declared.windows.Given.{Given}
use Rattle.kernel_eval.specs.declared.windows.Windows.{Windows}
use Rattle.reductions.specs.Folding.{all_combined, combined, identity_of}
use Rattle.slot_contents.specs.Contents.{content_of, contents_of, number_held, numbers_held, owned_on, stood}
use Rattle.slot_contents.specs.Laws.{IsSlotOf, IsTaskOf, NumbersHoldWhatStood, SlotsHoldWhatStood}
use Rattle.slot_contents.specs.Values.{Fits, content_of_value}
use Rattle.run_task.specs.Gathered.{AreGiven, AreParts, AreWindows, HasSeen, IsCombiningWork, IsGivenFor, IsPartOf, IsWork, form_of, numbers_required, site_of, slots_read, variables_required}
use Rattle.run_task.specs.Jobs.{ShowsList}
use Rattle.run_task.specs.Putting.{AreWithField, AreWithValue, IsWithField, is_number_of, is_slot_of, level_seen, with_number, with_part}
use Rattle.run_task.specs.declared.work.CombiningWork.{CombiningWork}
use Rattle.run_task.specs.declared.work.PatchWork.{PatchWork}
use Rattle.run_task.specs.declared.work.Site.{Site}
use Rattle.run_task.specs.declared.work.Work.TheVariants as work
use Rattle.run_task.proofs.FieldsFit.{IsOf, field_is}
use Rattle.run_task.proofs.Lists.{kept, there_at}
use Rattle.run_task.proofs.Planned.{next_taken, read_stands}
use Rattle.run_task.proofs.SlotsFit.{fits_number, fits_part, fits_variable, no_number, no_part, no_variable}
use Rattle.run_task.proofs.SlotsWanted.{is_about, is_number_about, number_told, read_number, read_variable, variable_told}

-- the level of a part is the one that its requirement wants
level_wanted : (w : What) (level : ℕ) → level_seen (form_of w) level ≡ wanted_level w level
level_wanted (what.Same var layers) level = refl
level_wanted (what.Coarse var layers) level = refl
level_wanted (what.Fine var) level = refl
level_wanted (what.Number name) level = refl

-- the laws on which it rests
pub record AreHeld : Type 0 where
  pub indexes : (s : Span) (i : Index) → Contains (indexes_of s) i ↔ IsTrue (is_inside s i)
  pub variables : SlotsHoldWhatStood
  pub numbers : NumbersHoldWhatStood

-- a slot that a detailed task on a patch reads
pub record IsRead (p : Problem) (site : Site) (s : Slot) : Type 0 where
  pub slot : IsSlotOf p site.step s
  pub is_read : reads p (task_list p site.step) (OnPatch site.task site.level site.material site.patch) s ≡ true

module _ (held : AreHeld) (p : Problem) (t : Task) (site : Site) (is : IsTaskOf p site.step site.task t) (seen : List Slot) (s : Slot) (of : IsRead p site s) where
  abbrev tasks : List Task
  tasks = task_list p site.step

  abbrev shown : ShownSlot
  shown = shown_slot tasks s

  -- a slot has the variable of a requirement, on what its patch owns, and the number of one
  abbrev Has : Require → Slot → Type 0
  Has r o = has_variable tasks site.task r.store (wanted_name r.what) site.material (wanted_level r.what site.level) o ≡ true

  abbrev owned : Require → Slot → Span
  owned r o = owned_on p (wanted_level r.what site.level) (patch_of o) (centring_of p (wanted_name r.what))

  abbrev Counts : Require → Slot → Type 0
  Counts r o = has_number tasks r.store (wanted_name r.what) o ≡ true

  -- ---- a field

  module _ (f : NumberedSpan) (fits : content_of p site.step s ≡ content_of_value (value.Grid f)) where
    same_test : (r : Require) (part : Part) → IsPartOf p t site r part →
        is_slot_of shown part site.level ≡ is_about shown r.store (wanted_name r.what) (wanted_level r.what site.level)
    same_test r part of_part =
        ap (λ (at : Store). is_about shown at part.name (level_seen part.how site.level)) of_part.store
        ∙ ap (λ (name : ℕ). is_about shown r.store name (level_seen part.how site.level)) of_part.name
        ∙ ap (λ (how : How). is_about shown r.store (wanted_name r.what) (level_seen how site.level)) of_part.form
        ∙ ap (is_about shown r.store (wanted_name r.what)) (level_wanted r.what site.level)

    of_variable : (r : Require) → Has r s → IsOf (owned r s) (numbers_held p site.step s) f
    of_variable r has = fits_variable p site.step site.task r.store (wanted_name r.what) site.material (wanted_level r.what site.level) s f has fits

    -- the field's number where it is of the variable
    number_put : (r : Require) (part : Part) (i : Index) → IsPartOf p t site r part → is_slot_of shown part site.level ≡ true → is_inside f.span i ≡ true →
        number_at f i ≡ (stood p site.step site.task r.store).field (wanted_name r.what) site.material (wanted_level r.what site.level) i
    number_put r part i of_part about inside =
        let has : Has r s =
        read_variable p tasks site.task t site.level site.material site.patch s is.stands of.is_read r.store (wanted_name r.what) (wanted_level r.what site.level)
        (sym (same_test r part of_part) ∙ about) in
        let its = of_variable r has in
        let in_owned : IsTrue (is_inside (owned r s) i) = subst (λ (u : Span). is_inside u i ≡ true) its.span inside in
        (field_is held.indexes (owned r s) (numbers_held p site.step s) f its).numbers i in_owned
        ∙ held.variables p site.step site.task t r.store (wanted_name r.what) site.material (wanted_level r.what site.level) s i is of.slot has in_owned

    -- and where it is not, or has no such index, the slot is not what is asked for
    not_asked : (r : Require) (part : Part) (i : Index) → IsPartOf p t site r part → (is_slot_of shown part site.level && is_inside f.span i) ≡ false → Has r s →
        IsTrue (is_inside (owned r s) i) → ⊥
    not_asked r part i of_part fails has in_owned =
        let about : is_slot_of shown part site.level ≡ true =
        same_test r part of_part ∙ variable_told tasks site.task r.store (wanted_name r.what) site.material (wanted_level r.what site.level) s has in
        let inside : is_inside f.span i ≡ true = subst (λ (u : Span). is_inside u i ≡ true) (sym (of_variable r has).span) in_owned in
        let passes : (is_slot_of shown part site.level && is_inside f.span i) ≡ true = and_from (is_slot_of shown part site.level) (is_inside f.span i) about inside in
        cc

    part_put : (r : Require) (before after : Part) → IsWithField shown f site.level before after → IsPartOf p t site r before × HasSeen p site seen r before →
        IsPartOf p t site r after × HasSeen p site (seen ++ s ∷ []) r after
    part_put r before after put was = (
      record {
        store = ap (λ (part : Part). part.store) put.kept ∙ was.0.store;
        form = ap (λ (part : Part). part.how) put.kept ∙ was.0.form;
        name = ap (λ (part : Part). part.name) put.kept ∙ was.0.name;
        centring = ap (λ (part : Part). part.centring) put.kept ∙ was.0.centring;
        ratio = ap (λ (part : Part). part.ratio) put.kept ∙ was.0.ratio;
        span = λ l at. put.span ∙ was.0.span l at;
        space = was.0.space ∙ ap (λ (u : Span). u ∷ []) (sym put.space);
        outside = put.outside ∙ was.0.outside;
      },
      λ o i among has in_owned inside within.
          let inside_before : is_inside before.window.span i ≡ true = subst (λ (u : Span). is_inside u i ≡ true) put.span inside in
          let within_before : is_inside before.window.space i ≡ true = subst (λ (u : Span). is_inside u i ≡ true) put.space within in
          put.numbers i inside_before within_before
          ∙ by_test o i has in_owned inside_before within_before (Contains-push_cases seen s o among) (is_slot_of shown before site.level && is_inside f.span i) refl,
    )
      where
        by_test : (o : Slot) (i : Index) → Has r o → IsTrue (is_inside (owned r o) i) → is_inside before.window.span i ≡ true → is_inside before.window.space i ≡ true →
            Contains seen o ⊎ (s ≡ o) → (b : Bool) → (is_slot_of shown before site.level && is_inside f.span i) ≡ b →
            cond b (number_at f i) (number_seen before.window i) ≡ (stood p site.step site.task r.store).field (wanted_name r.what) site.material (wanted_level r.what site.level) i
        by_test o i has in_owned inside within among true is_test =
            let parts = and_parts (is_slot_of shown before site.level) (is_inside f.span i) is_test in number_put r before i was.0 parts.0 parts.1
        by_test o i has in_owned inside within (inl earlier) false is_test = was.1 o i earlier has in_owned inside within
        by_test o i has in_owned inside within (inr now) false is_test =
            absurd (not_asked r before i was.0 is_test (subst (Has r) (sym now) has) (subst (λ (x : Slot). IsTrue (is_inside (owned r x) i)) (sym now) in_owned))

    parts_put : (rs : List Require) (before after : List Part) → AreWithField shown f site.level before after → AreParts p t site seen rs before →
        AreParts p t site (seen ++ s ∷ []) rs after
    parts_put rs before after put was = record {
      many = put.many ∙ was.many;
      each = λ k r part at there.
          let many = put.many in
          let old = there_at before k (let within = slice_get_within after k part there in omega (arith, within, many)) in
          part_put r old.0 part (put.each k old.0 part old.1 there) (was.each k r old.0 at old.1);
    }

    -- the numbers stay what they are
    given_kept : (r : Require) (given : Given) → IsGivenFor p site seen r given → IsGivenFor p site (seen ++ s ∷ []) r given
    given_kept r given was = record {
      store = was.store;
      name = was.name;
      number = λ o among has. by_case o has (Contains-push_cases seen s o among);
    }
      where
        by_case : (o : Slot) → Counts r o → Contains seen o ⊎ (s ≡ o) →
            given.number ≡ (stood p site.step site.task r.store).reduction (wanted_name r.what)
        by_case o has (inl earlier) = was.number o earlier has
        by_case o has (inr now) =
            absurd (no_number p site.step r.store (wanted_name r.what) s f (subst (Counts r) (sym now) has) fits)

    windows_with_field : (before after : Windows) → AreWithField shown f before.level before.parts.items after.parts.items → after ≡ record before { parts = after.parts } →
        AreWindows p t site seen before → AreWindows p t site (seen ++ s ∷ []) after
    windows_with_field before after put is_kept was = record {
      parts =
          parts_put (variables_required t) before.parts.items after.parts.items
          (subst (λ (level : ℕ). AreWithField shown f level before.parts.items after.parts.items) was.level_is put) was.parts;
      numbers = record {
        many = ap (λ (w : Windows). length w.numbers.items) is_kept ∙ was.numbers.many;
        each = λ k r given at there.
            given_kept r given (was.numbers.each k r given at (sym (ap (λ (w : Windows). slice_get w.numbers.items k) is_kept) ∙ there));
      };
      level_is = ap (λ (w : Windows). w.level) is_kept ∙ was.level_is;
      material_is = ap (λ (w : Windows). w.material) is_kept ∙ was.material_is;
      step_is = ap (λ (w : Windows). w.step) is_kept ∙ was.step_is;
    }

  -- ---- a number

  module _ (n : ℤ) (fits : content_of p site.step s ≡ content_of_value (value.Number n)) where
    -- the parts stay what they are
    part_kept : (r : Require) (part : Part) → HasSeen p site seen r part → HasSeen p site (seen ++ s ∷ []) r part
    part_kept r part was = λ o i among has in_owned inside within. by_case o i has in_owned inside within (Contains-push_cases seen s o among)
      where
        by_case : (o : Slot) (i : Index) → Has r o → IsTrue (is_inside (owned r o) i) →
            IsTrue (is_inside part.window.span i) → IsTrue (is_inside part.window.space i) → Contains seen o ⊎ (s ≡ o) →
            number_seen part.window i ≡ (stood p site.step site.task r.store).field (wanted_name r.what) site.material (wanted_level r.what site.level) i
        by_case o i has in_owned inside within (inl earlier) = was o i earlier has in_owned inside within
        by_case o i has in_owned inside within (inr now) =
            absurd (no_variable p site.step site.task r.store (wanted_name r.what) site.material (wanted_level r.what site.level) s n (subst (Has r) (sym now) has) fits)

    given_put : (r : Require) (given : Given) → Contains t.requirements r → is_of_number r.what ≡ true → IsGivenFor p site seen r given →
        IsGivenFor p site (seen ++ s ∷ []) r (with_number shown n given)
    given_put r given required of_number was = by_test (is_number_of shown given) refl
      where
        same_test : is_number_of shown given ≡ is_number_about shown r.store (wanted_name r.what)
        same_test =
            ap (λ (at : Store). is_number_about shown at given.name) was.store ∙ ap (λ (name : ℕ). is_number_about shown r.store name) was.name

        by_case : is_number_of shown given ≡ false → (o : Slot) → Counts r o → Contains seen o ⊎ (s ≡ o) →
            given.number ≡ (stood p site.step site.task r.store).reduction (wanted_name r.what)
        by_case fails o has (inl earlier) = was.number o earlier has
        by_case fails o has (inr now) =
            let passes : is_number_of shown given ≡ true =
            same_test ∙ number_told tasks r.store (wanted_name r.what) s (subst (Counts r) (sym now) has) in
            absurd cc

        by_test : (b : Bool) → is_number_of shown given ≡ b → IsGivenFor p site (seen ++ s ∷ []) r (cond b (record given { number = n }) given)
        by_test true passes =
            let has : Counts r s =
            read_number p tasks site.task t site.level site.material site.patch s is.stands of.is_read r.store (wanted_name r.what) (sym same_test ∙ passes) in
            record {
              store = was.store;
              name = was.name;
              number = λ o among other.
                  fits_number p site.step r.store (wanted_name r.what) s n has fits
                  ∙ held.numbers p site.step site.task t r s is required of_number of.slot has;
            }
        by_test false fails = record {
          store = was.store;
          name = was.name;
          number = λ o among has. by_case fails o has (Contains-push_cases seen s o among);
        }

    numbers_put : (before after : List Given) → after ≡ map (with_number shown n) before → AreGiven p site seen (numbers_required t) before →
        AreGiven p site (seen ++ s ∷ []) (numbers_required t) after
    numbers_put before after put was = record {
      many = ap length put ∙ length-map before (with_number shown n) ∙ was.many;
      each = λ k r given at there.
          let required = kept (λ (q : Require). is_of_number q.what) t.requirements k r at in
          let old = there_at before k (let within = slice_get_within after k given there in let e = ap length put ∙ length-map before (with_number shown n) in omega (arith, within, e)) in
          let here : slice_get after k ≡ Some (with_number shown n old.0) =
          ap (λ (xs : List Given). slice_get xs k) put ∙ slice_get-map (with_number shown n) before k ∙ ap (option_map (with_number shown n)) old.1 in
          let same : with_number shown n old.0 ≡ given = same_Some (with_number shown n old.0) given (sym here ∙ there) in
          subst (IsGivenFor p site (seen ++ s ∷ []) r) same (given_put r old.0 required.0 required.1 (was.each k r old.0 at old.1));
    }

    windows_with_number : (before after : Windows) → after.numbers.items ≡ map (with_number shown n) before.numbers.items → after ≡ record before { numbers = after.numbers } →
        AreWindows p t site seen before → AreWindows p t site (seen ++ s ∷ []) after
    windows_with_number before after put is_kept was = record {
      parts = record {
        many = ap (λ (w : Windows). length w.parts.items) is_kept ∙ was.parts.many;
        each = λ k r part at there.
            let old = was.parts.each k r part at (sym (ap (λ (w : Windows). slice_get w.parts.items k) is_kept) ∙ there) in
            (old.0, part_kept r part old.1);
      };
      numbers = numbers_put before.numbers.items after.numbers.items put was.numbers;
      level_is = ap (λ (w : Windows). w.level) is_kept ∙ was.level_is;
      material_is = ap (λ (w : Windows). w.material) is_kept ∙ was.material_is;
      step_is = ap (λ (w : Windows). w.step) is_kept ∙ was.step_is;
    }

  -- ---- a value

  pub windows_put : (v : Value) (before after : Windows) → Fits (content_of p site.step s) v → AreWithValue shown v before after →
      AreWindows p t site seen before → AreWindows p t site (seen ++ s ∷ []) after
  windows_put (value.Grid f) before after fits put was = windows_with_field f fits before after put.0 put.1 was
  windows_put (value.Number n) before after fits put was = windows_with_number n fits before after put.0 put.1 was

-- ---- the work of a detailed task

patch_put : (held : AreHeld) (p : Problem) (step : ℕ) (d : Detail) (seen : List Slot) (s : Slot) (v : Value) (w : PatchWork) (after : Windows) →
    IsSlotOf p step s → reads p (task_list p step) d s ≡ true → Fits (content_of p step s) v → AreWithValue (shown_slot (task_list p step) s) v w.windows after →
    IsWork p step d seen (work.Patch w) → IsWork p step d (seen ++ s ∷ []) (work.Patch (record w { windows = after }))
patch_put held p step (OnPatch task level material patch) seen s v w after slot is_read fits put was =
    let site = site_of step task level material patch in (
      was.0,
      was.1,
      was.2,
      record {
        windows = windows_put held p was.0 site was.1 seen s (record { slot = slot; is_read = is_read }) v w.windows after fits put was.3.windows;
        room = was.3.room;
      },
    )
patch_put held p step (Combining task line) seen s v w after slot is_read fits put was = absurd was

combined_with : (p : Problem) (step : ℕ) (line : Write) (seen : List Slot) (s : Slot) (n : ℤ) (w : CombiningWork) → n ≡ number_held p step s →
    IsCombiningWork p step line seen w → IsCombiningWork p step line (seen ++ s ∷ []) (record w { number = combined w.fold w.number n })
combined_with p step line seen s n w is was =
    let f = fold_of p line.name in
    record {
      fold = was.fold;
      number =
          ap (λ (g : Fold). combined g w.number n) was.fold
          ∙ ap (λ (m : ℤ). combined f m n) was.number
          ∙ ap (combined f (all_combined f (map (number_held p step) seen))) is
          ∙ sym (fold_push (combined f) (identity_of f) (map (number_held p step) seen) (number_held p step s))
          ∙ ap (all_combined f) (sym (map-append (number_held p step) seen (s ∷ [])));
      room = was.room;
    }

part_put_in : (p : Problem) (step : ℕ) (d : Detail) (seen : List Slot) (s : Slot) (v : Value) (w : CombiningWork) →
    reads p (task_list p step) d s ≡ true → Fits (content_of p step s) v → IsWork p step d seen (work.Combining w) →
    IsWork p step d (seen ++ s ∷ []) (work.Combining (with_part w v))
part_put_in p step (OnPatch task level material patch) seen s v w is_read fits was = absurd was
part_put_in p step (Combining task line) seen s (value.Grid f) w is_read fits was = absurd (no_part p step task line s f is_read fits)
part_put_in p step (Combining task line) seen s (value.Number n) w is_read fits was =
    (was.0, was.1, was.2, was.3, was.4, combined_with p step was.1 seen s n w (fits_part p step task line s n is_read fits) was.5)

-- What a detailed task has gathered, with one value more: the slot of its next read, and the value that fits it.
pub record IsNext (p : Problem) (step : ℕ) (d : Detail) (k : ℕ) (s : Slot) (v : Value) : Type 0 where
  pub next : slice_get (slots_read p step d) k ≡ Some s
  pub fits : Fits (content_of p step s) v

module _ (p : Problem) (step : ℕ) (d : Detail) (k : ℕ) (s : Slot) (v : Value) (is : IsNext p step d k s v) where
  among_slots : IsSlotOf p step s × (reads p (task_list p step) d s ≡ true)
  among_slots = kept (reads p (task_list p step) d) (slots_of p (task_list p step)) k s is.next

  pub gathered_on_patch : AreHeld → (w : PatchWork) (after : Windows) → AreWithValue (shown_slot (task_list p step) s) v w.windows after →
      IsWork p step d (take k (slots_read p step d)) (work.Patch w) → IsWork p step d (take (k + 1) (slots_read p step d)) (work.Patch (record w { windows = after }))
  gathered_on_patch held w after put was =
      subst (λ (seen : List Slot). IsWork p step d seen (work.Patch (record w { windows = after }))) (sym (next_taken p step d k s is.next))
      (patch_put held p step d (take k (slots_read p step d)) s v w after among_slots.0 among_slots.1 is.fits put was)

  pub gathered_part : (w : CombiningWork) → IsWork p step d (take k (slots_read p step d)) (work.Combining w) →
      IsWork p step d (take (k + 1) (slots_read p step d)) (work.Combining (with_part w v))
  gathered_part w was =
      subst (λ (seen : List Slot). IsWork p step d seen (work.Combining (with_part w v))) (sym (next_taken p step d k s is.next))
      (part_put_in p step d (take k (slots_read p step d)) s v w among_slots.1 is.fits was)

-- the next read of a detailed task, whose value is given by the number of a slot
pub next_there : (p : Problem) (step : ℕ) (plan : Plan) → ShowsList p (task_list p step) plan → (task : ℕ) (d : Detail) → slice_get (details_of p (task_list p step)) task ≡ Some d →
    (k slot : ℕ) (v : Value) → slice_get (reads_of plan.graph task) k ≡ Some slot → FitsSlot Fits (contents_of p step) slot v → (s : Slot) × IsNext p step d k s v
next_there p step plan shows task d at k slot v is fits =
    let stands = read_stands p step plan shows task d at k slot is in
    (stands.0, record { next = stands.1; fits = sym stands.2.content ∙ fits })
