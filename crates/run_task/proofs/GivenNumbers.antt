-- The number that is given for a reduction which a kernel reads is what stood before the task.
use Rattle.std.proofs.Common.{◌≡◌, ◌∙◌, ℕ, pos, ◌<◌, Bool, true, List, length, Option, refl, sym, ap, subst, eq-eqb, arith}
use Rattle.std.specs.Prelude.{Contains, ◌==◌, ◌&&◌}
use Rattle.std.specs.Option.{option_map_or}
use Rattle.std.proofs.lemmas.Bool.{and_parts, eqb-true}
use Rattle.std.proofs.lemmas.Option.{slice_get_within}
use Rattle.kernel_ast.specs.declared.expression.Store.{Store}
use Rattle.problem_types.specs.declared.problem.Problem.{Problem}
use Rattle.problem_types.specs.declared.problem.Require.{Require}
use Rattle.problem_types.specs.declared.problem.Task.{Task}
use Rattle.problem_types.specs.declared.problem.What.TheVariants as what
use Rattle.task_rules.specs.Lines.{wanted_name}
use Rattle.task_check.specs.Plan.{Slot, is_of_number}
use Rattle.kernel_eval.specs.Environments.{is_given_as, is_same_store, number_given}
use Rattle.kernel_eval.specs.declared.windows.Given.{Given}
use Rattle.kernel_eval.specs.declared.windows.Windows.{Windows}
use Rattle.slot_contents.specs.Contents.{stood}
use Rattle.slot_contents.specs.Laws.{IsTaskOf, RunsAt, NumbersAreRead}
use Rattle.run_task.specs.Gathered.{AreGiven, IsGivenFor, numbers_required, slots_read}
use Rattle.run_task.specs.declared.work.Site.{Site}
use Rattle.run_task.proofs.PartsOfReads.{one_store, same_store}
use Rattle.run_task.proofs.Lists.{finds, found, keeps, kept, place_of, there_at}
use Rattle.run_task.proofs.WholeWindows.{among_read, detail_at}

module _ (read : NumbersAreRead) (p : Problem) (t : Task) (site : Site) (seen : List Slot) (is : IsTaskOf p site.step site.task t)
    (runs : RunsAt p t site.level site.material site.patch) (all : seen ≡ slots_read p site.step (detail_at site)) (w : Windows)
    (are : AreGiven p site seen (numbers_required t) w.numbers.items) (store : Store) (name : ℕ) where
  -- the number that is given for a requirement
  is_number : (q : Require) (g : Given) → Contains t.requirements q → is_of_number q.what ≡ true → IsGivenFor p site seen q g →
      g.number ≡ (stood p site.step site.task q.store).reduction (wanted_name q.what)
  is_number q g has of_number given =
      let one = read p site.step site.task t site.level site.material site.patch q is runs has of_number in
      given.number one.0
      (subst (λ (slots : List Slot). Contains slots one.0) (sym all) (among_read p site.step (detail_at site) one.0 one.1.slot one.1.is_read)) one.1.number

  -- one that is found as the reduction's
  found_number : (q : Require) (g : Given) → Contains t.requirements q → is_of_number q.what ≡ true → IsGivenFor p site seen q g → is_given_as store name g ≡ true →
      g.number ≡ (stood p site.step site.task store).reduction name
  found_number q g has of_number given passes =
      let parts = and_parts (is_same_store store g.store) (g.name == name) passes in
      let at_store : q.store ≡ store = sym given.store ∙ sym (one_store store g.store parts.0) in
      let at_name : wanted_name q.what ≡ name = sym given.name ∙ eqb-true g.name name parts.1 in
      is_number q g has of_number given ∙ ap (λ (s : Store). (stood p site.step site.task s).reduction (wanted_name q.what)) at_store
      ∙ ap (stood p site.step site.task store).reduction at_name

  pub given_agrees : (q : Require) → Contains t.requirements q → q.store ≡ store → q.what ≡ what.Number name →
      number_given w store name ≡ (stood p site.step site.task store).reduction name
  given_agrees q has at_store at_what =
      let numbers = w.numbers.items in
      let place = place_of t.requirements q has in
      let among = keeps (λ (r : Require). is_of_number r.what) t.requirements place.0 q place.1 (ap is_of_number at_what) in
      let within : among.0 < length numbers = (let below = slice_get_within (numbers_required t) among.0 q among.1 in let many = are.many in omega (arith, below, many)) in
      let its = there_at numbers among.0 within in
      let its_given = are.each among.0 q its.0 among.1 its.1 in
      let passes : is_given_as store name its.0 ≡ true =
      both (is_same_store store its.0.store) (its.0.name == name) (ap (is_same_store store) (its_given.store ∙ at_store) ∙ same_store store)
      (eq-eqb its.0.name name (its_given.name ∙ ap wanted_name at_what)) in
      let some = finds (is_given_as store name) numbers among.0 its.0 its.1 passes in
      let first = found (is_given_as store name) numbers some.0 some.1 in
      let below : first.0 < length (numbers_required t) = (let inside = slice_get_within numbers first.0 some.0 first.1 in let many = are.many in omega (arith, inside, many)) in
      let other = there_at (numbers_required t) first.0 below in
      let other_is = kept (λ (r : Require). is_of_number r.what) t.requirements first.0 other.0 other.1 in
      ap (λ (o : Option Given). option_map_or (λ g. g.number) o (pos 0)) some.1
      ∙ found_number other.0 some.0 other_is.0 other_is.1 (are.each first.0 other.0 some.0 other.1 first.1) first.2
    where
      both : (a b : Bool) → a ≡ true → b ≡ true → (a && b) ≡ true
      both a b x y = rw (x, y) refl
