-- The part in which a read is looked up is that of the requirement which supplies it.
use Rattle.std.proofs.Common.{◌≡◌, ◌∙◌, ◌<◌, Bool, true, false, List, length, Some, refl, sym, ap, subst, eq-eqb, arith}
use Rattle.std.specs.Prelude.{Contains, not, ◌==◌}
use Rattle.std.specs.List.{find}
use Rattle.std.proofs.lemmas.Bool.{eqb-true}
use Rattle.std.proofs.lemmas.Option.{slice_get_within}
use Rattle.kernel_ast.specs.declared.expression.Store.{Store}
use Rattle.kernel_ast.specs.declared.expression.Store.TheVariants.{Old, New}
use Rattle.kernel_ast.specs.declared.expression.How.{How}
use Rattle.kernel_ast.specs.declared.expression.How.TheVariants.{Same, Coarse, FineSum, FineMin, FineMax, FineCount}
use Rattle.kernel_ast.specs.declared.expression.Read.{Read}
use Rattle.problem_types.specs.declared.problem.Problem.{Problem}
use Rattle.problem_types.specs.declared.problem.Require.{Require}
use Rattle.problem_types.specs.declared.problem.Task.{Task}
use Rattle.problem_types.specs.declared.problem.What.{What}
use Rattle.problem_types.specs.declared.problem.What.TheVariants as what
use Rattle.task_rules.specs.Lines.{wanted_name}
use Rattle.task_rules.specs.Names.{HaveOneRelation}
use Rattle.task_check.specs.Laws.{AcceptedProblemsAreBounded}
use Rattle.task_check.specs.Plan.{Slot, is_of_number}
use Rattle.kernel_eval.specs.Environments.{is_part_of, is_read_in, is_same_store}
use Rattle.kernel_eval.specs.declared.part.Part.{Part}
use Rattle.slot_contents.specs.Laws.{IsTaskOf}
use Rattle.run_task.specs.Gathered.{AreParts, HasSeen, IsPartOf, form_of, variables_required}
use Rattle.run_task.specs.declared.work.Site.{Site}
use Rattle.run_task.proofs.Offsets.{all_true, each_true}
use Rattle.run_task.proofs.Lists.{finds, found, keeps, kept, place_of, there_at}
use Rattle.run_task.proofs.TasksAtSites.{one_requirement}

pub one_store : (a b : Store) → is_same_store a b ≡ true → a ≡ b
one_store Old Old same = refl
one_store New New same = refl
one_store Old New same = absurd (cc)
one_store New Old same = absurd (cc)

pub same_store : (a : Store) → is_same_store a a ≡ true
same_store Old = refl
same_store New = refl

-- the form of the parts into which a read of a form looks
abbrev looks_into : How → How
looks_into Same = Same
looks_into Coarse = Coarse
looks_into FineSum = FineSum
looks_into FineMin = FineSum
looks_into FineMax = FineSum
looks_into FineCount = FineSum

looked_into : (how form : How) → is_read_in how form ≡ true → form ≡ looks_into how
looked_into Same Same reads = refl
looked_into Coarse Coarse reads = refl
looked_into FineSum FineSum reads = refl
looked_into FineMin FineSum reads = refl
looked_into FineMax FineSum reads = refl
looked_into FineCount FineSum reads = refl
looked_into how form reads = absurd (cc)

-- two requirements of variables whose parts have one form are of one relation
one_relation : (a b : What) → is_of_number a ≡ false → is_of_number b ≡ false → form_of a ≡ form_of b → HaveOneRelation a b
one_relation (what.Same a g) (what.Same b h) first second same = tt
one_relation (what.Coarse a g) (what.Coarse b h) first second same = tt
one_relation (what.Fine a) (what.Fine b) first second same = tt
one_relation a b first second same = absurd (cc)

not_of_number : (b : Bool) → not b ≡ true → b ≡ false
not_of_number false passes = refl
not_of_number true passes = absurd (cc)

-- a requirement and its part, in which a read is looked up
pub record HasPart (p : Problem) (t : Task) (site : Site) (seen : List Slot) (parts : List Part) (r : Read) (q : Require) (part : Part) : Type 0 where
  pub is_found : find (is_part_of r) parts ≡ Some part
  pub part_is : IsPartOf p t site q part
  pub has_seen : HasSeen p site seen q part

-- a read of what a requirement of a variable supplies
pub record LooksFor (t : Task) (r : Read) (q : Require) : Type 0 where
  pub required : Contains t.requirements q
  pub variable : is_of_number q.what ≡ false
  pub store : q.store ≡ r.store
  pub form : is_read_in r.how (form_of q.what) ≡ true
  pub name : wanted_name q.what ≡ r.name

module _ (bounds : AcceptedProblemsAreBounded) (p : Problem) (t : Task) (site : Site) (seen : List Slot) (is : IsTaskOf p site.step site.task t)
    (parts : List Part) (are : AreParts p t site seen (variables_required t) parts) (r : Read) (q : Require) (looks : LooksFor t r q) where
  abbrev is_variable : Require → Bool
  is_variable q = not (is_of_number q.what)

  -- the part of the requirement has the numbers of the read
  passes : (part : Part) → IsPartOf p t site q part → is_part_of r part ≡ true
  passes part part_is =
      all_true (is_same_store r.store part.store) (is_read_in r.how part.how) (part.name == r.name)
      (ap (λ s. is_same_store r.store s) (part_is.store ∙ looks.store) ∙ same_store r.store)
      (ap (λ form. is_read_in r.how form) part_is.form ∙ looks.form)
      (eq-eqb part.name r.name (part_is.name ∙ looks.name))

  -- a part that has them is that of the requirement
  is_the_one : (part : Part) (o : Require) → Contains t.requirements o → is_of_number o.what ≡ false → IsPartOf p t site o part → is_part_of r part ≡ true → o ≡ q
  is_the_one part o has variable part_is has_numbers =
      let each = each_true (is_same_store r.store part.store) (is_read_in r.how part.how) (part.name == r.name) has_numbers in
      let store : o.store ≡ q.store = sym part_is.store ∙ sym (one_store r.store part.store each.0) ∙ sym looks.store in
      let form : form_of o.what ≡ form_of q.what =
      sym part_is.form ∙ looked_into r.how part.how each.1 ∙ sym (looked_into r.how (form_of q.what) looks.form) in
      let name : wanted_name o.what ≡ wanted_name q.what = sym part_is.name ∙ eqb-true part.name r.name each.2 ∙ sym looks.name in
      one_requirement bounds p site.step site.task t is o q has looks.required
      (record { store = store; relation = one_relation o.what q.what variable looks.variable form; name = name })
      (record { store = sym store; relation = one_relation q.what o.what looks.variable variable (sym form); name = sym name })

  pub part_of_read : (part : Part) × HasPart p t site seen parts r q part
  part_of_read =
      let place = place_of t.requirements q looks.required in
      let among = keeps is_variable t.requirements place.0 q place.1 (ap not looks.variable) in
      let within : among.0 < length parts = (let below = slice_get_within (variables_required t) among.0 q among.1 in let many = are.many in omega (arith, below, many)) in
      let its = there_at parts among.0 within in
      let some = finds (is_part_of r) parts among.0 its.0 its.1 (passes its.0 (are.each among.0 q its.0 among.1 its.1).0) in
      let first = found (is_part_of r) parts some.0 some.1 in
      let below : first.0 < length (variables_required t) = (let inside = slice_get_within parts first.0 some.0 first.1 in let many = are.many in omega (arith, inside, many)) in
      let other = there_at (variables_required t) first.0 below in
      let other_is = kept is_variable t.requirements first.0 other.0 other.1 in
      let both = are.each first.0 other.0 some.0 other.1 first.1 in
      let same = is_the_one some.0 other.0 other_is.0 (not_of_number (is_of_number other.0.what) other_is.1) both.0 first.2 in (
        some.0,
        record {
          is_found = some.1;
          part_is = subst (λ (o : Require). IsPartOf p t site o some.0) {x = other.0} same both.0;
          has_seen = subst (λ (o : Require). HasSeen p site seen o some.0) {x = other.0} same both.1;
        },
      )
