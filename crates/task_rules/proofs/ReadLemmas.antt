-- What is allowed in an expression, from what is allowed in its parts.
use Rattle.std.proofs.Common.{◌≡◌, ◌∙◌, ℕ, true, ◌↔◌, List, [], ◌∷◌, ◌++◌, refl, sym}
use Rattle.std.specs.Prelude.{All, IsTrue}
use Rattle.std.proofs.lemmas.List.Elements.{All-nil, All-cons, All-head, All-append, All-from_recursion, recursion_from_All}
use Rattle.std.specs.List.{AllByRecursion}
use Rattle.kernel_ast.specs.Folds.{fold-at_form}
use Rattle.kernel_ast.specs.declared.expression.Store.{Store}
use Rattle.kernel_ast.specs.declared.expression.Read.{Read}
use Rattle.kernel_ast.specs.declared.expression.Op.{Op}
use Rattle.kernel_ast.specs.declared.expression.Expr.{Expr}
use Rattle.kernel_ast.specs.declared.expression.Expr.TheOpen.{Expr-F, Literal, X, Y, Z, Level, Material, Step, Read as Reading, Number, Neg, Binary, Select}
use Rattle.kernel_ast.specs.declared.expression.Expr.TheVariants as expr
use Rattle.kernel_ast.specs.declared.expression.Expr.TheViews.{roll-Expr, out-Expr, roll-out-Expr}
use Rattle.kernel_ast.specs.declared.expression.Expr.TheFolds.{map-Expr}
use Rattle.task_rules.specs.Reads.{reads_of, reads_over, numbers_of, numbers_over}

-- each of two lists holds what both together hold
first_of : {A : Type 0} (P : A → Type 0) (xs ys : List A) → AllByRecursion P (xs ++ ys) → AllByRecursion P xs
first_of P [] ys all = tt
first_of P (x ∷ xs) ys (here, rest) = (here, first_of P xs ys rest)

second_of : {A : Type 0} (P : A → Type 0) (xs ys : List A) → AllByRecursion P (xs ++ ys) → AllByRecursion P ys
second_of P [] ys all = all
second_of P (x ∷ xs) ys (here, rest) = second_of P xs ys rest

All-parts : {A : Type 0} (P : A → Type 0) (xs ys : List A) → All P (xs ++ ys) ↔ (All P xs × All P ys)
All-parts P xs ys = (
  λ all. let each = recursion_from_All P (xs ++ ys) all in
      (All-from_recursion P xs (first_of P xs ys each), All-from_recursion P ys (second_of P xs ys each)),
  λ (first, second). All-append P xs ys first second,
)

-- the reads at a form of expression, over those of its parts
reads_at_form : {x : Expr} (d : Expr-F Expr) → roll-Expr d ≡ x → reads_of x ≡ reads_over (map-Expr Expr (List Read) reads_of d)
unfolding reads_of
reads_at_form d made = fold-at_form reads_over d made

numbers_at_form : {x : Expr} (d : Expr-F Expr) → roll-Expr d ≡ x → numbers_of x ≡ numbers_over (map-Expr Expr (List (Store × ℕ)) numbers_of d)
unfolding numbers_of
numbers_at_form d made = fold-at_form numbers_over d made

module _ (P : Read → Type 0) (Q : Store → ℕ → Type 0) where
  abbrev Are : List Read → List (Store × ℕ) → Type 0
  Are reads numbers = All P reads × All (λ n. Q n.0 n.1) numbers

  -- the reads of an expression are such, and those of reductions are such
  abbrev Allowed : Expr → Type 0
  Allowed e = Are (reads_of e) (numbers_of e)

  nothing : Are [] []
  nothing = (All-nil P, All-nil (λ n. Q n.0 n.1))

  at_form : {e : Expr} (d : Expr-F Expr) → roll-Expr d ≡ e →
      Allowed e ↔ Are (reads_over (map-Expr Expr (List Read) reads_of d)) (numbers_over (map-Expr Expr (List (Store × ℕ)) numbers_of d))
  at_form d made = (
    λ all. (rw (reads_at_form d made) at all.0, rw (numbers_at_form d made) at all.1),
    λ all. (rw (reads_at_form d made) all.0, rw (numbers_at_form d made) all.1),
  )

  -- a form that reads nothing and has no parts
  without_reads : {e : Expr} (d : Expr-F Expr) → roll-Expr d ≡ e → Are (reads_over (map-Expr Expr (List Read) reads_of d))
      (numbers_over (map-Expr Expr (List (Store × ℕ)) numbers_of d)) → IsTrue true ↔ Allowed e
  without_reads d made none = (λ yes. (at_form d made).1 none, λ all. refl)

  allowed_at : (e : Expr) (d : Expr-F Expr) → roll-Expr d ≡ e → ((r : Read) → ¬ (e ≡ expr.Read r)) →
      ((store : Store) (name : ℕ) → ¬ (e ≡ expr.Number store name)) → ((a : Expr) → ¬ (e ≡ expr.Neg a)) →
      ((o : Op) (a b : Expr) → ¬ (e ≡ expr.Binary o a b)) → ((c a b : Expr) → ¬ (e ≡ expr.Select c a b)) → IsTrue true ↔ Allowed e
  allowed_at e (Literal n) made read number neg binary select = without_reads (Literal n) made nothing
  allowed_at e X made read number neg binary select = without_reads X made nothing
  allowed_at e Y made read number neg binary select = without_reads Y made nothing
  allowed_at e Z made read number neg binary select = without_reads Z made nothing
  allowed_at e Level made read number neg binary select = without_reads Level made nothing
  allowed_at e Material made read number neg binary select = without_reads Material made nothing
  allowed_at e Step made read number neg binary select = without_reads Step made nothing
  allowed_at e (Reading r) made read number neg binary select = absurd (read r (sym made ∙ expr.rolls-Read r))
  allowed_at e (Number store name) made read number neg binary select =
      absurd (number store name (sym made ∙ expr.rolls-Number store name))
  allowed_at e (Neg a) made read number neg binary select = absurd (neg a (sym made ∙ expr.rolls-Neg a))
  allowed_at e (Binary o a b) made read number neg binary select = absurd (binary o a b (sym made ∙ expr.rolls-Binary o a b))
  allowed_at e (Select c a b) made read number neg binary select = absurd (select c a b (sym made ∙ expr.rolls-Select c a b))

  pub allowed_in_leaf : (e : Expr) → ((r : Read) → ¬ (e ≡ expr.Read r)) →
      ((store : Store) (name : ℕ) → ¬ (e ≡ expr.Number store name)) → ((a : Expr) → ¬ (e ≡ expr.Neg a)) →
      ((o : Op) (a b : Expr) → ¬ (e ≡ expr.Binary o a b)) → ((c a b : Expr) → ¬ (e ≡ expr.Select c a b)) → IsTrue true ↔ Allowed e
  allowed_in_leaf e = allowed_at e (out-Expr e) (roll-out-Expr e)

  pub allowed-Read : (e : Expr) (r : Read) → e ≡ expr.Read r → Allowed e ↔ P r
  allowed-Read e r is =
      let same = at_form (Reading r) (expr.rolls-Read r ∙ sym is) in (
        λ all. All-head P r [] (same.0 all).0,
        λ here. same.1 (All-cons P r [] here (All-nil P), All-nil (λ n. Q n.0 n.1)),
      )

  pub allowed-Number : (e : Expr) (store : Store) (name : ℕ) → e ≡ expr.Number store name → Allowed e ↔ Q store name
  allowed-Number e store name is =
      let same = at_form (Number store name) (expr.rolls-Number store name ∙ sym is) in (
        λ all. All-head (λ n. Q n.0 n.1) (store, name) [] (same.0 all).1,
        λ here. same.1 (All-nil P, All-cons (λ n. Q n.0 n.1) (store, name) [] here (All-nil (λ n. Q n.0 n.1))),
      )

  pub allowed-Neg : (e a : Expr) → e ≡ expr.Neg a → Allowed e ↔ Allowed a
  allowed-Neg e a is = at_form (Neg a) (expr.rolls-Neg a ∙ sym is)

  -- the reads of two parts
  in_both : (reads reads' : List Read) (numbers numbers' : List (Store × ℕ)) →
      Are (reads ++ reads') (numbers ++ numbers') ↔ (Are reads numbers × Are reads' numbers')
  in_both reads reads' numbers numbers' =
      let fields = All-parts P reads reads' in
      let sums = All-parts (λ n. Q n.0 n.1) numbers numbers' in (
        λ all. (((fields.0 all.0).0, (sums.0 all.1).0), ((fields.0 all.0).1, (sums.0 all.1).1)),
        λ (first, second). (fields.1 (first.0, second.0), sums.1 (first.1, second.1)),
      )

  pub allowed-Binary : (e : Expr) (o : Op) (a b : Expr) → e ≡ expr.Binary o a b → Allowed e ↔ (Allowed a × Allowed b)
  allowed-Binary e o a b is =
      let same = at_form (Binary o a b) (expr.rolls-Binary o a b ∙ sym is) in
      let both = in_both (reads_of a) (reads_of b) (numbers_of a) (numbers_of b) in
      (λ all. both.0 (same.0 all), λ parts. same.1 (both.1 parts))

  pub allowed-Select : (e c a b : Expr) → e ≡ expr.Select c a b → Allowed e ↔ (Allowed c × Allowed a × Allowed b)
  allowed-Select e c a b is =
      let same = at_form (Select c a b) (expr.rolls-Select c a b ∙ sym is) in
      let last = in_both (reads_of c ++ reads_of a) (reads_of b) (numbers_of c ++ numbers_of a) (numbers_of b) in
      let first = in_both (reads_of c) (reads_of a) (numbers_of c) (numbers_of a) in (
        λ all. let parts = last.0 (same.0 all) in let two = first.0 parts.0 in (two.0, two.1, parts.1),
        λ parts. same.1 (last.1 (first.1 (parts.0, parts.1), parts.2)),
      )
