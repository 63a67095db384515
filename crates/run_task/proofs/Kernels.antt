-- A kernel gives one number where what it reads gives the same numbers.
use Rattle.std.proofs.Common.{◌≡◌, ◌∙◌, ℕ, zero, suc, ℤ, pos, ◌+◌, ◌<◌, List, [], ◌∷◌, ◌++◌, refl, sym, ap, subst, arith}
use Rattle.std.specs.Prelude.{Contains, max, if◌then◌else◌}
use Rattle.std.specs.Ordering.{int_eq}
use Rattle.std.proofs.lemmas.List.Elements.{Contains-append_left, Contains-append_right}
use Rattle.kernel_ast.specs.Arithmetic.{difference_of}
use Rattle.kernel_ast.specs.Folds.{fold-at_form}
use Rattle.kernel_ast.specs.Size.{depth_of, depth_at_form}
use Rattle.kernel_ast.specs.Value.{Environment, number_of, result_of, value_of}
use Rattle.kernel_ast.specs.declared.expression.Store.{Store}
use Rattle.kernel_ast.specs.declared.expression.Read.{Read}
use Rattle.kernel_ast.specs.declared.expression.Expr.{Expr}
use Rattle.kernel_ast.specs.declared.expression.Expr.TheOpen.{Expr-F, Literal, X, Y, Z, Level, Material, Step, Read as Reading, Number, Neg, Binary, Select}
use Rattle.kernel_ast.specs.declared.expression.Expr.TheViews.{roll-Expr, out-Expr, roll-out-Expr}
use Rattle.kernel_ast.specs.declared.expression.Expr.TheFolds.{map-Expr}
use Rattle.task_rules.specs.Reads.{reads_of, reads_over, numbers_of, numbers_over}

-- the number, and the reads, at a form of expression, over those of its parts
value_at : {x : Expr} (d : Expr-F Expr) → roll-Expr d ≡ x → (e : Environment) → value_of x e ≡ number_of (map-Expr Expr (Environment → ℤ) value_of d) e
unfolding value_of
value_at d made e = ap (λ (f : Environment → ℤ). f e) (fold-at_form number_of d made)

reads_at : {x : Expr} (d : Expr-F Expr) → roll-Expr d ≡ x → reads_of x ≡ reads_over (map-Expr Expr (List Read) reads_of d)
unfolding reads_of
reads_at d made = fold-at_form reads_over d made

numbers_at : {x : Expr} (d : Expr-F Expr) → roll-Expr d ≡ x → numbers_of x ≡ numbers_over (map-Expr Expr (List (Store × ℕ)) numbers_of d)
unfolding numbers_of
numbers_at d made = fold-at_form numbers_over d made

has_one : {A : Type 0} (x : A) → Contains (x ∷ []) x
has_one x = (0, omega arith, refl)

-- two environments give the same at one place
pub record IsOnePlace (a b : Environment) : Type 0 where
  pub x : a.x ≡ b.x
  pub y : a.y ≡ b.y
  pub z : a.z ≡ b.z
  pub level : a.level ≡ b.level
  pub material : a.material ≡ b.material
  pub step : a.step ≡ b.step

module _ (a b : Environment) (place : IsOnePlace a b) where
  abbrev SameReads : List Read → Type 0
  SameReads reads = (r : Read) → Contains reads r → a.read r ≡ b.read r

  abbrev SameNumbers : List (Store × ℕ) → Type 0
  SameNumbers numbers = (n : Store × ℕ) → Contains numbers n → a.number n.0 n.1 ≡ b.number n.0 n.1

  -- each expression of fewer levels gives one number
  abbrev Below : ℕ → Type 0
  Below n = (e : Expr) → depth_of e < n → SameReads (reads_of e) → SameNumbers (numbers_of e) → value_of e a ≡ value_of e b

  module _ (n : ℕ) (below : Below n) (e : Expr) (shallow : depth_of e < suc n) where
    at_form : (d : Expr-F Expr) → roll-Expr d ≡ e → SameReads (reads_over (map-Expr Expr (List Read) reads_of d))
        → SameNumbers (numbers_over (map-Expr Expr (List (Store × ℕ)) numbers_of d))
        → number_of (map-Expr Expr (Environment → ℤ) value_of d) a ≡ number_of (map-Expr Expr (Environment → ℤ) value_of d) b
    at_form (Literal k) made reads numbers = refl
    at_form X made reads numbers = place.x
    at_form Y made reads numbers = place.y
    at_form Z made reads numbers = place.z
    at_form Level made reads numbers = ap (λ (k : ℕ). pos k) place.level
    at_form Material made reads numbers = ap (λ (k : ℕ). pos k) place.material
    at_form Step made reads numbers = ap (λ (k : ℕ). pos k) place.step
    at_form (Reading r) made reads numbers = reads r (has_one r)
    at_form (Number store name) made reads numbers = numbers (store, name) (has_one (store, name))
    at_form (Neg c) made reads numbers =
        let deep : depth_of e ≡ depth_of c + 1 = depth_at_form (Neg c) made in
        ap (λ (k : ℤ). difference_of (pos 0) k) (below c (omega arith) reads numbers)
    at_form (Binary o c d) made reads numbers =
        let deep : depth_of e ≡ max (depth_of c) (depth_of d) + 1 = depth_at_form (Binary o c d) made in
        let first : value_of c a ≡ value_of c b = below c (omega arith) (λ r has. reads r (Contains-append_left (reads_of c) (reads_of d) r has))
        (λ k has. numbers k (Contains-append_left (numbers_of c) (numbers_of d) k has)) in
        let second : value_of d a ≡ value_of d b = below d (omega arith) (λ r has. reads r (Contains-append_right (reads_of c) (reads_of d) r has))
        (λ k has. numbers k (Contains-append_right (numbers_of c) (numbers_of d) k has)) in
        ap (λ (k : ℤ). result_of o k (value_of d a)) first ∙ ap (λ (k : ℤ). result_of o (value_of c b) k) second
    at_form (Select c d f) made reads numbers =
        let deep : depth_of e ≡ max (depth_of c) (max (depth_of d) (depth_of f)) + 1 = depth_at_form (Select c d f) made in
        let two_reads = reads_of c ++ reads_of d in
        let two_numbers = numbers_of c ++ numbers_of d in
        let first : value_of c a ≡ value_of c b = below c (omega arith)
        (λ r has. reads r (Contains-append_left two_reads (reads_of f) r (Contains-append_left (reads_of c) (reads_of d) r has)))
        (λ k has. numbers k (Contains-append_left two_numbers (numbers_of f) k (Contains-append_left (numbers_of c) (numbers_of d) k has))) in
        let second : value_of d a ≡ value_of d b = below d (omega arith)
        (λ r has. reads r (Contains-append_left two_reads (reads_of f) r (Contains-append_right (reads_of c) (reads_of d) r has)))
        (λ k has. numbers k (Contains-append_left two_numbers (numbers_of f) k (Contains-append_right (numbers_of c) (numbers_of d) k has))) in
        let third : value_of f a ≡ value_of f b = below f (omega arith) (λ r has. reads r (Contains-append_right two_reads (reads_of f) r has))
        (λ k has. numbers k (Contains-append_right two_numbers (numbers_of f) k has)) in
        ap (λ (k : ℤ). if int_eq k (pos 0) then value_of f a else value_of d a) first
        ∙ ap (λ (k : ℤ). if int_eq (value_of c b) (pos 0) then value_of f a else k) second
        ∙ ap (λ (k : ℤ). if int_eq (value_of c b) (pos 0) then k else value_of d b) third

    next : SameReads (reads_of e) → SameNumbers (numbers_of e) → value_of e a ≡ value_of e b
    next reads numbers =
        let d = out-Expr e in
        let made = roll-out-Expr e in
        value_at d made a
        ∙ at_form d made (λ r has. reads r (subst (λ (rs : List Read). Contains rs r) (sym (reads_at d made)) has))
        (λ k has. numbers k (subst (λ (ns : List (Store × ℕ)). Contains ns k) (sym (numbers_at d made)) has))
        ∙ sym (value_at d made b)

  all_below : (n : ℕ) → Below n
  all_below zero e shallow reads numbers = absurd (omega arith)
  all_below (suc n) e shallow reads numbers = next n (all_below n) e shallow reads numbers

  pub values_agree : (e : Expr) → SameReads (reads_of e) → SameNumbers (numbers_of e) → value_of e a ≡ value_of e b
  values_agree e reads numbers = all_below (suc (depth_of e)) e (omega arith) reads numbers
