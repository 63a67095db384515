-- Where a phrase ends: what stands behind it does not go on with it.
use Rattle.std.proofs.Common.{◌≡◌, ℕ, suc, ◌+◌, ◌-◌, ◌<◌, ◌≤◌, true, List, [], ◌∷◌, ◌++◌, Option, Some, None, refl, sym, ap, ◌∙◌, append_assoc, codes, arith}
use Rattle.std.specs.Prelude.{nat_le}
use Rattle.std.proofs.lemmas.Bool.Decides.{nat_tests}
use Rattle.uts_lex.specs.declared.token.Kind.TheVariants.{Sign}
use Rattle.uts_lex.specs.Lexemes.{Lexeme}
use Rattle.kernel_ast.specs.Size.{depth_of, node_count, depth_of_positive, depth_of-Binary}
use Rattle.kernel_ast.specs.declared.expression.Op.{Op}
use Rattle.kernel_ast.specs.declared.expression.Expr.{Expr}
use Rattle.kernel_ast.specs.declared.expression.Expr.TheVariants as expr
use Rattle.kernel_parse.specs.Signs.{sign, comparison_signs, comparison_of, term_signs, term_op_of, factor_signs, factor_op_of}
use Rattle.kernel_parse.specs.Tables.{meaning_case}
use Rattle.kernel_parse.specs.Grammar.{Words}
use Rattle.kernel_parse.specs.Reading.{behind_sign, first_as, parsed, limited, Reader, more_at, chain_at}
use Rattle.kernel_parse.proofs.Chains.{goes_on}

-- what stands behind does not go on with a read, a product, a sum or a comparison
abbrev pub AfterUnary : List Lexeme → Type 0
AfterUnary rest = behind_sign (codes "[") rest ≡ None

pub record AfterProduct (rest : List Lexeme) : Type 0 where
  pub unary_ends : AfterUnary rest
  pub no_factor : first_as factor_op_of rest ≡ None

pub record AfterSum (rest : List Lexeme) : Type 0 where
  pub product_ends : AfterProduct rest
  pub no_term : first_as term_op_of rest ≡ None

pub record AfterWhole (rest : List Lexeme) : Type 0 where
  pub sum_ends : AfterSum rest
  pub no_comparison : first_as comparison_of rest ≡ None

-- signs that end an expression
pub ends_at_end : AfterWhole []
ends_at_end = record { sum_ends = record { product_ends = record { unary_ends = refl; no_factor = refl }; no_term = refl }; no_comparison = refl }

pub ends_at_shut : (rest : List Lexeme) → AfterWhole (sign (codes ")") ∷ rest)
ends_at_shut rest = record { sum_ends = record { product_ends = record { unary_ends = refl; no_factor = refl }; no_term = refl }; no_comparison = refl }

pub ends_at_comma : (rest : List Lexeme) → AfterWhole (sign (codes ",") ∷ rest)
ends_at_comma rest = record { sum_ends = record { product_ends = record { unary_ends = refl; no_factor = refl }; no_term = refl }; no_comparison = refl }

pub ends_at_comparison : (at : Lexeme) (op : Op) → comparison_of at ≡ Some op → (rest : List Lexeme) → AfterSum (at ∷ rest)
ends_at_comparison at op is rest = meaning_case Sign (λ (t : Lexeme) (o : Op). AfterSum (t ∷ rest)) comparison_signs at op is (
  record { product_ends = record { unary_ends = refl; no_factor = refl }; no_term = refl },
  (
    record { product_ends = record { unary_ends = refl; no_factor = refl }; no_term = refl },
    (
      record { product_ends = record { unary_ends = refl; no_factor = refl }; no_term = refl },
      (
        record { product_ends = record { unary_ends = refl; no_factor = refl }; no_term = refl },
        (
          record { product_ends = record { unary_ends = refl; no_factor = refl }; no_term = refl },
          (record { product_ends = record { unary_ends = refl; no_factor = refl }; no_term = refl }, tt),
        ),
      ),
    ),
  ),
)

pub ends_at_term : (at : Lexeme) (op : Op) → term_op_of at ≡ Some op → (rest : List Lexeme) → AfterProduct (at ∷ rest)
ends_at_term at op is rest = meaning_case Sign (λ (t : Lexeme) (o : Op). AfterProduct (t ∷ rest)) term_signs at op is
    (record { unary_ends = refl; no_factor = refl }, (record { unary_ends = refl; no_factor = refl }, tt))

pub ends_at_factor : (at : Lexeme) (op : Op) → factor_op_of at ≡ Some op → (rest : List Lexeme) → AfterUnary (at ∷ rest)
ends_at_factor at op is rest = meaning_case Sign (λ (t : Lexeme) (o : Op). AfterUnary (t ∷ rest)) factor_signs at op is (refl, (refl, (refl, tt)))

-- within the limits
pub fits : (depth : ℕ) (e : Expr) → depth_of e ≤ depth → node_count e ≤ 256 → limited depth e ≡ Some e
fits depth e shallow few =
    let deep : nat_le (depth_of e) depth ≡ true = grind (arith, nat_tests) in
    let wide : nat_le (node_count e) 256 ≡ true = grind (arith, nat_tests) in
    rw (deep, wide) refl

-- the reader gets the expression from the tokens, where what stands behind them does not go on with it
abbrev pub Gets : Reader → (List Lexeme → Type 0) → ℕ → List Lexeme → Words → Expr → Words → Type 0
Gets reader Ends depth ts names e after = (rest : List Lexeme) → Ends rest → reader depth names (ts ++ rest) ≡ Some (parsed e after rest)

-- A chain stands where it does when the expression has been read: after so many operators, which are fewer than it is deep.
pub record GetsChain (meaning : Lexeme → Option Op) (operand : Reader) (Ends : List Lexeme → Type 0) (depth : ℕ) (ts : List Lexeme) (names : Words) (e : Expr) (after : Words) : Type 0 where
  pub passes : ℕ
  pub few : passes + 1 ≤ depth_of e
  pub reads : (rest : List Lexeme) → Ends rest
      → chain_at meaning operand depth names (ts ++ rest) ≡ more_at meaning operand depth (depth - passes) (parsed e after rest)

module _ (meaning : Lexeme → Option Op) (operand : Reader) (Ends : List Lexeme → Type 0) where
  pub chain_ends : (depth : ℕ) (ts : List Lexeme) (names : Words) (e : Expr) (after : Words) → GetsChain meaning operand Ends depth ts names e after → depth_of e ≤ depth
      → (rest : List Lexeme) → Ends rest → first_as meaning rest ≡ None → chain_at meaning operand depth names (ts ++ rest) ≡ Some (parsed e after rest)
  unfolding more_at
  chain_ends depth ts names e after g shallow rest ends none =
      let k : depth - g.passes ≡ suc (depth - (g.passes + 1)) = omega (arith, g.few) in
      let last : more_at meaning operand depth (depth - g.passes) (parsed e after rest) ≡ Some (parsed e after rest) = rw (k, none) refl in
      g.reads rest ends ∙ last

  pub chain_one : (depth : ℕ) (ts : List Lexeme) (names : Words) (e : Expr) (after : Words) → Gets operand Ends depth ts names e after
      → GetsChain meaning operand Ends depth ts names e after
  chain_one depth ts names e after gets = record {
    passes = 0;
    few = omega (arith, depth_of_positive e);
    reads = λ rest ends. let all : depth - 0 ≡ depth = omega arith in rw (gets rest ends, all) refl;
  }

  pub chain_more : (depth : ℕ) (ts us : List Lexeme) (names between after : Words) (a b : Expr) (at : Lexeme) (op : Op)
      → ((rest : List Lexeme) → Ends (at ∷ rest)) → meaning at ≡ Some op
      → GetsChain meaning operand Ends depth ts names a between → Gets operand Ends (depth - 1) us between b after
      → depth_of (expr.Binary op a b) ≤ depth → node_count (expr.Binary op a b) ≤ 256
      → GetsChain meaning operand Ends depth (ts ++ at ∷ us) names (expr.Binary op a b) after
  chain_more depth ts us names between after a b at op ends_here is g gets shallow few = record {
    passes = g.passes + 1;
    few = omega (arith, g.few, depth_of-Binary op a b);
    reads = λ rest ends.
        let behind_at = us ++ rest in
        let tokens : ts ++ at ∷ us ++ rest ≡ ts ++ (at ∷ behind_at) = append_assoc ts (at ∷ us) rest in
        let left = parsed a between (at ∷ behind_at) in
        let lt : g.passes < depth = omega (arith, g.few, depth_of-Binary op a b) in
        let some : first_as meaning (at ∷ behind_at) ≡ Some (op, behind_at) = rw is refl in
        let step = goes_on meaning operand depth g.passes left (more_at meaning operand depth (depth - g.passes) left) op behind_at (parsed b after rest) (expr.Binary op a b)
        lt some (gets rest ends) (fits depth (expr.Binary op a b) shallow few) refl in
        ap (λ (w : List Lexeme). chain_at meaning operand depth names w) tokens ∙ g.reads (at ∷ behind_at) (ends_here behind_at) ∙ sym step;
  }
