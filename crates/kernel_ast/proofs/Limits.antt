-- What limits of a whole expression ask of its parts.
use Rattle.std.proofs.Common.{◌≡◌, ◌≢◌, ℕ, ◌-◌, Bool, true, false, ◌∙◌, sym, ap, arith, ◌↔◌, ◌⊎◌, inl, inr, Option, Some, None}
use Rattle.std.proofs.lemmas.Bool.{and_parts, and_from}
use Rattle.std.specs.Bool.{then_some}
use Rattle.std.specs.Option.{SomeIff}
use Rattle.kernel_ast.specs.Size.{depth_of, node_count, depth_of_positive, node_count_positive, depth_of-X, depth_of-Y, depth_of-Z, depth_of-Level, depth_of-Material, depth_of-Step, depth_of-Neg, depth_of-Binary, depth_of-Select, node_count-X, node_count-Y, node_count-Z, node_count-Level, node_count-Material, node_count-Step, node_count-Neg, node_count-Binary, node_count-Select}
use Rattle.kernel_ast.specs.Form.{IsWithin, are_leaves_in_form, are_leaves_in_form-X, are_leaves_in_form-Y, are_leaves_in_form-Z, are_leaves_in_form-Level, are_leaves_in_form-Material, are_leaves_in_form-Step, are_leaves_in_form-Neg, are_leaves_in_form-Binary, are_leaves_in_form-Select}
use Rattle.kernel_ast.specs.declared.expression.Op.{Op}
use Rattle.kernel_ast.specs.declared.expression.Expr.{Expr}
use Rattle.kernel_ast.specs.declared.expression.Expr.TheVariants as expr

module _ (names depth nodes : ℕ) where
  -- nothing is within no depth, or within no nodes
  pub not_within_no_depth : (e : Expr) → depth ≡ 0 → IsWithin names depth nodes e → ⊥
  not_within_no_depth e none h = omega (arith, depth_of_positive e, h.shallow)

  pub not_within_no_nodes : (e : Expr) → nodes ≡ 0 → IsWithin names depth nodes e → ⊥
  not_within_no_nodes e none h = omega (arith, node_count_positive e, h.few_nodes)

  module _ (some_depth : depth ≢ 0) (some_nodes : nodes ≢ 0) where
    -- the limits of an expression's parts, taken one after another
    within-Neg : (e a : Expr) → e ≡ expr.Neg a → IsWithin names depth nodes e ↔ IsWithin names (depth - 1) (nodes - 1) a
    within-Neg e a is =
        let deep = ap depth_of is ∙ depth_of-Neg a in
        let wide = ap node_count is ∙ node_count-Neg a in
        let form = ap (are_leaves_in_form names) is ∙ are_leaves_in_form-Neg names a in (
          λ h. record { shallow = omega (arith, h.shallow); few_nodes = omega (arith, h.few_nodes); leaves = sym form ∙ h.leaves },
          λ h. record { shallow = omega (arith, h.shallow); few_nodes = omega (arith, h.few_nodes); leaves = form ∙ h.leaves },
        )

    within-Binary : (e : Expr) (o : Op) (a b : Expr) → e ≡ expr.Binary o a b → IsWithin names depth nodes e
        ↔ (IsWithin names (depth - 1) (nodes - 1) a × IsWithin names (depth - 1) (nodes - 1 - node_count a) b)
    within-Binary e o a b is =
        let deep = ap depth_of is ∙ depth_of-Binary o a b in
        let wide = ap node_count is ∙ node_count-Binary o a b in
        let form = ap (are_leaves_in_form names) is ∙ are_leaves_in_form-Binary names o a b in (
          λ h. let parts = and_parts _ _ (sym form ∙ h.leaves) in (
            record { shallow = omega (arith, h.shallow); few_nodes = omega (arith, h.few_nodes); leaves = parts.0 },
            record { shallow = omega (arith, h.shallow); few_nodes = omega (arith, h.few_nodes); leaves = parts.1 },
          ),
          λ (h, k). record {
            shallow = omega (arith, h.shallow, k.shallow);
            few_nodes = omega (arith, h.few_nodes, k.few_nodes, node_count_positive b);
            leaves = form ∙ and_from _ _ h.leaves k.leaves;
          },
        )

    within-Select : (e c a b : Expr) → e ≡ expr.Select c a b → IsWithin names depth nodes e
        ↔ (IsWithin names (depth - 1) (nodes - 1) c × IsWithin names (depth - 1) (nodes - 1 - node_count c) a
        × IsWithin names (depth - 1) (nodes - 1 - node_count c - node_count a) b)
    within-Select e c a b is =
        let deep = ap depth_of is ∙ depth_of-Select c a b in
        let wide = ap node_count is ∙ node_count-Select c a b in
        let form = ap (are_leaves_in_form names) is ∙ are_leaves_in_form-Select names c a b in (
          λ h. let parts = and_parts _ _ (sym form ∙ h.leaves) in
              let first = and_parts _ _ parts.0 in (
                record { shallow = omega (arith, h.shallow); few_nodes = omega (arith, h.few_nodes); leaves = first.0 },
                record { shallow = omega (arith, h.shallow); few_nodes = omega (arith, h.few_nodes); leaves = first.1 },
                record { shallow = omega (arith, h.shallow); few_nodes = omega (arith, h.few_nodes); leaves = parts.1 },
              ),
          λ (h, k, l). record {
            shallow = omega (arith, h.shallow, k.shallow, l.shallow);
            few_nodes = omega (arith, h.few_nodes, k.few_nodes, l.few_nodes, node_count_positive a, node_count_positive b);
            leaves = form ∙ and_from _ _ (and_from _ _ h.leaves k.leaves) l.leaves;
          },
        )

    -- what is left after a leaf
    pub left_after_leaf : (e : Expr) (b : Bool) → depth_of e ≡ 1 → node_count e ≡ 1 → are_leaves_in_form names e ≡ b →
        SomeIff (then_some b (nodes - 1)) (IsWithin names depth nodes e) (nodes - node_count e)
    left_after_leaf e true deep wide form =
        (record { shallow = omega arith; few_nodes = omega arith; leaves = form }, omega arith)
    left_after_leaf e false deep wide form = λ h. let both = h.leaves in cc

    pub left_after_place : (e : Expr) →
        (e ≡ expr.X) ⊎ ((e ≡ expr.Y) ⊎ ((e ≡ expr.Z) ⊎ ((e ≡ expr.Level) ⊎ ((e ≡ expr.Material) ⊎ (e ≡ expr.Step))))) →
        SomeIff (Some (nodes - 1)) (IsWithin names depth nodes e) (nodes - node_count e)
    left_after_place e (inl is) = left_after_leaf e true (ap depth_of is ∙ depth_of-X) (ap node_count is ∙ node_count-X)
        (ap (are_leaves_in_form names) is ∙ are_leaves_in_form-X names)
    left_after_place e (inr (inl is)) = left_after_leaf e true (ap depth_of is ∙ depth_of-Y) (ap node_count is ∙ node_count-Y)
        (ap (are_leaves_in_form names) is ∙ are_leaves_in_form-Y names)
    left_after_place e (inr (inr (inl is))) = left_after_leaf e true (ap depth_of is ∙ depth_of-Z) (ap node_count is ∙ node_count-Z)
        (ap (are_leaves_in_form names) is ∙ are_leaves_in_form-Z names)
    left_after_place e (inr (inr (inr (inl is)))) = left_after_leaf e true (ap depth_of is ∙ depth_of-Level)
        (ap node_count is ∙ node_count-Level) (ap (are_leaves_in_form names) is ∙ are_leaves_in_form-Level names)
    left_after_place e (inr (inr (inr (inr (inl is))))) = left_after_leaf e true (ap depth_of is ∙ depth_of-Material)
        (ap node_count is ∙ node_count-Material) (ap (are_leaves_in_form names) is ∙ are_leaves_in_form-Material names)
    left_after_place e (inr (inr (inr (inr (inr is))))) = left_after_leaf e true (ap depth_of is ∙ depth_of-Step)
        (ap node_count is ∙ node_count-Step) (ap (are_leaves_in_form names) is ∙ are_leaves_in_form-Step names)

    -- what is left after a negation, from what is left after its part
    pub left_after_Neg : (e a : Expr) (r : Option ℕ) → e ≡ expr.Neg a →
        SomeIff r (IsWithin names (depth - 1) (nodes - 1) a) (nodes - 1 - node_count a) →
        SomeIff r (IsWithin names depth nodes e) (nodes - node_count e)
    left_after_Neg e a None is part = λ h. part ((within-Neg e a is).0 h)
    left_after_Neg e a (Some left) is part =
        let wide = ap node_count is ∙ node_count-Neg a in
        ((within-Neg e a is).1 part.0, omega (arith, part.1))

    pub left_after_Binary : (e : Expr) (o : Op) (a b : Expr) (left : ℕ) (r : Option ℕ) → e ≡ expr.Binary o a b →
        IsWithin names (depth - 1) (nodes - 1) a → left ≡ nodes - 1 - node_count a →
        SomeIff r (IsWithin names (depth - 1) left b) (left - node_count b) →
        SomeIff r (IsWithin names depth nodes e) (nodes - node_count e)
    left_after_Binary e o a b left None is first rest last =
        λ h. last (let l = ((within-Binary e o a b is).0 h).1 in rw rest l)
    left_after_Binary e o a b left (Some r) is first rest last =
        let wide = ap node_count is ∙ node_count-Binary o a b in
        ((within-Binary e o a b is).1 (first, rw rest at last.0), omega (arith, last.1))

    pub left_after_Select : (e c a b : Expr) (left left' : ℕ) (r : Option ℕ) → e ≡ expr.Select c a b →
        IsWithin names (depth - 1) (nodes - 1) c → left ≡ nodes - 1 - node_count c →
        IsWithin names (depth - 1) left a → left' ≡ left - node_count a →
        SomeIff r (IsWithin names (depth - 1) left' b) (left' - node_count b) →
        SomeIff r (IsWithin names depth nodes e) (nodes - node_count e)
    left_after_Select e c a b left left' None is first rest second rest' last =
        λ h. last (let l = ((within-Select e c a b is).0 h).2 in rw (rest', rest) l)
    left_after_Select e c a b left left' (Some r) is first rest second rest' last =
        let wide = ap node_count is ∙ node_count-Select c a b in
        ((within-Select e c a b is).1 (first, rw rest at second, rw (rest', rest) at last.0), omega (arith, last.1))

    -- a whole is not within limits that a part goes beyond
    pub first_beyond-Binary : (e : Expr) (o : Op) (a b : Expr) → e ≡ expr.Binary o a b →
        ¬ IsWithin names (depth - 1) (nodes - 1) a → ¬ IsWithin names depth nodes e
    first_beyond-Binary e o a b is beyond h = beyond ((within-Binary e o a b is).0 h).0

    pub first_beyond-Select : (e c a b : Expr) → e ≡ expr.Select c a b →
        ¬ IsWithin names (depth - 1) (nodes - 1) c → ¬ IsWithin names depth nodes e
    first_beyond-Select e c a b is beyond h = beyond ((within-Select e c a b is).0 h).0

    pub second_beyond-Select : (e c a b : Expr) (left : ℕ) → e ≡ expr.Select c a b → left ≡ nodes - 1 - node_count c →
        ¬ IsWithin names (depth - 1) left a → ¬ IsWithin names depth nodes e
    second_beyond-Select e c a b left is rest beyond h =
        beyond (let l = ((within-Select e c a b is).0 h).1 in rw rest l)

-- what is left after each form of expression
pub ruleset left_after_forms = (
  left_after_leaf,
  left_after_place,
  left_after_Neg,
  left_after_Select,
  first_beyond-Binary,
  first_beyond-Select,
)
