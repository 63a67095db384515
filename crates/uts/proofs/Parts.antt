-- The listing of a problem is its parts in turn.
use Rattle.std.proofs.Common.{◌≡◌, ◌∙◌, ◌<◌, ◌+◌, ℕ, List, [], ◌∷◌, ◌++◌, codes, length, take, drop, get_or, ap, sym, append-nil, append_assoc}
use Rattle.std.specs.List.{flat_map}
use Rattle.std.proofs.lemmas.Grind.{flat_map-append}
use Rattle.std.proofs.lemmas.List.{take-append-drop, take_more}
use Rattle.problem_types.specs.declared.problem.Problem.{Problem}
use Rattle.graph_compiler.specs.Plan.{plan_of}
use Rattle.graph_compiler.specs.declared.plan.ListKind.TheVariants.{Init, Timestep}
use Rattle.graph_text.specs.Listing.{listed, lines_of_plans, listing_bytes, plan_lines}
use Rattle.uts.specs.Listed.{list_text, plans_text}

pub in_parts : (p : Problem) → listing_bytes p ≡ codes "graph 1\n" ++ plans_text p
unfolding lines_of_plans
in_parts p =
    ap (λ (rest : List ℕ). codes "graph 1\n" ++ rest) (
    ap (flat_map (λ bytes. bytes)) (append_assoc (plan_lines p Init (plan_of p (listed Init))) (plan_lines p Timestep (plan_of p (listed Timestep))) (codes "end\n" ∷ []))
    ∙ flat_map-append (λ bytes. bytes) (plan_lines p Init (plan_of p (listed Init))) (plan_lines p Timestep (plan_of p (listed Timestep)) ++ codes "end\n" ∷ [])
    ∙ ap (λ (rest : List ℕ). list_text p Init ++ rest) (
    flat_map-append (λ bytes. bytes) (plan_lines p Timestep (plan_of p (listed Timestep))) (codes "end\n" ∷ [])
    ∙ ap (λ (rest : List ℕ). list_text p Timestep ++ rest) (append-nil (codes "end\n"))))

-- the lines before a place, the one there, and those behind it
pub lines_split : (lines : List (List ℕ)) (k : ℕ) → k < length lines → lines ≡ (take k lines ++ get_or lines k [] ∷ []) ++ drop (k + 1) lines
lines_split lines k below = sym (take-append-drop (k + 1) lines) ∙ ap (λ (front : List (List ℕ)). front ++ drop (k + 1) lines) (take_more lines k [] below)
