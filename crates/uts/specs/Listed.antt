-- The listing of a problem in its parts.
use Rattle.std.specs.Prelude.{ℕ, List, codes, ◌++◌}
use Rattle.std.specs.List.{flat_map}
use Rattle.problem_types.specs.declared.problem.Problem.{Problem}
use Rattle.graph_compiler.specs.Plan.{plan_of}
use Rattle.graph_compiler.specs.declared.plan.ListKind.{ListKind}
use Rattle.graph_compiler.specs.declared.plan.ListKind.TheVariants.{Init, Timestep}
use Rattle.graph_text.specs.Listing.{listed, plan_lines}

-- the lines of a list's plan, for a step that another one follows and the dump shows
abbrev pub list_text : Problem → ListKind → List ℕ
list_text p list = flat_map (λ bytes. bytes) (plan_lines p list (plan_of p (listed list)))

-- those of the timestep list, and the last line
abbrev pub timestep_text : Problem → List ℕ
timestep_text p = list_text p Timestep ++ codes "end\n"

-- those of both lists, and the last line
abbrev pub plans_text : Problem → List ℕ
plans_text p = list_text p Init ++ timestep_text p
