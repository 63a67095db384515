use Rattle.std.proofs.Common.{◌∷◌, [], ◌++◌, map}
use Rattle.std.specs.List.{flat_map}
use Rattle.problem_file.specs.Statements.{at, keep_statement}
use Rattle.statement_parse.specs.declared.statement.Statement.TheVariants as statement
use Rattle.problem_print.specs.Pages.{Adds, task_statements}
use Rattle.problem_print.proofs.Pages.{adds_one, adds_both}
use Rattle.problem_print.proofs.printing.put_schedule.Goals as goal

pub returns : goal.returns
returns c =
    let p = c.args.p.now in
    let names = c.args.names.now in
    let init = at p.init_line statement.Init in
    let timestep = at p.timestep_line statement.Timestep in
    let end = at p.end_line statement.End in
    let all_init = flat_map task_statements p.init in
    let all_timestep = flat_map task_statements p.timestep in
    let all_keeps = map keep_statement p.keeps in
    let old = c.args.page.now in
    let a = c.put_word_line.new.self in
    let b = c.put_tasks.new.page in
    let d = c.put_word_line-2.new.self in
    let e = c.put_tasks-2.new.page in
    let f = c.put_statements.new.page in
    let g = c.put_word_line-3.new.self in
    let inits : Adds names all_init a b = rw c.as_slice.ensures at c.in_ok-put_tasks.ensures in
    let timesteps : Adds names all_timestep d e = rw c.as_slice-2.ensures at c.in_ok-put_tasks-2.ensures in
    let keeps : Adds names all_keeps e f = rw c.as_slice-3.ensures at c.in_ok-put_statements.ensures in
    let closing = adds_both names all_keeps (end ∷ []) e f g keeps (adds_one names end f g c.in_ok-put_word_line-3.ensures) in
    let last_tasks = adds_both names all_timestep (all_keeps ++ (end ∷ [])) d e g timesteps closing in
    let second = adds_both names (timestep ∷ []) (all_timestep ++ (all_keeps ++ (end ∷ []))) b d g (adds_one names timestep b d c.in_ok-put_word_line-2.ensures) last_tasks in
    let first_tasks = adds_both names all_init (timestep ∷ (all_timestep ++ (all_keeps ++ (end ∷ [])))) a b g inits second in
    adds_both names (init ∷ []) (all_init ++ (timestep ∷ (all_timestep ++ (all_keeps ++ (end ∷ []))))) old a g (adds_one names init old a c.in_ok-put_word_line.ensures) first_tasks
