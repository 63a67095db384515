use Rattle.problem_file.proofs.Reached.{at_start}
use Rattle.problem_file.proofs.reading.read_all.Goals as goal

pub loop-start-init : goal.loop-start-init
loop-start-init c = rw (c.new-names.ensures, c.empty_problem.ensures) (at_start c.args.text.now)
