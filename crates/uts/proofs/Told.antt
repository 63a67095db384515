-- What follows where a source tells its text.
use Rattle.std.proofs.Common.{◌≤◌, ◌^◌, inl, inr, ℕ, List, length, Option, None, Some, IfSome, arith, subst}
use Rattle.uts_io.specs.Streams.{GrewByPrefix, NoneChangeNothing, prefix_of_nothing}
use Rattle.problem_types.specs.declared.problem.Problem.{Problem}
use Rattle.problem_file.specs.Grammar.{Spells}
use Rattle.problem_file.specs.Laws.{OneProblem, NoProblemWithABadLine}
use Rattle.task_check.specs.First.{IsAccepted, IsFirstFault}
use Rattle.task_check.specs.Laws.{AcceptedProblemsHaveNone}
use Rattle.uts.specs.Answer.{IsRefused}
use Rattle.uts.specs.Commands.{bytes_of}
use Rattle.uts.specs.declared.command.Command.{Command}

-- what holds of every text holds of the one that is told
pub of_every : {T : Type 0} (o : Option T) (P : T → Type 0) → ((x : T) → P x) → IfSome o P
of_every None P every = record {}
of_every (Some x) P every = every x

pub weaker : {T : Type 0} (o : Option T) (P Q : T → Type 0) → ((x : T) → P x → Q x) → IfSome o P → IfSome o Q
weaker None P Q gives told = told
weaker (Some x) P Q gives told = gives x told

-- by the laws of the grammar and of the checker
module _ (one_problem : OneProblem) (no_problem : NoProblemWithABadLine) (no_fault : AcceptedProblemsHaveNone) where
  -- the text of a problem without faults is not refused
  pub never_refused : (text : List ℕ) (p : Problem) → length text ≤ 2 ^ 20 → Spells text p → IsAccepted p → IsRefused text → ⊥
  never_refused text p short spelled fine (inl long) = omega arith
  never_refused text p short spelled fine (inr (inl (bad, told))) = no_problem text bad p told.first_bad spelled
  never_refused text p short spelled fine (inr (inr (at_line, k, told))) =
      no_fault p at_line k fine (subst (λ (q : Problem). IsFirstFault q at_line k) (one_problem text told.problem p told.spelled spelled) told.first_fault)

  -- where the problem of the text is read, the text is not refused
  pub not_refused : (left : Option (List ℕ)) (p : Problem) (P : Type 0) →
      IfSome left (λ text. (length text ≤ 2 ^ 20) × Spells text p) → IsAccepted p → IfSome left (λ text. IsRefused text → P)
  not_refused left p P read fine =
      weaker left (λ text. (length text ≤ 2 ^ 20) × Spells text p) (λ text. IsRefused text → P)
      (λ text told why. absurd (never_refused text p told.0 told.1 fine why)) read

  -- what is written then is a prefix of what the command gives for whatever problem the text spells
  pub prefix_of_each : (command : Command) (after : List ℕ → List ℕ → List ℕ) (left old new : Option (List ℕ)) (p : Problem) →
      IfSome left (λ text. (length text ≤ 2 ^ 20) × Spells text p) → GrewByPrefix after old new (bytes_of command p) →
      IfSome left (λ text. (q : Problem) → Spells text q → GrewByPrefix after old new (bytes_of command q))
  prefix_of_each command after left old new p read grew =
      weaker left (λ text. (length text ≤ 2 ^ 20) × Spells text p) (λ text. (q : Problem) → Spells text q → GrewByPrefix after old new (bytes_of command q))
      (λ text told q other. subst (λ r. GrewByPrefix after old new (bytes_of command r)) (one_problem text p q told.1 other) grew) read

-- nothing written is a prefix of whatever the command gives
pub prefix_of_none : (command : Command) (after : List ℕ → List ℕ → List ℕ) (none : NoneChangeNothing after) (left old : Option (List ℕ)) →
    IfSome left (λ text. (q : Problem) → Spells text q → GrewByPrefix after old old (bytes_of command q))
prefix_of_none command after none left old =
    of_every left (λ text. (q : Problem) → Spells text q → GrewByPrefix after old old (bytes_of command q))
    (λ text q spelled. prefix_of_nothing after old (bytes_of command q) none)
