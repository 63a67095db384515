-- One line on standard error to each status of an answer.
use Rattle.std.proofs.Common.{◌≡◌, ◌∙◌, ◌≤◌, ◌^◌, ℕ, List, [], length, codes, String, Some, refl, ap, arith, subst}
use Rattle.std.specs.declared.alloc.Global.{Global}
use Rattle.uts_model.specs.Dump.{line}
use Rattle.problem_types.specs.declared.problem.Problem.{Problem}
use Rattle.problem_file.specs.Laws.{OneProblem, OneBadLine, NoProblemWithABadLine}
use Rattle.task_check.specs.First.{IsFirstFault}
use Rattle.task_check.specs.Laws.{FirstFaultsAreOne, AcceptedProblemsHaveNone}
use Rattle.task_check.specs.declared.fault.FaultKind.{FaultKind}
use Rattle.uts.specs.Answer.{IsTooLong, IsBadText, IsFaulty, ErrorLine, none, too_long, bad_text, fault, usage_line, read_fault, write_fault, no_memory, refusal_line}
use Rattle.uts.specs.Words.{fault_words}

-- the line of a text that is refused
pub data RefusalLine (text : List ℕ) : List ℕ → Type 0 where
  of_long : IsTooLong text → RefusalLine text (line (codes "refused: too long"))
  of_bad : (bad : ℕ) → IsBadText text bad → RefusalLine text (refusal_line (codes "bad text") bad)
  of_fault : (at_line : ℕ) (k : FaultKind) → IsFaulty text at_line k → RefusalLine text (refusal_line (fault_words k) at_line)

module _ (words : List (String Global)) (text : List ℕ) where
  refusal_line_of : (status : ℕ) (told : List ℕ) → ErrorLine words (Some text) status told → status ≡ 1 → RefusalLine text told
  refusal_line_of status told none is = absurd (omega arith)
  refusal_line_of status told (too_long why) is = of_long why
  refusal_line_of status told (bad_text bad why) is = of_bad bad why
  refusal_line_of status told (fault at_line k why) is = of_fault at_line k why
  refusal_line_of status told (usage_line other) is = absurd (omega arith)
  refusal_line_of status told read_fault is = absurd (omega arith)
  refusal_line_of status told write_fault is = absurd (omega arith)
  refusal_line_of status told no_memory is = absurd (omega arith)

  no_line : (status : ℕ) (told : List ℕ) → ErrorLine words (Some text) status told → status ≡ 0 → told ≡ []
  no_line status told none is = refl
  no_line status told (too_long why) is = absurd (omega arith)
  no_line status told (bad_text bad why) is = absurd (omega arith)
  no_line status told (fault at_line k why) is = absurd (omega arith)
  no_line status told (usage_line other) is = absurd (omega arith)
  no_line status told read_fault is = absurd (omega arith)
  no_line status told write_fault is = absurd (omega arith)
  no_line status told no_memory is = absurd (omega arith)

  line_of_usage : (status : ℕ) (told : List ℕ) → ErrorLine words (Some text) status told → status ≡ 2 →
      told ≡ line (codes "usage: plain, check, graph, make N, run W, mill N W")
  line_of_usage status told none is = absurd (omega arith)
  line_of_usage status told (too_long why) is = absurd (omega arith)
  line_of_usage status told (bad_text bad why) is = absurd (omega arith)
  line_of_usage status told (fault at_line k why) is = absurd (omega arith)
  line_of_usage status told (usage_line other) is = refl
  line_of_usage status told read_fault is = absurd (omega arith)
  line_of_usage status told write_fault is = absurd (omega arith)
  line_of_usage status told no_memory is = absurd (omega arith)

  -- nothing is told at status 0
  pub only_none : (told : List ℕ) → ErrorLine words (Some text) 0 told → told ≡ []
  only_none told is = no_line 0 told is refl

  pub only_usage : (told : List ℕ) → ErrorLine words (Some text) 2 told → told ≡ line (codes "usage: plain, check, graph, make N, run W, mill N W")
  only_usage told is = line_of_usage 2 told is refl

  module _ (one_problem : OneProblem) (one_bad_line : OneBadLine) (no_problem : NoProblemWithABadLine) (one_fault : FirstFaultsAreOne)
      (no_fault : AcceptedProblemsHaveNone) where
    same_fault : (at_line other_line : ℕ) (k other : FaultKind) → IsFaulty text at_line k → IsFaulty text other_line other → (at_line ≡ other_line) × (k ≡ other)
    same_fault at_line other_line k other one two =
        one_fault two.problem at_line k other_line other
        (subst (λ (q : Problem). IsFirstFault q at_line k) (one_problem text one.problem two.problem one.spelled two.spelled) one.first_fault) two.first_fault

    one_refusal : (told other : List ℕ) → RefusalLine text told → RefusalLine text other → told ≡ other
    one_refusal told other (of_long long) (of_long why) = refl
    one_refusal told other (of_long long) (of_bad bad why) = let short : length text ≤ 2 ^ 20 = why.short in absurd (omega arith)
    one_refusal told other (of_long long) (of_fault at_line k why) = let short : length text ≤ 2 ^ 20 = why.short in absurd (omega arith)
    one_refusal told other (of_bad bad one) (of_long why) = let short : length text ≤ 2 ^ 20 = one.short in absurd (omega arith)
    one_refusal told other (of_bad bad one) (of_bad other_bad why) =
        ap (refusal_line (codes "bad text")) (one_bad_line text bad other_bad one.first_bad why.first_bad)
    one_refusal told other (of_bad bad one) (of_fault at_line k why) = absurd (no_problem text bad why.problem one.first_bad why.spelled)
    one_refusal told other (of_fault at_line k one) (of_long why) = let short : length text ≤ 2 ^ 20 = one.short in absurd (omega arith)
    one_refusal told other (of_fault at_line k one) (of_bad bad why) = absurd (no_problem text bad one.problem why.first_bad one.spelled)
    one_refusal told other (of_fault at_line k one) (of_fault other_line other_k why) =
        let same = same_fault at_line other_line k other_k one why in
        ap (λ l. refusal_line (fault_words k) l) same.0 ∙ ap (λ (c : FaultKind). refusal_line (fault_words c) other_line) same.1

    -- a text that is refused is told by one line
    pub only_refusal : (told other : List ℕ) → ErrorLine words (Some text) 1 told → ErrorLine words (Some text) 1 other → other ≡ told
    only_refusal told other one two = one_refusal other told (refusal_line_of 1 other two refl) (refusal_line_of 1 told one refl)
