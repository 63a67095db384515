-- One answer to all words and texts.
use Rattle.std.proofs.Common.{◌≡◌, ◌⊎◌, inl, inr, ◌≤◌, ◌<◌, ◌^◌, ℕ, Bool, true, false, List, [], ◌∷◌, length, map, string_bytes, String, Some, codes, refl, ap, arith}
use Rattle.std.specs.declared.alloc.Global.{Global}
use Rattle.std.specs.Str.{bytes_eq}
use Rattle.std.proofs.lemmas.Bool.Decides.{nat_tests}
use Rattle.std.proofs.lemmas.Slice.Eq.{bytes_eq-Decides}
use Rattle.uts_model.specs.Dump.{line}
use Rattle.problem_types.specs.declared.problem.Problem.{Problem}
use Rattle.problem_file.specs.Grammar.{Spells}
use Rattle.problem_file.specs.Laws.{OneProblem, OneBadLine, NoProblemWithABadLine, EveryTextIsJudged, ProblemsAreInForm}
use Rattle.task_check.specs.First.{IsAccepted}
use Rattle.task_check.specs.Laws.{ProblemsAreJudged, FirstFaultsAreOne, AcceptedProblemsHaveNone}
use Rattle.uts.specs.Answer.{IsCommand, IsRefused, Answers, usage, refusal, accepted, dump, listing, ErrorLine, none, too_long, bad_text, fault, usage_line}
use Rattle.uts.specs.Commands.{Asks, bytes_of}
use Rattle.uts.specs.Laws.{HasOneAnswer, OneAnswer}
use Rattle.uts.specs.declared.command.Command.{Command}
use Rattle.uts.specs.declared.command.Command.TheVariants.{Plain, Check, Graph}
use Rattle.uts.proofs.Lines.{only_none, only_usage, only_refusal}
use Rattle.uts.proofs.Outcomes.{Outcome, refused, done, outcome_of, answer_of}
use Rattle.uts.proofs.Told.{never_refused}

same_or_not : (a b : List ℕ) → (a ≡ b) ⊎ (a ≡ b → ⊥)
same_or_not a b = by_test (bytes_eq a b) refl
  where
    by_test : (t : Bool) → bytes_eq a b ≡ t → (a ≡ b) ⊎ (a ≡ b → ⊥)
    by_test true is = inl (grind (arith, nat_tests, bytes_eq-Decides))
    by_test false is = inr (λ same. absurd (grind (arith, nat_tests, bytes_eq-Decides)))

one_word_or_not : (texts : List (List ℕ)) (word : List ℕ) → (texts ≡ word ∷ []) ⊎ (texts ≡ word ∷ [] → ⊥)
one_word_or_not [] word = inr (λ is. absurd cc)
one_word_or_not (text ∷ []) word =
    elim (same_or_not text word) [ inl same ↦ inl (ap (λ (t : List ℕ). t ∷ []) same) | inr other ↦ inr (λ is. other cc) ]
one_word_or_not (text ∷ other ∷ texts) word = inr (λ is. absurd cc)

command_or_not : (words : List (String Global)) → ((command : Command) × Asks words command) ⊎ (IsCommand words → ⊥)
command_or_not words = elim (one_word_or_not (map string_bytes words) (codes "plain")) [
  | inl plain ↦ inl (Plain, plain)
  | inr not_plain ↦ elim (one_word_or_not (map string_bytes words) (codes "check")) [
    | inl check ↦ inl (Check, check)
    | inr not_check ↦ elim (one_word_or_not (map string_bytes words) (codes "graph")) [
      | inl graph ↦ inl (Graph, graph)
      | inr not_graph ↦ inr (λ is. elim is [ inl plain ↦ not_plain plain | inr other ↦ elim other [ inl check ↦ not_check check | inr graph ↦ not_graph graph ] ])
    ]
  ]
]

-- words of no command
of_no_command : (words : List (String Global)) (text : List ℕ) → (IsCommand words → ⊥) → HasOneAnswer words text
of_no_command words text other = record {
  status = 2;
  bytes = [];
  answers = usage other;
  only = only;
  line = line (codes "usage: plain, check, graph, make N, run W, mill N W");
  told = usage_line other;
  only_line = only_usage words text;
}
  where
    only : (status : ℕ) (bytes : List ℕ) → Answers words text status bytes → (status ≡ 2) × (bytes ≡ [])
    only status bytes (usage no_command) = (refl, refl)
    only status bytes (refusal is why) = absurd (other is)
    only status bytes (accepted check short p spelled fine) = absurd (other (inr (inl check)))
    only status bytes (dump plain short p spelled fine) = absurd (other (inl plain))
    only status bytes (listing graph short p spelled fine) = absurd (other (inr (inr graph)))

-- each text that a command refuses has a line that tells of it
line_of_refused : (words : List (String Global)) (text : List ℕ) → IsRefused text → (told : List ℕ) × ErrorLine words (Some text) 1 told
line_of_refused words text (inl long) = (_, too_long long)
line_of_refused words text (inr (inl (bad, why))) = (_, bad_text bad why)
line_of_refused words text (inr (inr (at_line, k, why))) = (_, fault at_line k why)

module _ (one_problem : OneProblem) (one_bad_line : OneBadLine) (no_problem : NoProblemWithABadLine) (one_fault : FirstFaultsAreOne)
    (no_fault : AcceptedProblemsHaveNone) (words : List (String Global)) (command : Command) (text : List ℕ) (asks : Asks words command) where
  of_refused : IsRefused text → HasOneAnswer words text
  of_refused why =
      let told = line_of_refused words text why in
      record {
        status = 1;
        bytes = [];
        answers = answer_of words text command 1 [] asks (refused why);
        only = λ status bytes answer. only status bytes (outcome_of words text command status bytes asks answer);
        line = told.0;
        told = told.1;
        only_line = λ other is. only_refusal words text one_problem one_bad_line no_problem one_fault no_fault told.0 other told.1 is;
      }
    where
      only : (status : ℕ) (bytes : List ℕ) → Outcome command text status bytes → (status ≡ 1) × (bytes ≡ [])
      only status bytes (refused other) = (refl, refl)
      only status bytes (done short p spelled fine) =
          absurd (never_refused one_problem no_problem no_fault text p short spelled fine why)

  of_served : (p : Problem) → length text ≤ 2 ^ 20 → Spells text p → IsAccepted p → HasOneAnswer words text
  of_served p short spelled fine = record {
    status = 0;
    bytes = bytes_of command p;
    answers = answer_of words text command 0 (bytes_of command p) asks (done short p spelled fine);
    only = λ status bytes answer. only status bytes (outcome_of words text command status bytes asks answer);
    line = [];
    told = none;
    only_line = only_none words text;
  }
    where
      only : (status : ℕ) (bytes : List ℕ) → Outcome command text status bytes → (status ≡ 0) × (bytes ≡ bytes_of command p)
      only status bytes (refused why) = absurd (never_refused one_problem no_problem no_fault text p short spelled fine why)
      only status bytes (done is_short q spells is_fine) = (refl, ap (λ (r : Problem). bytes_of command r) (one_problem text q p spells spelled))

  of_problem : ProblemsAreInForm → ProblemsAreJudged → (p : Problem) → length text ≤ 2 ^ 20 → Spells text p → HasOneAnswer words text
  of_problem forms judged p short spelled = elim (judged p (forms text p spelled (omega arith))) [
    | inl fine ↦ of_served p short spelled fine
    | inr (at_line, k, first) ↦
        of_refused ((inr (inr (at_line, k, record { short = short; problem = p; spelled = spelled; first_fault = first }))))
  ]

  of_short : ProblemsAreInForm → ProblemsAreJudged → EveryTextIsJudged → length text ≤ 2 ^ 20 → HasOneAnswer words text
  of_short forms judged texts short = elim (texts text) [
    | inl problem ↦ of_problem forms judged problem.0 short problem.1
    | inr bad ↦ of_refused ((inr (inl (bad.0, record { short = short; first_bad = bad.1 }))))
  ]

short_or_long : (n most : ℕ) → (n ≤ most) ⊎ (most < n)
short_or_long n most = grind arith

pub one_answer : OneProblem → OneBadLine → NoProblemWithABadLine → EveryTextIsJudged → ProblemsAreInForm → ProblemsAreJudged → FirstFaultsAreOne →
    AcceptedProblemsHaveNone → OneAnswer
one_answer one_problem one_bad_line no_problem texts forms judged one_fault no_fault words text = elim (command_or_not words) [
  | inr other ↦ of_no_command words text other
  | inl (command, asks) ↦ elim (short_or_long (length text) (2 ^ 20)) [
    | inl short ↦ of_short one_problem one_bad_line no_problem one_fault no_fault words command text asks forms judged texts short
    | inr long ↦ of_refused one_problem one_bad_line no_problem one_fault no_fault words command text asks ((inl long))
  ]
]
