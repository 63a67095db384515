-- What a status says, whatever failure it stands for.
use Rattle.std.proofs.Common.{◌≡◌, ◌⊎◌, inl, inr, ◌<◌, ◌≤◌, ◌^◌, ℕ, List, [], length, Option, None, Some, IfSome, String, sym, refl, subst, arith}
use Rattle.std.specs.declared.alloc.Global.{Global}
use Rattle.uts_io.specs.Streams.{Rose, grown, grown-nil, GrewByPrefix, NoneChangeNothing, prefix_of_all, prefix_of_nothing}
use Rattle.problem_types.specs.declared.problem.Problem.{Problem}
use Rattle.problem_file.specs.Grammar.{Spells}
use Rattle.problem_file.specs.Laws.{OneProblem, NoProblemWithABadLine}
use Rattle.task_check.specs.First.{IsAccepted}
use Rattle.task_check.specs.Laws.{AcceptedProblemsHaveNone}
use Rattle.uts.specs.Answer.{IsRefused, Answers, ErrorLine, none, too_long, bad_text, fault, read_fault, write_fault, no_memory}
use Rattle.uts.specs.Commands.{Asks, bytes_of}
use Rattle.uts.specs.Failures.{status_of, status_after_fault, line_of, IsTold, IsReported, IsReason}
use Rattle.uts.specs.declared.command.Command.{Command}
use Rattle.uts.specs.declared.failure.Failure.{Failure}
use Rattle.uts.specs.declared.failure.Failure.TheVariants.{Usage, TooLong, BadText, Faulty, ReadFault, WriteFault, NoMemory}
use Rattle.uts.proofs.Outcomes.{Outcome, refused, done, outcome_of, answer_of}
use Rattle.uts.proofs.Told.{weaker, never_refused}

-- the line of a failure with its reason
pub error_line : (words : List (String Global)) (command : Command) (left : Option (List ℕ)) (s o : Type 0) (f : Failure) → Asks words command →
    IsReason left s o f → ErrorLine words left (status_of f) (line_of f)
error_line words command left s o Usage asks reason = absurd reason
error_line words command left s o TooLong asks reason = too_long reason
error_line words command left s o (BadText bad) asks reason = bad_text bad reason
error_line words command left s o (Faulty f) asks reason = fault f.line f.kind reason
error_line words command left s o ReadFault asks reason = read_fault
error_line words command left s o WriteFault asks reason = write_fault
error_line words command left s o NoMemory asks reason = no_memory

-- no failure whose line failed has one of the first statuses
high_after_fault : (f : Failure) → 2 < status_after_fault f
high_after_fault Usage = omega arith
high_after_fault TooLong = omega arith
high_after_fault (BadText bad) = omega arith
high_after_fault (Faulty f) = omega arith
high_after_fault ReadFault = omega arith
high_after_fault WriteFault = omega arith
high_after_fault NoMemory = omega arith

module _ (words : List (String Global)) (left : Option (List ℕ)) (f : Failure) (after : List ℕ → List ℕ → List ℕ) (old new : Option (List ℕ)) (before now status : ℕ)
    (is : ErrorLine words left (status_of f) (line_of f)) where
  -- at the first statuses, and where standard error did not fail, the line stands there
  pub told_whole : IsTold f after old new before now status → (status ≤ 2) ⊎ (Rose before now → ⊥) →
      (line : List ℕ) × ErrorLine words left status line × (new ≡ grown after old line)
  told_whole (inl told) why = (line_of f, subst (λ n. ErrorLine words left n (line_of f)) (sym told.0) is, told.1)
  told_whole (inr failed) (inr calm) = absurd (calm failed.1)
  told_whole (inr failed) (inl few) =
      let high : 2 < status = subst (λ n. 2 < n) (sym failed.0) (high_after_fault f) in absurd (omega arith)

-- at the statuses of a refusal standard error had no fault
pub told_calm : (f : Failure) (after : List ℕ → List ℕ → List ℕ) (old new : Option (List ℕ)) (before now status : ℕ) → IsTold f after old new before now status →
    (status ≡ 1) ⊎ (status ≡ 2) → now ≡ before
told_calm f after old new before now status (inl told) few = told.2
told_calm f after old new before now status (inr failed) few =
    let high : 2 < status = subst (λ n. 2 < n) (sym failed.0) (high_after_fault f) in elim few [ inl one ↦ absurd (omega arith) | inr two ↦ absurd (omega arith) ]

-- and else a prefix of it, or of the line that could not be told
pub told_part : (words : List (String Global)) (left : Option (List ℕ)) (f : Failure) (after : List ℕ → List ℕ → List ℕ) (old new : Option (List ℕ)) (before now status : ℕ) →
    ErrorLine words left (status_of f) (line_of f) → IsTold f after old new before now status →
    (told : ℕ) × (line : List ℕ) × ErrorLine words left told line
    × ((told ≡ status) ⊎ ((status ≡ 4) × ((told ≡ 1) ⊎ (told ≡ 2)))) × GrewByPrefix after old new line
told_part words left f after old new before now status is (inl told) =
    (status_of f, line_of f, is, inl (sym told.0), prefix_of_all after old new (line_of f) told.1)
told_part words left Usage after old new before now status is (inr failed) = (2, line_of Usage, is, inr (failed.0, inr refl), failed.2)
told_part words left TooLong after old new before now status is (inr failed) = (1, line_of TooLong, is, inr (failed.0, inl refl), failed.2)
told_part words left (BadText bad) after old new before now status is (inr failed) = (1, line_of (BadText bad), is, inr (failed.0, inl refl), failed.2)
told_part words left (Faulty f) after old new before now status is (inr failed) = (1, line_of (Faulty f), is, inr (failed.0, inl refl), failed.2)
told_part words left ReadFault after old new before now status is (inr failed) = (3, line_of ReadFault, is, inl (sym failed.0), failed.2)
told_part words left WriteFault after old new before now status is (inr failed) = (4, line_of WriteFault, is, inl (sym failed.0), failed.2)
told_part words left NoMemory after old new before now status is (inr failed) = (5, line_of NoMemory, is, inl (sym failed.0), failed.2)

-- nothing to tell
pub nothing_told : (words : List (String Global)) (left : Option (List ℕ)) (after : List ℕ → List ℕ → List ℕ) (silent : NoneChangeNothing after) (old : Option (List ℕ)) →
    (line : List ℕ) × ErrorLine words left 0 line × (old ≡ grown after old line)
nothing_told words left after silent old = ([], none, sym (grown-nil after old silent))

pub nothing_told_part : (words : List (String Global)) (left : Option (List ℕ)) (after : List ℕ → List ℕ → List ℕ) (silent : NoneChangeNothing after) (old : Option (List ℕ)) →
    (told : ℕ) × (line : List ℕ) × ErrorLine words left told line
    × ((told ≡ 0) ⊎ ((◌≡◌ {A = ℕ} 0 4) × ((told ≡ 1) ⊎ (told ≡ 2)))) × GrewByPrefix after old old line
nothing_told_part words left after silent old = (0, [], none, inl refl, prefix_of_nothing after old [] silent)

-- what was reported was told of the failure, or of the memory that its line had no room in
pub of_reported : {P : Type 0} (left : Option (List ℕ)) (s o : Type 0) (f : Failure) (after : List ℕ → List ℕ → List ℕ) (old new : Option (List ℕ))
    (before now status : ℕ) → IsReason left s o f → IsReported f after old new before now status →
    ((g : Failure) → IsReason left s o g → (g ≡ WriteFault → f ≡ WriteFault) → IsTold g after old new before now status → P) → P
of_reported left s o f after old new before now status reason (inl told) gives = gives f reason (λ same. same) told
of_reported left s o f after old new before now status reason (inr (built, told)) gives = gives NoMemory tt (λ same. absurd (cc)) told

pub of_usage : {P : Type 0} (after : List ℕ → List ℕ → List ℕ) (old new : Option (List ℕ)) (before now status : ℕ) →
    IsReported Usage after old new before now status → (IsTold Usage after old new before now status → P) → P
of_usage after old new before now status (inl told) gives = gives told
of_usage after old new before now status (inr built) gives = absurd built.0

refused_outcome : (command : Command) (text : List ℕ) (status : ℕ) (bytes : List ℕ) → Outcome command text status bytes → status ≡ 1 → IsRefused text
refused_outcome command text status bytes (refused why) is = why
refused_outcome command text status bytes (done short p spelled fine) is = absurd (omega arith)

module _ (one_problem : OneProblem) (no_problem : NoProblemWithABadLine) (no_fault : AcceptedProblemsHaveNone) (words : List (String Global)) (command : Command)
    (asks : Asks words command) where
  -- the bytes that were written at status 0
  pub done_with : (left : Option (List ℕ)) (after : List ℕ → List ℕ → List ℕ) (old new : Option (List ℕ)) →
      IfSome left (λ text. (length text ≤ 2 ^ 20) × ((p : Problem) × Spells text p × IsAccepted p × (new ≡ grown after old (bytes_of command p)))) →
      IfSome left (λ text. (bytes : List ℕ) × Answers words text 0 bytes × (new ≡ grown after old bytes))
  done_with left after old new told =
      weaker left
      (λ text. (length text ≤ 2 ^ 20) × ((p : Problem) × Spells text p × IsAccepted p × (new ≡ grown after old (bytes_of command p))))
      (λ text. (bytes : List ℕ) × Answers words text 0 bytes × (new ≡ grown after old bytes))
      (λ text (short, (p, spelled, fine, grew)). (
        bytes_of command p,
        answer_of words text command 0 (bytes_of command p) asks (done short p spelled fine),
        grew,
      )) told

  prefix_of_outcome : (text : List ℕ) (after : List ℕ → List ℕ → List ℕ) (silent : NoneChangeNothing after) (old new : Option (List ℕ)) →
      (IsRefused text → new ≡ old) → ((p : Problem) → Spells text p → GrewByPrefix after old new (bytes_of command p)) →
      (status : ℕ) (bytes : List ℕ) → Outcome command text status bytes → GrewByPrefix after old new bytes
  prefix_of_outcome text after silent old new unwritten part status bytes (refused why) =
      subst (λ x. GrewByPrefix after old x []) (sym (unwritten why)) (prefix_of_nothing after old [] silent)
  prefix_of_outcome text after silent old new unwritten part status bytes (done short p spelled fine) = part p spelled

  -- a prefix of the answer's bytes is written
  pub prefix_of_answer : (left : Option (List ℕ)) (after : List ℕ → List ℕ → List ℕ) (silent : NoneChangeNothing after) (old new : Option (List ℕ)) →
      IfSome left (λ text. IsRefused text → new ≡ old) →
      IfSome left (λ text. (p : Problem) → Spells text p → GrewByPrefix after old new (bytes_of command p)) →
      IfSome left (λ text. (status : ℕ) (bytes : List ℕ) → Answers words text status bytes → GrewByPrefix after old new bytes)
  prefix_of_answer None after silent old new unwritten part = record {}
  prefix_of_answer (Some text) after silent old new unwritten part = λ status bytes answer.
      prefix_of_outcome text after silent old new unwritten part status bytes (outcome_of words text command status bytes asks answer)

  refused_at : (text : List ℕ) → Answers words text 1 [] → IsRefused text
  refused_at text answer = refused_outcome command text 1 [] (outcome_of words text command 1 [] asks answer) refl

  served_outcome : (text : List ℕ) (status : ℕ) (bytes : List ℕ) → Outcome command text status bytes → status ≡ 0 → IsRefused text → ⊥
  served_outcome text status bytes (refused other) is why = omega arith
  served_outcome text status bytes (done short p spelled fine) is why =
      never_refused one_problem no_problem no_fault text p short spelled fine why

  served_at : (text : List ℕ) (bytes : List ℕ) → Answers words text 0 bytes → IsRefused text → ⊥
  served_at text bytes answer = served_outcome text 0 bytes (outcome_of words text command 0 bytes asks answer) refl

  module _ (s o : Type 0) (after : List ℕ → List ℕ → List ℕ) (old new : Option (List ℕ)) (before now status : ℕ) where
    -- a failure that is a refusal comes of a text that is refused
    refusal_of : (text : List ℕ) (f : Failure) → IsReason (Some text) s o f → status_of f ≡ 1 → IsRefused text
    refusal_of text Usage reason is = absurd reason
    refusal_of text TooLong reason is = (inl reason)
    refusal_of text (BadText bad) reason is = (inr (inl (bad, reason)))
    refusal_of text (Faulty f) reason is = (inr (inr (f.line, f.kind, reason)))
    refusal_of text ReadFault reason is = absurd (omega arith)
    refusal_of text WriteFault reason is = absurd (omega arith)
    refusal_of text NoMemory reason is = absurd (omega arith)

    completed_at : (text : List ℕ) (f : Failure) → IsReason (Some text) s o f → IsTold f after old new before now status →
        (bytes : List ℕ) → Answers words text 0 bytes → (s → ⊥) → (o → ⊥) → (Rose before now → ⊥) → (status ≡ 0) ⊎ (status ≡ 5)
    completed_at text Usage reason told bytes answer source_calm out_calm err_calm = absurd reason
    completed_at text TooLong reason told bytes answer source_calm out_calm err_calm = absurd (served_at text bytes answer (refusal_of text TooLong reason refl))
    completed_at text (BadText bad) reason told bytes answer source_calm out_calm err_calm =
        absurd (served_at text bytes answer (refusal_of text (BadText bad) reason refl))
    completed_at text (Faulty f) reason told bytes answer source_calm out_calm err_calm =
        absurd (served_at text bytes answer (refusal_of text (Faulty f) reason refl))
    completed_at text ReadFault reason told bytes answer source_calm out_calm err_calm = absurd (source_calm reason)
    completed_at text WriteFault reason told bytes answer source_calm out_calm err_calm = absurd (out_calm reason)
    completed_at text NoMemory reason (inl told) bytes answer source_calm out_calm err_calm = inr told.0
    completed_at text NoMemory reason (inr failed) bytes answer source_calm out_calm err_calm = inr failed.0

    -- a text that is served, where no count of faults rose
    pub completed_with : (left : Option (List ℕ)) (f : Failure) → IsReason left s o f → IsTold f after old new before now status →
        IfSome left (λ text. (bytes : List ℕ) → Answers words text 0 bytes → (s → ⊥) → (o → ⊥) → (Rose before now → ⊥)
        → (status ≡ 0) ⊎ (status ≡ 5))
    completed_with None f reason told = record {}
    completed_with (Some text) f reason told = completed_at text f reason told

    told_at_one : (f : Failure) → status_of f ≡ 1 → IsTold f after old new before now status → (Rose before now → ⊥) → (status ≡ 1) ⊎ (status ≡ 5)
    told_at_one f is (inl told) err_calm = inl (omega arith)
    told_at_one f is (inr failed) err_calm = absurd (err_calm failed.1)

    completed_refusal_at : (text : List ℕ) (f : Failure) → IsReason (Some text) s o f → IsTold f after old new before now status →
        (f ≡ WriteFault → IsRefused text → ⊥) → Answers words text 1 [] → (s → ⊥) → (Rose before now → ⊥) → (status ≡ 1) ⊎ (status ≡ 5)
    completed_refusal_at text Usage reason told unrefused answer source_calm err_calm = absurd reason
    completed_refusal_at text TooLong reason told unrefused answer source_calm err_calm = told_at_one TooLong refl told err_calm
    completed_refusal_at text (BadText bad) reason told unrefused answer source_calm err_calm = told_at_one (BadText bad) refl told err_calm
    completed_refusal_at text (Faulty f) reason told unrefused answer source_calm err_calm = told_at_one (Faulty f) refl told err_calm
    completed_refusal_at text ReadFault reason told unrefused answer source_calm err_calm = absurd (source_calm reason)
    completed_refusal_at text WriteFault reason told unrefused answer source_calm err_calm = absurd (unrefused refl (refused_at text answer))
    completed_refusal_at text NoMemory reason (inl told) unrefused answer source_calm err_calm = inr told.0
    completed_refusal_at text NoMemory reason (inr failed) unrefused answer source_calm err_calm = inr failed.0

    -- a text that is refused, where no count of faults rose
    pub completed_refusal_with : (left : Option (List ℕ)) (f : Failure) → IsReason left s o f → IsTold f after old new before now status →
        (f ≡ WriteFault → IfSome left (λ text. IsRefused text → ⊥)) →
        IfSome left (λ text. Answers words text 1 [] → (s → ⊥) → (Rose before now → ⊥) → (status ≡ 1) ⊎ (status ≡ 5))
    completed_refusal_with None f reason told unrefused = record {}
    completed_refusal_with (Some text) f reason told unrefused = completed_refusal_at text f reason told unrefused

    -- status 1 is that of a failure that is a refusal
    refused_alone : (f : Failure) → IsTold f after old new before now status → status ≡ 1 → status_of f ≡ 1
    refused_alone f (inl told) is = omega arith
    refused_alone f (inr failed) is = let high : 2 < status_after_fault f = high_after_fault f in absurd (omega arith)

    -- status 1
    pub refused_with : (left : Option (List ℕ)) (f : Failure) → IsReason left s o f → IsTold f after old new before now status →
        status ≡ 1 → IfSome left (λ text. Answers words text 1 [])
    refused_with None f reason told is = record {}
    refused_with (Some text) f reason told is =
        answer_of words text command 1 [] asks (refused (refusal_of text f reason (refused_alone f told is)))

  -- a text that is served is not refused
  pub done_refusal : (left : Option (List ℕ)) (Q : Problem → Type 0) (s e P : Type 0) →
      IfSome left (λ text. (length text ≤ 2 ^ 20) × ((p : Problem) × Spells text p × IsAccepted p × Q p)) →
      IfSome left (λ text. Answers words text 1 [] → (s → ⊥) → (e → ⊥) → P)
  done_refusal left Q s e P told =
      weaker left (λ text. (length text ≤ 2 ^ 20) × ((p : Problem) × Spells text p × IsAccepted p × Q p))
      (λ text. Answers words text 1 [] → (s → ⊥) → (e → ⊥) → P)
      (λ text (short, (p, spelled, fine, rest)) answer source_calm err_calm.
      absurd (never_refused one_problem no_problem no_fault text p short spelled fine (refused_at text answer))) told
