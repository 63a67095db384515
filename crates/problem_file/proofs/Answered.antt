-- What reading a whole text tells of it.
use Rattle.std.proofs.Common.{◌≡◌, ℕ, ◌<◌, ◌^◌, List, length, ◌⊎◌, inl, inr, refl, ap, subst}
use Rattle.std.specs.Prelude.{Result, Ok, Err, IfOk, IfErr}
use Rattle.problem_types.specs.Form.{IsProblemInForm}
use Rattle.problem_types.specs.declared.problem.Problem.{Problem}
use Rattle.problem_file.specs.Grammar.{Spells, IsBadLine}
use Rattle.problem_file.specs.Laws.{OneProblem, OneBadLine, NoProblemWithABadLine, EveryTextIsJudged, ProblemsAreInForm}
use Rattle.problem_file.specs.Progress.{Blames}
use Rattle.problem_file.specs.declared.fault.ParseFault.{ParseFault}
use Rattle.problem_file.specs.declared.fault.ParseFault.TheVariants.{BadText, NoMemory}

module _ (text : List ℕ) (r : Result Problem ParseFault) (found : IfOk r (λ p. Spells text p)) (bad : IfErr r (Blames (IsBadLine text))) where
  pub bad_line : (line : ℕ) → r ≡ Err (BadText line) → IsBadLine text line
  bad_line line is = subst (λ (x : Result Problem ParseFault). IfErr x (Blames (IsBadLine text))) is bad

pub found_only : (text : List ℕ) → OneProblem → NoProblemWithABadLine → (r : Result Problem ParseFault) → IfOk r (λ p. Spells text p) → IfErr r (Blames (IsBadLine text))
    → (p : Problem) → Spells text p → (r ≡ Ok p) ⊎ (r ≡ Err NoMemory)
found_only text one never (Ok q) found bad p spelled = inl (ap (λ (x : Problem). Ok x) (one text q p found spelled))
found_only text one never (Err (BadText line)) found bad p spelled = absurd (never text line p bad spelled)
found_only text one never (Err NoMemory) found bad p spelled = inr refl

pub bad_line_only : (text : List ℕ) → OneBadLine → NoProblemWithABadLine → (r : Result Problem ParseFault) → IfOk r (λ p. Spells text p) → IfErr r (Blames (IsBadLine text))
    → (line : ℕ) → IsBadLine text line → (r ≡ Err (BadText line)) ⊎ (r ≡ Err NoMemory)
bad_line_only text one never (Ok q) found bad line is = absurd (never text line q is found)
bad_line_only text one never (Err (BadText other)) found bad line is = inl (ap (λ (n : ℕ). Err (BadText n)) (one text other line bad is))
bad_line_only text one never (Err NoMemory) found bad line is = inr refl

pub one_answer : (text : List ℕ) → EveryTextIsJudged → OneProblem → OneBadLine → NoProblemWithABadLine
    → (r : Result Problem ParseFault) → IfOk r (λ p. Spells text p) → IfErr r (Blames (IsBadLine text))
    → ((p : Problem) × Spells text p × ((r ≡ Ok p) ⊎ (r ≡ Err NoMemory)))
    ⊎ ((line : ℕ) × IsBadLine text line × ((r ≡ Err (BadText line)) ⊎ (r ≡ Err NoMemory)))
one_answer text judged one_problem one_line never r found bad =
    elim (judged text) [
      | inl p ↦ inl (p.0, p.1, found_only text one_problem never r found bad p.0 p.1)
      | inr line ↦ inr (line.0, line.1, bad_line_only text one_line never r found bad line.0 line.1)
    ]

pub found_in_form : (text : List ℕ) → length text < 2 ^ 31 → ProblemsAreInForm → (r : Result Problem ParseFault) → IfOk r (λ p. Spells text p) → IfOk r IsProblemInForm
found_in_form text short in_form (Ok p) found = in_form text p found short
found_in_form text short in_form (Err fault) found = record {}
