-- Kept names by their places.
use Rattle.std.proofs.Common.{◌≡◌, ◌∙◌, ℕ, List, [], All, Some, ap, sym, subst}
use Rattle.std.specs.List.{slice_get}
use Rattle.std.specs.Option.{option_map_or}
use Rattle.std.proofs.lemmas.Option.{slice_get_within, get_or_from_slice_get}
use Rattle.problem_types.specs.declared.problem.Keep.{Keep}
use Rattle.problem_types.specs.declared.problem.Problem.{Problem}
use Rattle.dump_text.specs.Keeps.{at_keep}

-- what holds of each `keep` line holds of the one at a place
pub all_kept : (P : Keep → Type 0) (keeps : List Keep) (place : ℕ) (keep : Keep) → slice_get keeps place ≡ Some keep → All P keeps → P keep
all_kept P keeps place keep at all =
    subst P (get_or_from_slice_get keeps place keep keep at) (all place keep (slice_get_within keeps place keep at))

-- what stands for its name
pub kept_here : {A : Type 0} (p : Problem) (of : ℕ → ℕ → List A) (place name : ℕ) (keep : Keep) → slice_get p.keeps place ≡ Some keep →
    name ≡ keep.name → of place name ≡ at_keep p of place
kept_here p of place name keep at is =
    ap (of place) is ∙ sym (ap (λ t. option_map_or (λ k. of place k.name) t []) at)
