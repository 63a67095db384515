-- The numbers that are combined, one more.
use Rattle.std.proofs.Common.{◌≡◌, ◌∙◌, ap, sym, refl, ℕ, ℤ, ◌+◌, ◌≤◌, List, [], ◌∷◌, ◌++◌, length, take, fold, Some}
use Rattle.std.specs.Prelude.{slice_get}
use Rattle.std.specs.List.{flat_map}
use Rattle.std.specs.Option.{option_map}
use Rattle.std.proofs.lemmas.List.{length-map, take_more, take_all, append-nil}
use Rattle.std.proofs.lemmas.List.Concat.{flat_map-append}
use Rattle.std.proofs.lemmas.List.Sums.{fold-append}
use Rattle.std.proofs.lemmas.Option.{slice_get-map, slice_get_within, get_or_from_slice_get}
use Rattle.uts_geom.specs.declared.index.Index.{Index}
use Rattle.kernel_ast.specs.Value.{value_of}
use Rattle.kernel_ast.specs.declared.expression.Read.{Read}
use Rattle.problem_types.specs.Lists.{centring_of}
use Rattle.problem_types.specs.Regions.{indexes_of, children_of}
use Rattle.problem_types.specs.declared.problem.Fold.{Fold}
use Rattle.reductions.specs.Folding.{combined}
use Rattle.uts_model.specs.Folds.{numbers_of_children, place_of, numbers_on, numbers_for, all_numbers}
use Rattle.uts_model.specs.Moments.{state_of, moment_of, end_before, environment_at}
use Rattle.uts_model.specs.WholeField.{reduced_centring, contributions}
use Rattle.uts_model.specs.declared.moments.Moment.TheVariants.{InStep}
use Rattle.uts_model.specs.declared.moments.Place.{Place}
use Rattle.uts_model.specs.declared.numbers.Reducing.{Reducing}
use Rattle.uts_model.proofs.States.{fold_next}

pub child_number : (place : Place) (r : Read) (k : ℕ) (i : Index) →
    slice_get (children_of place.problem.now place.site.level (centring_of place.problem.now r.name) place.site.index) k ≡ Some i →
    slice_get (numbers_of_children place r) k
    ≡ Some ((state_of place.problem.now (moment_of place r.store)).field r.name place.site.material (place.site.level + 1) i)
unfolding numbers_of_children
child_number place r k i at =
    let number : Index → ℤ = (state_of place.problem.now (moment_of place r.store)).field r.name place.site.material (place.site.level + 1) in
    slice_get-map number (children_of place.problem.now place.site.level (centring_of place.problem.now r.name) place.site.index) k ∙ ap (option_map number) at

pub length-children : (place : Place) (r : Read) →
    length (numbers_of_children place r)
    ≡ length (children_of place.problem.now place.site.level (centring_of place.problem.now r.name) place.site.index)
unfolding numbers_of_children
length-children place r = length-map _ _

pub number_at : (line : Reducing) (level material k : ℕ) (i : Index) →
    slice_get (indexes_of line.problem.now level (reduced_centring line.write.now.kind)) k ≡ Some i →
    slice_get (numbers_on line level material) k ≡ Some (value_of line.write.now.expr (environment_at (place_of line level material i)))
unfolding numbers_on
number_at line level material k i at =
    let number : Index → ℤ = λ i. value_of line.write.now.expr (environment_at (place_of line level material i)) in
    slice_get-map number (indexes_of line.problem.now level (reduced_centring line.write.now.kind)) k ∙ ap (option_map number) at

pub length-numbers_on : (line : Reducing) (level material : ℕ) →
    length (numbers_on line level material) ≡ length (indexes_of line.problem.now level (reduced_centring line.write.now.kind))
unfolding numbers_on
length-numbers_on line level material = length-map _ _

-- a loop that combines numbers, one step more
pub fold_step : (f : Fold) (a : ℤ) (xs : List ℤ) (k : ℕ) (total number x next : ℤ) → total ≡ fold (combined f) a (take k xs) →
    slice_get xs k ≡ Some x → number ≡ x → next ≡ combined f total number → next ≡ fold (combined f) a (take (k + 1) xs)
fold_step f a xs k total number x next before at is made =
    made ∙ ap (λ (n : ℤ). combined f n number) before ∙ ap (combined f (fold (combined f) a (take k xs))) is
    ∙ sym (fold_next (combined f) a xs k x at)

-- and at its end
pub fold_end : (f : Fold) (a : ℤ) (xs : List ℤ) (k : ℕ) (total : ℤ) → total ≡ fold (combined f) a (take k xs) → length xs ≤ k →
    total ≡ fold (combined f) a xs
fold_end f a xs k total before whole = before ∙ ap (fold (combined f) a) (take_all k xs whole)

-- a fold over pieces, one piece more
pub fold_piece : {A B X : Type 0} (f : B → A → B) (a : B) (g : X → List A) (xs : List X) (k : ℕ) (x : X) → slice_get xs k ≡ Some x →
    fold f a (flat_map g (take (k + 1) xs)) ≡ fold f (fold f a (flat_map g (take k xs))) (g x)
fold_piece {A} f a g xs k x at =
    ap (λ ys. fold f a (flat_map g ys)) (take_more xs k x (slice_get_within xs k x at) ∙ ap (λ y. take k xs ++ y ∷ []) (get_or_from_slice_get xs k x x at))
    ∙ ap (fold f a) (flat_map-append g (take k xs) (x ∷ []) ∙ ap (λ (ys : List A). flat_map g (take k xs) ++ ys) (append-nil (g x)))
    ∙ fold-append f a (flat_map g (take k xs)) (g x)

-- all numbers of a line are those that its reduction combines
pub all_numbers_are : (line : Reducing) →
    all_numbers line
    ≡ contributions line.problem.now line.step (state_of line.problem.now (end_before line.problem.now line.step))
    (state_of line.problem.now (InStep line.step line.tasks)) line.task.now line.write.now
unfolding all_numbers numbers_for numbers_on
all_numbers_are line = refl
