-- Folds over the children of indexes.
use Rattle.std.proofs.Common.{◌≡◌, ◌∙◌, ◌<◌, ◌≤◌, ◌+◌, ℕ, zero, suc, ℤ, pos, ◌+ℤ◌, List, [], ◌∷◌, ◌++◌, length, map, fold, refl, ap, sym, arith, add-one, append-nil}
use Rattle.std.specs.Prelude.{slice_index_or}
use Rattle.std.specs.List.{flat_map}
use Rattle.std.proofs.lemmas.List.{map-append}
use Rattle.std.proofs.lemmas.List.Concat.{flat_map-append}
use Rattle.std.proofs.lemmas.List.Sums.{fold_push, fold-append}
use Rattle.std.proofs.lemmas.Simd.{map-map}
use Rattle.uts_geom.specs.declared.index.Index.{Index}
use Rattle.uts_geom.specs.Spans.{index, counted}
use Rattle.problem_types.specs.declared.problem.Fold.{Fold}
use Rattle.reductions.specs.Folding.{combined}
use Rattle.whole_fields.specs.Children.{AreFolded, stretch}
use Rattle.whole_fields.proofs.Lists.{map_alike}

-- one number more of a stretch
pub stretch_more : (first : ℤ) (count : ℕ) → stretch first (count + 1) ≡ stretch first count ++ (first +ℤ pos count) ∷ []
stretch_more first count =
    rw add-one (map-append (λ j. first +ℤ pos j) (counted 0 count) ((0 + count) ∷ [])
    ∙ ap (λ (j : ℕ). stretch first count ++ (first +ℤ pos j) ∷ []) (let e : 0 + count ≡ count = omega arith in e))

pub combined_more : (f : Fold) (start : ℤ) (along : ℤ → ℤ) (first : ℤ) (count : ℕ) →
    combined f (fold (combined f) start (map along (stretch first count))) (along (first +ℤ pos count))
    ≡ fold (combined f) start (map along (stretch first (count + 1)))
combined_more f start along first count =
    sym (ap (λ (xs : List ℤ). fold (combined f) start (map along xs)) (stretch_more first count)
    ∙ ap (fold (combined f) start) (map-append along (stretch first count) ((first +ℤ pos count) ∷ []))
    ∙ fold_push (combined f) start (map along (stretch first count)) (along (first +ℤ pos count)))

-- nothing combined, and one combining after another
pub none_folded : (f : Fold) (numbers : List ℤ) → AreFolded f numbers numbers (λ k. [])
none_folded f numbers = record { long = refl; each = λ k below. refl }

pub then_folded : (f : Fold) (old mid new : List ℤ) (first second : ℕ → List ℤ) → AreFolded f old mid first → AreFolded f mid new second →
    AreFolded f old new (λ k. first k ++ second k)
then_folded f old mid new first second one two = record {
  long = two.long ∙ one.long;
  each = λ k below.
      two.each k (omega (arith, one.long))
      ∙ ap (λ (n : ℤ). fold (combined f) n (second k)) (one.each k below)
      ∙ sym (fold-append (combined f) (slice_index_or old k (pos 0)) (first k) (second k));
}

pub folded_alike : (f : Fold) (old new : List ℤ) (more other : ℕ → List ℤ) → ((k : ℕ) → k < length old → more k ≡ other k) → AreFolded f old new more → AreFolded f old new other
folded_alike f old new more other same folded = record {
  long = folded.long;
  each = λ k below. folded.each k below ∙ ap (fold (combined f) (slice_index_or old k (pos 0))) (same k below);
}

-- the numbers of one piece more
pub pieces_more : (number : Index → ℤ) (piece : ℤ → List Index) (first : ℤ) (count : ℕ) →
    map number (flat_map piece (stretch first count)) ++ map number (piece (first +ℤ pos count)) ≡ map number (flat_map piece (stretch first (count + 1)))
pieces_more number piece first count =
    sym (ap (λ (xs : List ℤ). map number (flat_map piece xs)) (stretch_more first count)
    ∙ ap (map number) (flat_map-append piece (stretch first count) ((first +ℤ pos count) ∷ [])
    ∙ ap (λ (rest : List Index). flat_map piece (stretch first count) ++ rest) (append-nil (piece (first +ℤ pos count))))
    ∙ map-append number (flat_map piece (stretch first count)) (piece (first +ℤ pos count)))

-- a row's numbers are those of its indexes
pub row_numbers : (along : ℤ → ℤ) (number : Index → ℤ) (y z : ℤ) (xs : List ℤ) → ((x : ℤ) → along x ≡ number (index x y z)) → map along xs ≡ map number (map (λ x. index x y z) xs)
row_numbers along number y z xs same = map_alike along (λ x. number (index x y z)) xs same ∙ sym (map-map number (λ x. index x y z) xs)
