-- Whether two indexes are the same, and where an index stands among others.
use Rattle.std.proofs.Common.{◌≡◌, ◌≢◌, ◌∙◌, ℕ, List, length, get_or, Some, refl, ap, sym, arith}
use Rattle.std.specs.Prelude.{Bool, ◌&&◌, AllPairs, slice_get, position}
use Rattle.std.specs.Bool.{Decides}
use Rattle.std.specs.List.{position_or_len}
use Rattle.std.specs.Ordering.{int_eq}
use Rattle.std.proofs.lemmas.Bool.{lt-ltb, false_from_ne_true}
use Rattle.std.proofs.lemmas.Bool.Decides.{Decides-int_eq, Decides-and, Decides-like}
use Rattle.std.proofs.lemmas.List.Sums.{position_or_len_is}
use Rattle.std.proofs.lemmas.Option.{slice_get_within, get_or_from_slice_get}
use Rattle.uts_geom.specs.declared.index.Index.{Index}
use Rattle.uts_geom.specs.Spans.{index}

abbrev pub is_same_index : Index → Index → Bool
is_same_index i j = int_eq i.x j.x && (int_eq i.y j.y && int_eq i.z j.z)

pub by_coordinates : (i j : Index) → i.x ≡ j.x → i.y ≡ j.y → i.z ≡ j.z → i ≡ j
by_coordinates i j x y z = ap (λ n. index n i.y i.z) x ∙ ap (λ n. index j.x n i.z) y ∙ ap (λ n. index j.x j.y n) z

pub same_index_decides : (i j : Index) → Decides (is_same_index i j) (i ≡ j)
same_index_decides i j =
    Decides-like (is_same_index i j) (λ h. by_coordinates i j h.0 h.1.0 h.1.1) (λ e. (ap (λ k. k.x) e, (ap (λ k. k.y) e, ap (λ k. k.z) e)))
    (Decides-and (int_eq i.x j.x) (int_eq i.y j.y && int_eq i.z j.z) (Decides-int_eq i.x j.x)
    (Decides-and (int_eq i.y j.y) (int_eq i.z j.z) (Decides-int_eq i.y j.y) (Decides-int_eq i.z j.z)))

-- among indexes of which no two are the same, one stands at its place alone
pub position_of_index : (indexes : List Index) → AllPairs ◌≢◌ indexes → (k : ℕ) (i : Index) → slice_get indexes k ≡ Some i →
    position (λ j. is_same_index i j) indexes ≡ Some k
position_of_index indexes once k i at =
    let within = slice_get_within indexes k i at in
    let here : get_or indexes k i ≡ i = get_or_from_slice_get indexes k i i at in
    let place : position_or_len (λ j. is_same_index i j) indexes ≡ k =
    position_or_len_is (λ j. is_same_index i j) indexes k i (omega arith)
    (λ j before. false_from_ne_true _ (λ same. once j k i before within (sym ((same_index_decides i (get_or indexes j i)).0 same) ∙ sym here)))
    (λ _. (same_index_decides i (get_or indexes k i)).1 (sym here)) in
    rw (place, lt-ltb k (length indexes) within) refl
