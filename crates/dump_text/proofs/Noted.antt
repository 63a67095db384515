-- A list of probes, of which the first ones have noted a row.
use Rattle.std.proofs.Common.{◌≡◌, ◌∙◌, ℕ, zero, suc, ◌+◌, ◌<◌, List, [], ◌∷◌, ◌++◌, map, length, take, get_or, set, Result, Ok, Err, ◌⊎◌, inl, inr, ap, sym, refl, arith, add-one}
use Rattle.std.specs.List.{AllZip}
use Rattle.std.proofs.Math.Seq.{map-set_same, take-append_seam}
use Rattle.std.proofs.Math.ListN.{get_or-map}
use Rattle.std.proofs.lemmas.List.{map-set, length-map}
use Rattle.probes.specs.declared.row.Row.{Row}
use Rattle.probes.specs.Watching.{Meaning, after_rows}
use Rattle.dump_text.specs.Showing.{Notes}

-- the first k of these have noted the row
abbrev pub first_noted : Row → ℕ → List Meaning → List Meaning
first_noted row zero ms = ms
first_noted row (suc k) [] = []
first_noted row (suc k) (m ∷ ms) = after_rows (row ∷ []) m ∷ first_noted row k ms

next_noted : (row : Row) (k : ℕ) (ms : List Meaning) (d : Meaning) → k < length ms →
    set (first_noted row k ms) k (after_rows (row ∷ []) (get_or ms k d)) ≡ first_noted row (suc k) ms
next_noted row k [] d below = absurd (omega arith)
next_noted row zero (m ∷ ms) d below = refl
next_noted row (suc k) (m ∷ ms) d below = ap (λ t. after_rows (row ∷ []) m ∷ t) (next_noted row k ms d (omega arith))

-- the others are as they were
not_noted : (row : Row) (k : ℕ) (ms : List Meaning) (d : Meaning) → get_or (first_noted row k ms) k d ≡ get_or ms k d
not_noted row zero ms d = refl
not_noted row (suc k) [] d = refl
not_noted row (suc k) (m ∷ ms) d = not_noted row k ms d

pub length-first_noted : (row : Row) (k : ℕ) (ms : List Meaning) → length (first_noted row k ms) ≡ length ms
length-first_noted row zero ms = refl
length-first_noted row (suc k) [] = refl
length-first_noted row (suc k) (m ∷ ms) = ap suc (length-first_noted row k ms)

pub all_noted : (row : Row) (ms : List Meaning) → first_noted row (length ms) ms ≡ map (after_rows (row ∷ [])) ms
all_noted row [] = refl
all_noted row (m ∷ ms) = ap (λ t. after_rows (row ∷ []) m ∷ t) (all_noted row ms)

-- each has noted the row, or is as it was
none_noted : (row : Row) (ms : List Meaning) → AllZip (λ before after. (after ≡ after_rows (row ∷ []) before) ⊎ (after ≡ before)) ms ms
none_noted row [] = tt
none_noted row (m ∷ ms) = (inr refl, none_noted row ms)

some_noted : (row : Row) (k : ℕ) (ms : List Meaning) →
    AllZip (λ before after. (after ≡ after_rows (row ∷ []) before) ⊎ (after ≡ before)) ms (first_noted row k ms)
some_noted row zero ms = none_noted row ms
some_noted row (suc k) [] = tt
some_noted row (suc k) (m ∷ ms) = (inl refl, some_noted row k ms)

-- a list before other items is taken whole
pub whole : {X : Type 0} (xs ys : List X) (n : ℕ) → length xs ≡ n → take n (xs ++ ys) ≡ xs
whole xs ys n is = ap (λ k. take k (xs ++ ys)) (sym is) ∙ take-append_seam xs ys

-- probes of which the first k have noted the row, where they were the initial ones before
module _ {X : Type 0} (row : Row) (initial : List X) (k : ℕ) (items : List X) (meaning : X → Meaning)
    (are : map meaning items ≡ first_noted row k (map meaning initial)) where
  at_place : (d : X) → meaning (get_or items k d) ≡ get_or (map meaning initial) k (meaning d)
  at_place d = sym (get_or-map meaning items k d) ∙ ap (λ t. get_or t k (meaning d)) are ∙ not_noted row k (map meaning initial) (meaning d)

  -- the probe at k notes it too
  pub one_noted : (d new : X) → k < length initial → meaning new ≡ after_rows (row ∷ []) (meaning (get_or items k d)) →
      map meaning (set items k new) ≡ first_noted row (k + 1) (map meaning initial)
  one_noted d new below notes =
      map-set meaning items k new
      ∙ ap (λ t. set t k (meaning new)) are
      ∙ ap (λ m. set (first_noted row k (map meaning initial)) k m) (notes ∙ ap (after_rows (row ∷ [])) (at_place d))
      ∙ next_noted row k (map meaning initial) (meaning d) (rw (length-map initial meaning) below)
      ∙ ap (λ n. first_noted row n (map meaning initial)) (sym (add-one k))

  -- all of them did
  pub notes_all : (start last : List X) → initial ≡ start → last ≡ items → length start ≡ k →
      {T E : Type 0} (x : T) →
      Notes {E = E} (map meaning start) (map meaning last) (Ok x) row
  notes_all start last began ended is x =
      let now : map meaning last ≡ first_noted row k (map meaning start) =
      ap (map meaning) ended ∙ are ∙ ap (λ t. first_noted row k (map meaning t)) began in
      record {
        all = now ∙ ap (λ n. first_noted row n (map meaning start)) (sym is ∙ sym (length-map start meaning))
            ∙ all_noted row (map meaning start);
        some = rw now (some_noted row k (map meaning start));
      }

  -- the probe at k failed
  pub notes_some : {T E : Type 0} (start last : List X) (d new : X) (e : E) (r : Result T E) → initial ≡ start →
      last ≡ set items k new → meaning new ≡ meaning (get_or items k d) → r ≡ Err e →
      Notes (map meaning start) (map meaning last) r row
  notes_some start last d new e r began ended same is =
      let now : map meaning last ≡ first_noted row k (map meaning start) =
      ap (map meaning) ended ∙ map-set_same meaning items k new d same ∙ are
      ∙ ap (λ t. first_noted row k (map meaning t)) began in
      record {
        all = rw is tt;
        some = rw now (some_noted row k (map meaning start));
      }
