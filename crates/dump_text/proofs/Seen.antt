-- Probes that see the rows of lines in turn.
use Rattle.std.proofs.Common.{◌≡◌, ◌∙◌, ℕ, List, [], ◌∷◌, ◌++◌, map, length, Option, Result, Ok, Err, ◌⊎◌, inl, inr, ap, sym, subst, refl, append_assoc, append-nil}
use Rattle.std.specs.List.{AllZip}
use Rattle.std.specs.Prelude.{OnOk}
use Rattle.std.proofs.lemmas.Grind.{flat_map-append}
use Rattle.std.proofs.lemmas.List.{length-map}
use Rattle.std.proofs.lemmas.List.Elements.{length_all_zip}
use Rattle.std.proofs.lemmas.Simd.{map-map}
use Rattle.std.proofs.lemmas.Result.{on_ok_weaker}
use Rattle.std.proofs.lemmas.List.Sums.{fold-append}
use Rattle.uts_io.specs.Streams.{grown, GrewByPrefix, NoneChangeNothing, PiecesJoin, grown-nil, grown-grown, prefix_of_nothing, prefix_of_all, prefix_of_more}
use Rattle.probes.specs.declared.row.Row.{Row}
use Rattle.probes.specs.Watching.{Meaning, after_rows}
use Rattle.uts_model.specs.Dump.{row_line}
use Rattle.dump_text.specs.Lines.{Line, bytes_of, first_bytes, line_of, plain_line, rows_in}
use Rattle.dump_text.specs.Showing.{HasSeenSome, Notes, Sees}

-- after some rows, and then others
pub after_both : (a b : List Row) (m : Meaning) → after_rows b (after_rows a m) ≡ after_rows (a ++ b) m
after_both a b m = ap (λ s. record m { state = s }) (sym (fold-append m.next m.state a b))

-- after the rows of some lines, and then of others
after_lines : (a b : List Line) (m : Meaning) → after_rows (rows_in b) (after_rows (rows_in a) m) ≡ after_rows (rows_in (a ++ b)) m
after_lines a b m =
    after_both (rows_in a) (rows_in b) m ∙ ap (λ rows. after_rows rows m) (sym (flat_map-append (λ (l : Line). l.rows) a b))

all_after_lines : (a b : List Line) (ms : List Meaning) →
    map (after_rows (rows_in b)) (map (after_rows (rows_in a)) ms) ≡ map (after_rows (rows_in (a ++ b))) ms
all_after_lines a b [] = refl
all_after_lines a b (m ∷ ms) =
    ap (λ x. x ∷ map (after_rows (rows_in b)) (map (after_rows (rows_in a)) ms)) (after_lines a b m)
    ∙ ap (λ t. after_rows (rows_in (a ++ b)) m ∷ t) (all_after_lines a b ms)

-- a prefix of a first line is one of the first of more lines
more_lines : {after : List ℕ → List ℕ → List ℕ} {old new : Option (List ℕ)} (lines more : List Line) →
    GrewByPrefix after old new (first_bytes lines) → GrewByPrefix after old new (first_bytes (lines ++ more))
more_lines [] more grew = prefix_of_more (first_bytes more) grew
more_lines (l ∷ lines) more grew = grew

-- a list without rows leaves the probes as they are
pub none_after : (ms : List Meaning) → ms ≡ map (after_rows []) ms
none_after [] = refl
none_after (m ∷ ms) = ap (λ t. m ∷ t) (none_after ms)

module _ (after : List ℕ → List ℕ → List ℕ) (none : NoneChangeNothing after) (taken now : Option (List ℕ)) where
  -- the sink has taken a prefix of the first line, and a probe has seen nothing
  not_seen : (lines : List Line) → GrewByPrefix after taken now (first_bytes lines) → (m : Meaning) →
      HasSeenSome after taken now lines m m
  not_seen lines grew m = record {
    front = [];
    rest = lines;
    splits = refl;
    seen = refl;
    written = subst (λ t. GrewByPrefix after t now (first_bytes lines)) (sym (grown-nil after taken none)) grew;
  }

  none_seen : (lines : List Line) → GrewByPrefix after taken now (first_bytes lines) → (ms : List Meaning) →
      AllZip (HasSeenSome after taken now lines) ms ms
  none_seen lines grew [] = tt
  none_seen lines grew (m ∷ ms) = (not_seen lines grew m, none_seen lines grew ms)

  -- a call that had no line to show
  pub sees_none : {T E : Type 0} (ms : List Meaning) (x : T) → GrewByPrefix after taken now [] → Sees {E = E} after taken now ms ms (Ok x) []
  sees_none ms x grew = record { all = none_after ms; some = none_seen [] grew ms }

  -- a call that failed before any probe saw a row
  pub sees_nothing : {T E : Type 0} (ms : List Meaning) (e : E) (r : Result T E) (lines : List Line) → r ≡ Err e →
      GrewByPrefix after taken now (first_bytes lines) → Sees after taken now ms ms r lines
  sees_nothing ms e r lines is grew = record { all = rw is tt; some = none_seen lines grew ms }

  -- a call that wrote a line without a row, as far as it came
  pub sees_plain : {T E : Type 0} (ms : List Meaning) (r : Result T E) (text : List ℕ) → GrewByPrefix after taken now text →
      Sees after taken now ms ms r (plain_line text ∷ [])
  sees_plain ms (Ok x) text grew = record { all = none_after ms; some = none_seen (plain_line text ∷ []) grew ms }
  sees_plain ms (Err e) text grew = record { all = tt; some = none_seen (plain_line text ∷ []) grew ms }

  -- a probe has seen the row of the one line, which the sink has taken
  row_seen : (row : Row) → now ≡ grown after taken (row_line row) → (m : Meaning) →
      HasSeenSome after taken now (line_of row ∷ []) m (after_rows (row ∷ []) m)
  row_seen row grew m = record {
    front = line_of row ∷ [];
    rest = [];
    splits = refl;
    seen = refl;
    written = subst (λ t. GrewByPrefix after t now []) (grew ∙ ap (grown after taken) (sym (append-nil (row_line row))))
        (prefix_of_nothing after now [] none);
  }

  rows_seen : (row : Row) → now ≡ grown after taken (row_line row) → (old new : List Meaning) →
      AllZip (λ before later. (later ≡ after_rows (row ∷ []) before) ⊎ (later ≡ before)) old new →
      AllZip (HasSeenSome after taken now (line_of row ∷ [])) old new
  rows_seen row grew [] [] noted = noted
  rows_seen row grew [] (n ∷ new) noted = noted
  rows_seen row grew (m ∷ old) [] noted = noted
  rows_seen row grew (m ∷ old) (n ∷ new) noted = (
    elim noted.0 [
      | inl is ↦ subst (HasSeenSome after taken now (line_of row ∷ []) m) (sym is) (row_seen row grew m)
      | inr is ↦ subst (HasSeenSome after taken now (line_of row ∷ []) m) (sym is)
          (not_seen (line_of row ∷ []) (prefix_of_all after taken now (row_line row) grew) m)
    ],
    rows_seen row grew old new noted.1,
  )

  -- the line of a row is written, and then noted
  pub sees_row : {S T E F : Type 0} (old new : List Meaning) (x : S) (y : T) (row : Row) → now ≡ grown after taken (row_line row) →
      Notes {E = E} old new (Ok x) row → Sees {E = F} after taken now old new (Ok y) (line_of row ∷ [])
  sees_row old new x y row grew notes = record { all = notes.all; some = rows_seen row grew old new notes.some }

  -- and a probe failed
  pub sees_row_some : {S T E F : Type 0} (old new : List Meaning) (r : Result S E) (e : F) (r' : Result T F) (row : Row) →
      now ≡ grown after taken (row_line row) → Notes old new r row → r' ≡ Err e → Sees after taken now old new r' (line_of row ∷ [])
  sees_row_some old new r e r' row grew notes is = record { all = rw is tt; some = rows_seen row grew old new notes.some }

-- some of the first lines, or all of them and some of the others
one_of_more : {after : List ℕ → List ℕ → List ℕ} {taken now : Option (List ℕ)} (a b : List Line) (old new : Meaning) →
    HasSeenSome after taken now a old new → HasSeenSome after taken now (a ++ b) old new
one_of_more a b old new seen = record {
  front = seen.front;
  rest = seen.rest ++ b;
  splits = ap (λ t. t ++ b) seen.splits ∙ append_assoc seen.front seen.rest b;
  seen = seen.seen;
  written = more_lines seen.rest b seen.written;
}

some_of_more : (after : List ℕ → List ℕ → List ℕ) (taken now : Option (List ℕ)) (a b : List Line) (old new : List Meaning) →
    AllZip (HasSeenSome after taken now a) old new → AllZip (HasSeenSome after taken now (a ++ b)) old new
some_of_more after taken now a b [] [] seen = seen
some_of_more after taken now a b [] (n ∷ new) seen = seen
some_of_more after taken now a b (m ∷ old) [] seen = seen
some_of_more after taken now a b (m ∷ old) (n ∷ new) seen = (one_of_more a b m n seen.0, some_of_more after taken now a b old new seen.1)

module _ (after : List ℕ → List ℕ → List ℕ) (join : PiecesJoin after) (taken mid now : Option (List ℕ)) (a b : List Line)
    (grew : mid ≡ grown after taken (bytes_of a)) where
  one_after : (old new : Meaning) → HasSeenSome after mid now b (after_rows (rows_in a) old) new → HasSeenSome after taken now (a ++ b) old new
  one_after old new seen =
      let from : grown after mid (bytes_of seen.front) ≡ grown after taken (bytes_of (a ++ seen.front)) =
      ap (λ t. grown after t (bytes_of seen.front)) grew ∙ grown-grown after taken (bytes_of a) (bytes_of seen.front) join
      ∙ ap (grown after taken) (sym (flat_map-append (λ (l : Line). l.bytes) a seen.front)) in
      record {
        front = a ++ seen.front;
        rest = seen.rest;
        splits = ap (λ t. a ++ t) seen.splits ∙ sym (append_assoc a seen.front seen.rest);
        seen = seen.seen ∙ after_lines a seen.front old;
        written = subst (λ t. GrewByPrefix after t now (first_bytes seen.rest)) from seen.written;
      }

  some_after : (old new : List Meaning) → AllZip (HasSeenSome after mid now b) (map (after_rows (rows_in a)) old) new →
      AllZip (HasSeenSome after taken now (a ++ b)) old new
  some_after [] [] seen = seen
  some_after [] (n ∷ new) seen = seen
  some_after (m ∷ old) [] seen = seen
  some_after (m ∷ old) (n ∷ new) seen = (one_after m n seen.0, some_after old new seen.1)

  -- a call after one that showed all its lines
  pub then_sees : {S T E F : Type 0} (old between new : List Meaning) (x : S) (r : Result T F) →
      Sees {E = E} after taken mid old between (Ok x) a → Sees after mid now between new r b → Sees after taken now old new r (a ++ b)
  then_sees old between new x r first seen = record {
    all = on_ok_weaker r (λ is. is ∙ ap (map (after_rows (rows_in b))) first.all ∙ all_after_lines a b old) seen.all;
    some = some_after old new (rw (← first.all) seen.some);
  }

-- lines after those of a call that failed
pub sees_less : {after : List ℕ → List ℕ → List ℕ} {taken now : Option (List ℕ)} {S T E F : Type 0} (old new : List Meaning) (e : F)
    (r : Result S E) (r' : Result T F) (a b : List Line) → r' ≡ Err e →
    Sees after taken now old new r a → Sees after taken now old new r' (a ++ b)
sees_less {after} {taken} {now} old new e r r' a b is seen = record { all = rw is tt; some = some_of_more after taken now a b old new seen.some }

-- the same of the things that mean this
module _ {X T E : Type 0} {after : List ℕ → List ℕ → List ℕ} {taken now : Option (List ℕ)} (meaning : X → Meaning) (lines : List Line)
    (old new : List X) (r : Result T E) (sees : Sees after taken now (map meaning old) (map meaning new) r lines) where
  pub noted_at_ok : (rows : List Row) → rows_in lines ≡ rows → OnOk r (map meaning new ≡ map (λ b. after_rows rows (meaning b)) old)
  noted_at_ok rows shown =
      on_ok_weaker r (λ is. is ∙ ap (λ t. map (after_rows t) (map meaning old)) shown ∙ map-map (after_rows rows) meaning old) sees.all

  pub as_many : length new ≡ length old
  as_many =
      sym (length-map new meaning)
      ∙ sym (length_all_zip (HasSeenSome after taken now lines) (map meaning old) (map meaning new) sees.some)
      ∙ length-map old meaning
