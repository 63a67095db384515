-- Calls that show parts of a dump in turn.
use Rattle.std.proofs.Common.{◌≡◌, ◌∙◌, ◌<◌, ◌+◌, ℕ, ℤ, List, [], ◌∷◌, ◌++◌, Option, Result, Ok, Err, ap, sym, append-nil, subst, refl}
use Rattle.std.specs.List.{flat_map}
use Rattle.std.proofs.lemmas.Grind.{flat_map-append}
use Rattle.uts_io.specs.Streams.{NoneChangeNothing, PiecesJoin, prefix_of_nothing}
use Rattle.uts_geom.specs.Spans.{counted}
use Rattle.probes.specs.Watching.{Meaning}
use Rattle.probes.specs.declared.row.Row.{Row}
use Rattle.uts_model.specs.Dump.{Shown, row_line}
use Rattle.dump_text.specs.declared.fault.RunFault.{RunFault}
use Rattle.dump_text.specs.declared.fault.RunFault.TheVariants.{NoMemory}
use Rattle.dump_text.specs.Counted.{counted-more, counted_split}
use Rattle.dump_text.specs.Lines.{Line, bytes_of, first_bytes, line_of, plain_line}
use Rattle.dump_text.specs.Supplies.{shown_by}
use Rattle.dump_text.specs.Writing.{Writes}
use Rattle.dump_text.specs.Written.{none_written, nothing_written, then_writes, writes_less}
use Rattle.dump_text.specs.Showing.{Scene, Sees, Shows, shown_in}
use Rattle.dump_text.proofs.Seen.{then_sees, sees_less, sees_none, sees_nothing, sees_plain}

-- a call after one that showed all of its part
pub then_shows : (after : List ℕ → List ℕ → List ℕ) (join : PiecesJoin after) (old mid new : Scene) {S T : Type 0} (x : S) (r : Result T RunFault)
    (a b : List Line) → Shows after old mid (Ok x) a → Shows after mid new r b → Shows after old new r (a ++ b)
then_shows after join old mid new x r a b first then = record {
  written = rw (flat_map-append (λ (l : Line). l.bytes) a b)
      (then_writes after join old.taken mid.taken new.taken old.faults mid.faults new.faults x r (bytes_of a) (bytes_of b) first.written then.written);
  seen = then_sees after join old.taken mid.taken new.taken a b first.written.all old.probes mid.probes new.probes x r first.seen then.seen;
  same_rows = then.same_rows ∙ first.same_rows;
  same_numbers = then.same_numbers ∙ first.same_numbers;
}

-- a call that failed, where more was to follow
pub shows_less : (after : List ℕ → List ℕ → List ℕ) (old new : Scene) {S T : Type 0} (e : RunFault) (r : Result S RunFault) (r' : Result T RunFault)
    (a b : List Line) → r ≡ Err e → r' ≡ Err e → Shows after old new r a → Shows after old new r' (a ++ b)
shows_less after old new e r r' a b was is shows = record {
  written = rw (flat_map-append (λ (l : Line). l.bytes) a b)
      (writes_less after old.taken new.taken old.faults new.faults e r r' (bytes_of a) (bytes_of b) was is shows.written);
  seen = sees_less old.probes new.probes e r r' a b is shows.seen;
  same_rows = shows.same_rows;
  same_numbers = shows.same_numbers;
}

-- a call that had nothing to show
pub shows_none : (after : List ℕ → List ℕ → List ℕ) (none : NoneChangeNothing after) (old : Scene) {T : Type 0} (x : T) →
    Shows after old old (Ok x) []
shows_none after none old x = record {
  written = none_written after none old.taken old.faults x;
  seen = sees_none after none old.taken old.taken old.probes x (prefix_of_nothing after old.taken [] none);
  same_rows = refl;
  same_numbers = refl;
}

-- a call that failed for want of memory before it showed anything
pub shows_nothing : (after : List ℕ → List ℕ → List ℕ) (none : NoneChangeNothing after) (old : Scene) (rows' : ℕ → ℕ → ℕ → ℤ → ℤ → Option (List ℤ))
    (numbers' : ℕ → Option ℤ) {T : Type 0} (r : Result T RunFault) (lines : List Line) → r ≡ Err NoMemory →
    rows' ≡ old.rows → numbers' ≡ old.numbers → Shows after old (record old { rows = rows'; numbers = numbers' }) r lines
shows_nothing after none old rows' numbers' r lines is same_rows same_numbers = record {
  written = nothing_written after none old.taken old.faults r (bytes_of lines) is;
  seen = sees_nothing after none old.taken old.taken old.probes NoMemory r lines is
      (prefix_of_nothing after old.taken (first_bytes lines) none);
  same_rows = same_rows;
  same_numbers = same_numbers;
}

-- a call that only wrote a line
pub shows_plain : (after : List ℕ → List ℕ → List ℕ) (none : NoneChangeNothing after) (old : Scene) (taken' : Option (List ℕ)) (faults' : ℕ)
    {T : Type 0} (r : Result T RunFault) (text : List ℕ) → Writes after old.taken taken' old.faults faults' r text →
    Shows after old (record old { taken = taken'; faults = faults' }) r (plain_line text ∷ [])
shows_plain after none old taken' faults' r text written = record {
  written = rw (append-nil text) written;
  seen = sees_plain after none old.taken taken' old.probes r text written.prefix;
  same_rows = refl;
  same_numbers = refl;
}

-- a call that wrote the line of a row and had the probes note it
pub shows_row : (after : List ℕ → List ℕ → List ℕ) (old : Scene) (taken' : Option (List ℕ)) (faults' : ℕ) (probes' : List Meaning)
    (rows' : ℕ → ℕ → ℕ → ℤ → ℤ → Option (List ℤ)) (numbers' : ℕ → Option ℤ) {T : Type 0} (r : Result T RunFault)
    (row shown : Row) → row ≡ shown → Writes after old.taken taken' old.faults faults' r (row_line row) →
    Sees after old.taken taken' old.probes probes' r (line_of row ∷ []) → rows' ≡ old.rows → numbers' ≡ old.numbers →
    Shows after old (record { taken = taken'; faults = faults'; rows = rows'; numbers = numbers'; probes = probes' }) r (line_of shown ∷ [])
shows_row after old taken' faults' probes' rows' numbers' r row shown is written seen same_rows same_numbers = record {
  written = rw (append-nil (row_line shown), ← is) written;
  seen = subst (λ t. Sees after old.taken taken' old.probes probes' r (line_of t ∷ [])) is seen;
  same_rows = same_rows;
  same_numbers = same_numbers;
}

-- what the dump shows stays the same
pub same_shown : {after : List ℕ → List ℕ → List ℕ} {old new : Scene} {T : Type 0} {r : Result T RunFault} {lines : List Line} →
    Shows after old new r lines → shown_in new ≡ shown_in old
same_shown {after} {old} {new} shows =
    ap (λ t. shown_by t new.numbers) shows.same_rows ∙ ap (λ t. shown_by old.rows t) shows.same_numbers

-- what was shown for the first items of a list, and then for one more
module _ (after : List ℕ → List ℕ → List ℕ) (join : PiecesJoin after) (old mid new : Scene) {X T : Type 0} (r : Result T RunFault)
    (lines : Shown → X → List Line) (done : List X) (item : X) {S : Type 0} (x : S)
    (before : Shows after old mid (Ok x) (flat_map (lines (shown_in old)) done))
    (then : Shows after mid new r (lines (shown_in mid) item)) where
  one_more : flat_map (lines (shown_in old)) done ++ lines (shown_in old) item ≡ flat_map (lines (shown_in old)) (done ++ item ∷ [])
  one_more =
      ap (λ t. flat_map (lines (shown_in old)) done ++ t) (sym (append-nil (lines (shown_in old) item)))
      ∙ sym (flat_map-append (lines (shown_in old)) done (item ∷ []))

  pub shows_next : Shows after old new r (flat_map (lines (shown_in old)) (done ++ item ∷ []))
  shows_next =
      subst (Shows after old new r) one_more
      (then_shows after join old mid new x r _ _ before (subst (λ s. Shows after mid new r (lines s item)) (same_shown before) then))

  -- it failed, and more items follow
  pub stopped_at : {U : Type 0} (e : RunFault) (r' : Result U RunFault) (whole rest : List X) → whole ≡ (done ++ item ∷ []) ++ rest →
      r ≡ Err e → r' ≡ Err e → Shows after old new r' (flat_map (lines (shown_in old)) whole)
  stopped_at e r' whole rest is was failed =
      rw (is, flat_map-append (lines (shown_in old)) (done ++ item ∷ []) rest)
      (shows_less after old new e r r' _ _ was failed shows_next)

-- what was shown for the numbers below k, and then for k
module _ (after : List ℕ → List ℕ → List ℕ) (join : PiecesJoin after) (old mid new : Scene) {S T : Type 0} (x : S) (r : Result T RunFault)
    (lines : Shown → ℕ → List Line) (k : ℕ) (before : Shows after old mid (Ok x) (flat_map (lines (shown_in old)) (counted 0 k)))
    (then : Shows after mid new r (lines (shown_in mid) k)) where
  pub shows_below : Shows after old new r (flat_map (lines (shown_in old)) (counted 0 (k + 1)))
  shows_below = rw (counted-more k) (shows_next after join old mid new r lines (counted 0 k) k x before then)

  -- it failed, and more numbers follow
  pub stopped_below : {U : Type 0} (n : ℕ) (e : RunFault) (r' : Result U RunFault) → k < n → r ≡ Err e → r' ≡ Err e →
      Shows after old new r' (flat_map (lines (shown_in old)) (counted 0 n))
  stopped_below n e r' below was failed =
      let split = counted_split k n below in
      stopped_at after join old mid new r lines (counted 0 k) k x before then e r' (counted 0 n) split.0 split.1 was failed

-- all numbers below n
pub shows_all_below : {after : List ℕ → List ℕ → List ℕ} {old new : Scene} {T : Type 0} {r : Result T RunFault}
    (lines : ℕ → List Line) (k n : ℕ) → k ≡ n →
    Shows after old new r (flat_map lines (counted 0 k)) → Shows after old new r (flat_map lines (counted 0 n))
shows_all_below {after} {old} {new} {T} {r} lines k n is shows =
    subst (λ m. Shows after old new r (flat_map lines (counted 0 m))) is shows
