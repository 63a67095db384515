-- What a call that shows a part of a dump did: to its sink, to the probes and to the supplier.
use Rattle.std.specs.Prelude.{◌≡◌, ◌⊎◌, ℕ, ℤ, List, [], ◌∷◌, ◌++◌, Option, Result, OnOk, map, codes}
use Rattle.std.specs.List.{AllZip}
use Rattle.uts_io.specs.Streams.{grown, GrewByPrefix}
use Rattle.probes.specs.declared.row.Row.{Row}
use Rattle.probes.specs.Watching.{Meaning, after_rows}
use Rattle.uts_model.specs.Dump.{Shown, line}
use Rattle.dump_text.specs.declared.fault.RunFault.{RunFault}
use Rattle.dump_text.specs.Supplies.{shown_by}
use Rattle.dump_text.specs.Lines.{Line, bytes_of, first_bytes, rows_in}
use Rattle.dump_text.specs.Writing.{Writes}

-- the line of a probe that says this text
abbrev pub probe_line : List ℕ → List ℕ
probe_line text = line (codes "# " ++ text)

-- Where a dump stands: what the sink has taken and how often it failed, what the supplier has, and what the probes mean.
pub record Scene : Type 0 where
  pub taken : Option (List ℕ)
  pub faults : ℕ
  pub rows : ℕ → ℕ → ℕ → ℤ → ℤ → Option (List ℤ)
  pub numbers : ℕ → Option ℤ
  pub probes : List Meaning

-- what the dump shows there
abbrev pub shown_in : Scene → Shown
shown_in scene = shown_by scene.rows scene.numbers

-- At Ok each of these has noted a row. Else each has noted it, or is as it was.
pub record Notes {T E : Type 0} (old new : List Meaning) (result : Result T E) (row : Row) : Type 0 where
  pub all : OnOk result (new ≡ map (after_rows (row ∷ [])) old)
  pub some : AllZip (λ before after. (after ≡ after_rows (row ∷ []) before) ⊎ (after ≡ before)) old new

-- A probe has seen the rows of the first of these lines, and the sink has taken those lines, and no more than the next one besides.
pub record HasSeenSome (after : List ℕ → List ℕ → List ℕ) (taken now : Option (List ℕ)) (lines : List Line) (old new : Meaning) : Type 0 where
  pub front : List Line
  pub rest : List Line
  pub splits : lines ≡ front ++ rest
  pub seen : new ≡ after_rows (rows_in front) old
  pub written : GrewByPrefix after (grown after taken (bytes_of front)) now (first_bytes rest)

-- At Ok each probe has seen the rows of all these lines. Else each has seen those of the first of them, which the sink has taken.
pub record Sees {T E : Type 0} (after : List ℕ → List ℕ → List ℕ) (taken now : Option (List ℕ)) (old new : List Meaning) (result : Result T E) (lines : List Line) : Type 0 where
  pub all : OnOk result (new ≡ map (after_rows (rows_in lines)) old)
  pub some : AllZip (HasSeenSome after taken now lines) old new

-- a call wrote these lines and showed their rows, as far as it came
pub record Shows {T : Type 0} (after : List ℕ → List ℕ → List ℕ) (old new : Scene) (result : Result T RunFault) (lines : List Line) : Type 0 where
  pub written : Writes after old.taken new.taken old.faults new.faults result (bytes_of lines)
  pub seen : Sees after old.taken new.taken old.probes new.probes result lines
  pub same_rows : new.rows ≡ old.rows
  pub same_numbers : new.numbers ≡ old.numbers

-- the same of a call by the sink, the supplier and the probes that it had and left, seen by such functions
abbrev pub CallShows : {S F P T : Type 0} → (after : List ℕ → List ℕ → List ℕ) → (taken : S → Option (List ℕ)) → (faults : S → ℕ) →
    (rows : F → ℕ → ℕ → ℕ → ℤ → ℤ → Option (List ℤ)) → (numbers : F → ℕ → Option ℤ) → (sink left_sink : S) → (fields left_fields : F) →
    (probes left_probes : List P) → (meaning : P → Meaning) → Result T RunFault → List Line → Type 0
CallShows after taken faults rows numbers sink left_sink fields left_fields probes left_probes meaning result lines =
    Shows after
    (record { taken = taken sink; faults = faults sink; rows = rows fields; numbers = numbers fields; probes = map meaning probes })
    (record {
      taken = taken left_sink;
      faults = faults left_sink;
      rows = rows left_fields;
      numbers = numbers left_fields;
      probes = map meaning left_probes;
    })
    result lines
