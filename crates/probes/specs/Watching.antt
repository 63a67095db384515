-- What watches a run: numbers that follow from the rows seen so far, and a line of text of them.
use Rattle.std.specs.Prelude.{◌≡◌, ℕ, ℤ, ◌≤◌, List, map, fold, length, All}
use Rattle.probes.specs.declared.row.Row.{Row}

-- What a probe means: its state, what a row makes of a state, and the text of a state.
pub record Meaning : Type 0 where
  pub state : List ℤ
  pub next : List ℤ → Row → List ℤ
  pub text : List ℤ → List ℕ

-- a probe that has seen these rows besides
abbrev pub after_rows : List Row → Meaning → Meaning
after_rows rows m = record { state = fold m.next m.state rows; next = m.next; text = m.text }

-- the line of a probe that has seen these rows besides
abbrev pub line_after : List Row → Meaning → List ℕ
line_after rows m = m.text (fold m.next m.state rows)

-- at most 200 bytes, each from a space to a tilde
abbrev pub IsShortText : List ℕ → Type 0
IsShortText text = (length text ≤ 200) × All (λ b. (0x20 ≤ b) × (b ≤ 0x7E)) text
