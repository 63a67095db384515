-- The lines of a text, by their places. A line ends at its line feed, or at the end of the text.
use Rattle.std.specs.Prelude.{ℕ, ◌+◌, ◌==◌, List, length, drop, slice_range, min}
use Rattle.std.specs.List.{position_or_len}

abbrev pub line_feed : ℕ
line_feed = 10

-- where the line that begins at `start` ends
abbrev pub line_end : List ℕ → ℕ → ℕ
line_end text start = start + position_or_len (λ byte. byte == line_feed) (drop start text)

-- the first place after the line that begins at `start`, which is behind its line feed if it has one
abbrev pub after_line : List ℕ → ℕ → ℕ
after_line text start = min (line_end text start + 1) (length text)

-- the bytes of the line that begins at `start`
abbrev pub line_at : List ℕ → ℕ → List ℕ
line_at text start = slice_range text start (line_end text start)
