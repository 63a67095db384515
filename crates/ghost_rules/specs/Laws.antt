-- The windows and the offsets belong together.
use Rattle.std.specs.Prelude.{ℤ, pos, ◌+ℤ◌, ◌<ℤ◌, Bool, ◌↔◌, IsTrue, ◌&&◌, if◌then◌else◌}
use Rattle.uts_geom.specs.Spans.{is_between}
use Rattle.ghost_rules.specs.declared.along.Along.{Along}
use Rattle.ghost_rules.specs.Windows.{window_begin, window_end, is_allowed_along}

-- A kernel runs on an axis at what its patch owns there: from the low bound up to the high one, and at the high one besides where
-- the kernel is point-like and the patch the last of its box.
abbrev pub runs_at : (kernel last : Bool) (low high n : ℤ) → Bool
runs_at kernel last low high n = is_between low (high +ℤ (if kernel && last then pos 1 else pos 0)) n

abbrev pub is_in_window : Along → (variable last : Bool) (low high n : ℤ) → Bool
is_in_window a variable last low high n = is_between (low +ℤ window_begin a variable) (high +ℤ window_end a variable last) n

-- An offset is allowed on an axis exactly where it leads into the window, at each patch and from each number at which the kernel runs.
abbrev pub OffsetsFitWindows : Type 0
OffsetsFitWindows = (a : Along) (variable kernel : Bool) (by : ℤ) → IsTrue (is_allowed_along a variable kernel by)
    ↔ ((low high n : ℤ) (last : Bool) → low <ℤ high → IsTrue (runs_at kernel last low high n) → IsTrue (is_in_window a variable last low high (n +ℤ by)))
