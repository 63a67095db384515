-- An offset is allowed where it leads into the window.
use Rattle.std.proofs.Common.{◌≡◌, ℤ, pos, ◌+ℤ◌, ◌≤ℤ◌, ◌<ℤ◌, Bool, true, false, refl, subst, sym, arith}
use Rattle.std.specs.Prelude.{◌&&◌, if◌then◌else◌}
use Rattle.std.proofs.lemmas.Int.{ints}
use Rattle.uts_geom.specs.Spans.{is_between}
use Rattle.ghost_rules.specs.declared.along.Along.{Along}
use Rattle.ghost_rules.specs.declared.along.Along.TheVariants.{Nothing, Intervals, Points, Own}
use Rattle.ghost_rules.specs.Windows.{window_begin, window_end, offset_begin, offset_end, is_allowed_along}
use Rattle.ghost_rules.specs.Laws.{runs_at, is_in_window, OffsetsFitWindows}

bounds_of : (low high n : ℤ) → is_between low high n ≡ true → (low ≤ℤ n) × (n <ℤ high)
bounds_of low high n between = (grind (arith, ints), grind (arith, ints))

between : (low high n : ℤ) → low ≤ℤ n → n <ℤ high → is_between low high n ≡ true
between low high n above below = grind (arith, ints)

moved_above : (low n begin by : ℤ) → low ≤ℤ n → begin ≤ℤ by → (low +ℤ begin) ≤ℤ (n +ℤ by)
moved_above low n begin by at_n at_by = omega (arith, ints)

moved_below : (top n past by end : ℤ) → n <ℤ top → by <ℤ past → (top +ℤ past) ≤ℤ (end +ℤ pos 1) → (n +ℤ by) <ℤ end
moved_below top n past by end at_n at_by fits = omega (arith, ints)

same_begin : (a : Along) (variable : Bool) → offset_begin a variable ≡ window_begin a variable
same_begin Nothing variable = refl
same_begin (Intervals n) true = refl
same_begin (Intervals n) false = refl
same_begin (Points n) variable = refl
same_begin Own variable = refl

-- the greatest offset from the last number at which a kernel runs leads no further than the window
ends_fit : (a : Along) (variable kernel last : Bool) (high : ℤ) →
    ((high +ℤ (if kernel && last then pos 1 else pos 0)) +ℤ offset_end a variable kernel) ≤ℤ ((high +ℤ window_end a variable last) +ℤ pos 1)
ends_fit Nothing false false last high = omega (arith, ints)
ends_fit Nothing false true false high = omega (arith, ints)
ends_fit Nothing false true true high = omega (arith, ints)
ends_fit Nothing true false last high = omega (arith, ints)
ends_fit Nothing true true false high = omega (arith, ints)
ends_fit Nothing true true true high = omega (arith, ints)
ends_fit (Intervals n) variable false last high = omega (arith, ints)
ends_fit (Intervals n) variable true false high = omega (arith, ints)
ends_fit (Intervals n) variable true true high = omega (arith, ints)
ends_fit (Points n) false false last high = omega (arith, ints)
ends_fit (Points n) false true false high = omega (arith, ints)
ends_fit (Points n) false true true high = omega (arith, ints)
ends_fit (Points n) true false last high = omega (arith, ints)
ends_fit (Points n) true true false high = omega (arith, ints)
ends_fit (Points n) true true true high = omega (arith, ints)
ends_fit Own false false last high = omega (arith, ints)
ends_fit Own false true false high = omega (arith, ints)
ends_fit Own false true true high = omega (arith, ints)
ends_fit Own true false false high = omega (arith, ints)
ends_fit Own true false true high = omega (arith, ints)
ends_fit Own true true false high = omega (arith, ints)
ends_fit Own true true true high = omega (arith, ints)

leads_inside : (a : Along) (variable kernel : Bool) (by : ℤ) → is_allowed_along a variable kernel by ≡ true →
    (low high n : ℤ) (last : Bool) → low <ℤ high → runs_at kernel last low high n ≡ true → is_in_window a variable last low high (n +ℤ by) ≡ true
leads_inside a variable kernel by allowed low high n last some runs =
    let at_by = bounds_of (offset_begin a variable) (offset_end a variable kernel) by allowed in
    let top = high +ℤ (if kernel && last then pos 1 else pos 0) in
    let at_n = bounds_of low top n runs in
    let begins : window_begin a variable ≤ℤ by = subst (λ (b : ℤ). b ≤ℤ by) (same_begin a variable) at_by.0 in
    between (low +ℤ window_begin a variable) (high +ℤ window_end a variable last) (n +ℤ by)
    (moved_above low n (window_begin a variable) by at_n.0 begins)
    (moved_below top n (offset_end a variable kernel) by (high +ℤ window_end a variable last) at_n.1 at_by.1 (ends_fit a variable kernel last high))

-- at a patch of one cell: the least number at which the kernel runs, and the greatest
end_of_kernel : (a : Along) (variable kernel : Bool) (by : ℤ) →
    (pos 0 +ℤ by) <ℤ (pos 1 +ℤ window_end a variable false) →
    (kernel ≡ true → (pos 1 +ℤ by) <ℤ (pos 1 +ℤ window_end a variable true)) → by <ℤ offset_end a variable kernel
end_of_kernel Nothing false false by least greatest = omega (arith, ints)
end_of_kernel Nothing true false by least greatest = omega (arith, ints)
end_of_kernel (Intervals n) variable false by least greatest = omega (arith, ints)
end_of_kernel (Points n) false false by least greatest = omega (arith, ints)
end_of_kernel (Points n) true false by least greatest = omega (arith, ints)
end_of_kernel Own false false by least greatest = omega (arith, ints)
end_of_kernel Own true false by least greatest = omega (arith, ints)
end_of_kernel Nothing false true by least greatest = let g = greatest refl in omega (arith, ints, g)
end_of_kernel Nothing true true by least greatest = let g = greatest refl in omega (arith, ints, g)
end_of_kernel (Intervals n) variable true by least greatest = let g = greatest refl in omega (arith, ints, g)
end_of_kernel (Points n) false true by least greatest = let g = greatest refl in omega (arith, ints, g)
end_of_kernel (Points n) true true by least greatest = let g = greatest refl in omega (arith, ints, g)
end_of_kernel Own false true by least greatest = let g = greatest refl in omega (arith, ints, g)
end_of_kernel Own true true by least greatest = let g = greatest refl in omega (arith, ints, g)

runs_at_first : (kernel : Bool) → runs_at kernel false (pos 0) (pos 1) (pos 0) ≡ true
runs_at_first true = refl
runs_at_first false = refl

is_allowed : (a : Along) (variable kernel : Bool) (by : ℤ) →
    ((low high n : ℤ) (last : Bool) → low <ℤ high → runs_at kernel last low high n ≡ true → is_in_window a variable last low high (n +ℤ by) ≡ true)
    → is_allowed_along a variable kernel by ≡ true
is_allowed a variable kernel by inside =
    let one : pos 0 <ℤ pos 1 = omega (arith, ints) in
    let first = bounds_of (pos 0 +ℤ window_begin a variable) (pos 1 +ℤ window_end a variable false) (pos 0 +ℤ by) (inside (pos 0) (pos 1) (pos 0) false one (runs_at_first kernel)) in
    let begins : window_begin a variable ≤ℤ by = (let f = first.0 in omega (arith, ints, f)) in
    let last : kernel ≡ true → (pos 1 +ℤ by) <ℤ (pos 1 +ℤ window_end a variable true) = λ point.
    (bounds_of (pos 0 +ℤ window_begin a variable) (pos 1 +ℤ window_end a variable true) (pos 1 +ℤ by)
    (inside (pos 0) (pos 1) (pos 1) true one (subst (λ (k : Bool). runs_at k true (pos 0) (pos 1) (pos 1) ≡ true) (sym point) refl))).1 in
    between (offset_begin a variable) (offset_end a variable kernel) by (subst (λ (b : ℤ). b ≤ℤ by) (sym (same_begin a variable)) begins)
    (end_of_kernel a variable kernel by first.1 last)

pub offsets_fit : OffsetsFitWindows
offsets_fit a variable kernel by = (leads_inside a variable kernel by, is_allowed a variable kernel by)
