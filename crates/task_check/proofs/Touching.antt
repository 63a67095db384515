-- Counts of the patches that windows touch.
use Rattle.std.proofs.Common.{◌≡◌, ◌∙◌, ◌+◌, ◌≤◌, ℕ, Bool, true, false, cond, Option, Some, length, ap, sym, refl, arith}
use mir.Val.{bool_byte}
use Rattle.std.specs.Prelude.{◌&&◌, IsFalse, int_lt, slice_get}
use Rattle.std.specs.Int.{int_max, int_min}
use Rattle.std.specs.List.{count_by, sum_by}
use Rattle.std.specs.Option.{option_map_or}
use Rattle.uts_geom.specs.Spans.{counted, do_meet}
use Rattle.uts_geom.specs.declared.centring.Centring.{Centring}
use Rattle.uts_geom.specs.declared.span.Span.{Span}
use Rattle.problem_types.specs.declared.problem.Problem.{Problem}
use Rattle.problem_types.specs.declared.problem.Level.{Level}
use Rattle.task_check.specs.declared.plan.reach.Reach.{Reach}
use Rattle.task_check.specs.Reaches.{reached_level, reach_window, touched_count, touch_count}
use Rattle.task_check.proofs.Sums.{sum-counted_more}

first_false : (a b : Bool) → a ≡ false → (a && b) ≡ false
first_false a b is = rw is refl

second_false : (a b : Bool) → b ≡ false → (a && b) ≡ false
second_false true b is = is
second_false false b is = refl

-- spans that are apart on an axis do not meet
pub apart_on_x : (a b : Span) → IsFalse (int_lt (int_max a.lo.x b.lo.x) (int_min a.hi.x b.hi.x)) → IsFalse (do_meet a b)
apart_on_x a b x = first_false _ (int_lt (int_max a.lo.y b.lo.y) (int_min a.hi.y b.hi.y) && int_lt (int_max a.lo.z b.lo.z) (int_min a.hi.z b.hi.z)) x

pub apart_on_y : (a b : Span) → IsFalse (int_lt (int_max a.lo.y b.lo.y) (int_min a.hi.y b.hi.y)) → IsFalse (do_meet a b)
apart_on_y a b y = second_false (int_lt (int_max a.lo.x b.lo.x) (int_min a.hi.x b.hi.x)) _ (first_false _ (int_lt (int_max a.lo.z b.lo.z) (int_min a.hi.z b.hi.z)) y)

pub apart_on_z : (a b : Span) → IsFalse (int_lt (int_max a.lo.z b.lo.z) (int_min a.hi.z b.hi.z)) → IsFalse (do_meet a b)
apart_on_z a b z =
    second_false (int_lt (int_max a.lo.x b.lo.x) (int_min a.hi.x b.hi.x)) _ (second_false (int_lt (int_max a.lo.y b.lo.y) (int_min a.hi.y b.hi.y)) _ z)

-- one more number
pub count_more : (p : ℕ → Bool) (k n : ℕ) (b : Bool) → n ≡ count_by p (counted 0 k) → b ≡ p k → n + cond b 1 0 ≡ count_by p (counted 0 (k + 1))
count_more p k n b before here =
    ap (λ m. m + cond b 1 0) before
    ∙ ap (λ (t : Bool). count_by p (counted 0 k) + cond t 1 0) here
    ∙ sym (sum-counted_more (λ m. cond (p m) 1 0) k)

pub sum_more : (f : ℕ → ℕ) (k n m : ℕ) → n ≡ sum_by f (counted 0 k) → m ≡ f k → n + m ≡ sum_by f (counted 0 (k + 1))
sum_more f k n m before here =
    ap (λ i. i + m) before
    ∙ ap (λ i. sum_by f (counted 0 k) + i) here
    ∙ sym (sum-counted_more f k)

-- the count, where both levels are there
pub touch_count_is : (p : Problem) (level : ℕ) (reach : Reach) (c : Centring) (l wanted : Level) → slice_get p.levels level ≡ Some l →
    slice_get p.levels (reached_level reach level) ≡ Some wanted →
    touch_count p level reach c ≡ sum_by (λ patch. touched_count c wanted (reach_window p reach c level l patch)) (counted 0 (length l.patches))
touch_count_is p level reach c l wanted at at_wanted =
    ap (λ (o : Option Level). option_map_or (λ (here : Level). option_map_or (λ (other : Level).
    sum_by (λ patch. touched_count c other (reach_window p reach c level here patch)) (counted 0 (length here.patches)))
    (slice_get p.levels (reached_level reach level)) 0) o 0) at
    ∙ ap (λ (o : Option Level). option_map_or (λ (other : Level).
    sum_by (λ patch. touched_count c other (reach_window p reach c level l patch)) (counted 0 (length l.patches))) o 0) at_wanted

pub one_at_most : (b : Bool) → cond b 1 0 ≤ 1
one_at_most true = omega arith
one_at_most false = omega arith

-- a truth value as a number
pub byte_is : (b : Bool) → bool_byte b ≡ cond b 1 0
byte_is true = refl
byte_is false = refl
