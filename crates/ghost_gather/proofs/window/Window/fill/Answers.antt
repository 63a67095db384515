use Rattle.std.proofs.Common.{◌≡◌, ◌∙◌, ◌+◌, ◌-◌, ◌++◌, ℕ, ℤ, pos, ◌+ℤ◌, List, min, length, map, take, drop, replicate, ap, sym, subst, rules, arith, true, false, w64, FitsSigned}
use Rattle.std.specs.Int.{int_gap}
use Rattle.std.proofs.lemmas.Int.{to_z-of_z}
use Rattle.std.proofs.lemmas.List.{length-map, length-replicate}
use Rattle.uts_geom.specs.declared.index.Index.{Index}
use Rattle.uts_geom.specs.Spans.{index, is_inside}
use Rattle.uts_geom.specs.ByPlace.{length-by_place}
use Rattle.field_box.specs.Fields.{HoldsAlong, along, number_at}
use Rattle.ghost_gather.specs.Windows.{WindowData, number_seen}
use Rattle.ghost_gather.proofs.Filled.{below_end, none_between, row_beside, is_stored, put_between}
use Rattle.ghost_gather.proofs.window.Window.fill.Goals as goal
use Rattle.ghost_gather.proofs.window.Window.fill.Goals.{After-gap-stop, After-stretch}

-- what is known once both bounds are
record Known (c : After-gap-stop) : Type 0 where
  held : HoldsAlong c.self.inside.span c.args.from (length c.args.out.now)
  begins : c.gap-before.result ≡ min (int_gap c.args.from.x c.self.inside.space.lo.x) (length c.args.out.now)
  ends : c.gap-stop.result ≡ min (int_gap c.args.from.x c.self.inside.space.hi.x) (length c.args.out.now)
  blank : c.fill_with.new.out ≡ replicate (length c.args.out.now) c.self.inside.outside

known : (c : After-gap-stop) → Known c
known c =
    let w = c.self.inside in
    let fits_x : FitsSigned w64 c.args.from.x = search rules in
    let fits_low : FitsSigned w64 w.space.lo.x = search rules in
    let fits_high : FitsSigned w64 w.space.hi.x = search rules in
    let fits_outside : FitsSigned w64 w.outside = search rules in
    let blank : c.fill_with.new.out ≡ replicate (length c.args.out.now) w.outside = simp to_z-of_z at c.fill_with.ensures in
    let same : length c.fill_with.new.out ≡ length c.args.out.now = ap length blank ∙ length-replicate (length c.args.out.now) w.outside in
    record {
      held = subst (λ (v : WindowData). HoldsAlong v.span c.args.from (length c.args.out.now)) (sym c.self.view_is) c.requires;
      begins = (simp to_z-of_z at c.gap-before.ensures) ∙ ap (λ (m : ℕ). min (int_gap c.args.from.x w.space.lo.x) m) same;
      ends = (simp to_z-of_z at c.gap-stop.ensures) ∙ ap (λ (m : ℕ). min (int_gap c.args.from.x w.space.hi.x) m) same;
      blank = blank;
    }

pub moved_along-first-requires : goal.moved_along-first-requires
moved_along-first-requires c =
    let k = known (goal.at.moved_along-first-requires c).After-gap-stop in
    record {
      near = below_end c.args.from.x c.self.inside.space.hi.x (length c.args.out.now) c.gap-stop.result c.gap-before.result k.ends c.if-before-stop.false
          c.self.invariant.near_space.hi.x;
      short = omega (arith, k.ends);
    }

pub stretch-requires : goal.stretch-requires
stretch-requires c =
    let before = (goal.at.stretch-requires c).After-gap-stop in
    let k = known before in
    let w = c.self.inside in
    let first = c.moved_along-first.ensures in
    let within : is_inside w.space (index (c.args.from.x +ℤ pos c.gap-before.result) c.args.from.y c.args.from.z) ≡ true =
    ap (is_inside w.space) (sym first) ∙ sym c.if-not-contains.ensures in
    subst (λ (i : Index). HoldsAlong w.stored.span i (c.gap-stop.result - c.gap-before.result)) (sym first)
    (is_stored (record { span = w.span; space = w.space; outside = w.outside; stored = w.stored }) c.self.invariant c.args.from (length c.args.out.now)
    c.gap-before.result c.gap-stop.result k.held k.begins k.ends c.if-before-stop.false within)

length_read : (c : After-stretch) → length c.stretch.result.now ≡ c.gap-stop.result - c.gap-before.result
length_read c =
    let n = c.gap-stop.result - c.gap-before.result in
    ap length c.stretch.ensures
    ∙ length-map (along c.moved_along-first.result n) (number_at c.self.inside.stored)
    ∙ length-by_place (λ j. index (c.moved_along-first.result.x +ℤ pos j) c.moved_along-first.result.y c.moved_along-first.result.z) n

pub copy_over-requires : goal.copy_over-requires
copy_over-requires c =
    let k = known (goal.at.copy_over-requires c).After-gap-stop in
    omega (
      arith,
      length_read (goal.at.copy_over-requires c).After-stretch,
      ap length k.blank,
      length-replicate (length c.args.out.now) c.self.inside.outside,
      k.ends,
      c.if-before-stop.false,
    )

pub returns-then-before-stop : goal.returns-then-before-stop
returns-then-before-stop c =
    let k = known (goal.at.returns-then-before-stop c).After-gap-stop in
    let w = c.self.inside in
    let n = length c.args.out.now in
    k.blank
    ∙ none_between (record { span = w.span; space = w.space; outside = w.outside; stored = w.stored }) c.self.invariant c.args.from n
    c.gap-before.result c.gap-stop.result k.held k.begins k.ends c.if-before-stop.true
    ∙ ap (λ (v : WindowData). map (number_seen v) (along c.args.from n)) c.self.view_is

pub returns-then-not-contains : goal.returns-then-not-contains
returns-then-not-contains c =
    let k = known (goal.at.returns-then-not-contains c).After-gap-stop in
    let w = c.self.inside in
    let n = length c.args.out.now in
    let beside : is_inside w.space (index (c.args.from.x +ℤ pos c.gap-before.result) c.args.from.y c.args.from.z) ≡ false =
    ap (is_inside w.space) (sym c.moved_along-first.ensures) ∙ sym c.if-not-contains.ensures in
    k.blank
    ∙ row_beside (record { span = w.span; space = w.space; outside = w.outside; stored = w.stored }) c.self.invariant c.args.from n
    c.gap-before.result c.gap-stop.result k.held k.begins k.ends c.if-before-stop.false beside
    ∙ ap (λ (v : WindowData). map (number_seen v) (along c.args.from n)) c.self.view_is

pub returns : goal.returns
returns c =
    let k = known (goal.at.returns c).After-gap-stop in
    let w = c.self.inside in
    let n = length c.args.out.now in
    let before = c.gap-before.result in
    let stop = c.gap-stop.result in
    let part = c.stretch.result.now in
    let first = c.moved_along-first.ensures in
    let within : is_inside w.space (index (c.args.from.x +ℤ pos before) c.args.from.y c.args.from.z) ≡ true =
    ap (is_inside w.space) (sym first) ∙ sym c.if-not-contains.ensures in
    let read : part ≡ map (number_at w.stored) (along (index (c.args.from.x +ℤ pos before) c.args.from.y c.args.from.z) (stop - before)) =
    c.stretch.ensures ∙ ap (λ (i : Index). map (number_at w.stored) (along i (stop - before))) first in
    c.copy_over.ensures
    ∙ ap (λ (out : List ℤ). take before out ++ (part ++ drop (before + length part) out)) k.blank
    ∙ put_between (record { span = w.span; space = w.space; outside = w.outside; stored = w.stored }) c.self.invariant c.args.from n
    before stop k.held k.begins k.ends c.if-before-stop.false within part read
    ∙ ap (λ (v : WindowData). map (number_seen v) (along c.args.from n)) c.self.view_is
