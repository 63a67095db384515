use Rattle.std.proofs.Common.{◌≡◌, ◌∙◌, ℤ, List, [], ◌∷◌, ◌++◌, ap, sym, subst, append_assoc, append-nil}
use Rattle.std.specs.Prelude.{◌&&◌, IsTrue}
use Rattle.uts_geom.specs.declared.index.Index.{Index}
use Rattle.uts_geom.specs.declared.span.Span.{Span}
use Rattle.uts_geom.specs.Rows.{rows_left}
use Rattle.uts_geom.specs.Spans.{is_inside, rows_of, IsNearSpan}
use Rattle.uts_geom.specs.Near.{meet_near}
use Rattle.field_box.specs.WalkedRows.{row_walked}
use Rattle.field_box.proofs.PartRows.{IsCopied, none_copied, next_copied, all_copied}
use Rattle.field_box.proofs.field.Field.copy_part.Goals as goal
use Rattle.field_box.proofs.field.Field.copy_part.Goals.{After-meet-part}

-- the part is what both spans have in common
common : (c : After-meet-part) → (i : Index) → is_inside c.meet-part.result i ≡ (is_inside c.args.self.now.span i && is_inside c.args.from.now.span i)
common c i =
    c.meet-part.ensures.common i
    ∙ ap (λ (s : Span). is_inside s i && is_inside c.span-other.result i) c.span-span.ensures.span
    ∙ ap (λ (s : Span). is_inside c.args.self.now.span i && is_inside s i) c.span-other.ensures.span

near : (c : After-meet-part) → IsNearSpan c.meet-part.result
near c = rw c.meet-part.ensures.corners (meet_near c.span-span.result c.span-other.result c.span-span.ensures.near c.span-other.ensures.near)

pub rows-at-items-requires : goal.rows-at-items-requires
rows-at-items-requires c = near c

pub loop-at-init : goal.loop-at-init
loop-at-init c = record {
  split = ap rows_left c.into_iter-at-iterator.ensures.into_iter_gives ∙ c.rows-at-items.ensures;
  copied = none_copied c.args.self.now c.args.from.now c.meet-part.result;
}

pub copy_row-requires : goal.copy_row-requires
copy_row-requires c =
    let before = (goal.at.copy_row-requires c).After-meet-part in
    let done = c.loop-at.yielded in
    record {
      near = near before;
      row = row_walked c.meet-part.result done (rows_left c.next.new.self) c.in-Some.at
          (ap (λ (t : List (ℤ × ℤ)). done ++ t) (sym c.in-Some.ensures.steps) ∙ c.loop-at.invariant.split);
      held = λ i inside. subst (λ (s : Span). IsTrue (is_inside s i && is_inside c.args.from.now.span i)) (sym c.loop-at.invariant.copied.span) (sym (common before i) ∙ inside);
    }

pub loop-at-preserved : goal.loop-at-preserved
loop-at-preserved c =
    let done = c.loop-at.yielded in
    record {
      split = append_assoc done (c.in-Some.at ∷ []) (rows_left c.next.new.self)
          ∙ ap (λ (t : List (ℤ × ℤ)). done ++ t) (sym c.in-Some.ensures.steps) ∙ c.loop-at.invariant.split;
      copied = next_copied c.args.self.now c.args.from.now c.meet-part.result done c.in-Some.at c.loop-at.self c.copy_row.new.self
          c.loop-at.invariant.copied c.copy_row.ensures;
    }

pub returns : goal.returns
returns c =
    let before = (goal.at.returns c).After-meet-part in
    let done = c.loop-at.yielded in
    let all : done ≡ rows_of c.meet-part.result =
    sym (append-nil done) ∙ ap (λ (t : List (ℤ × ℤ)). done ++ t) (sym c.in-None.ensures.steps.0) ∙ c.loop-at.invariant.split in
    all_copied c.args.self.now c.args.from.now c.meet-part.result c.loop-at.self
    (subst (λ (rows : List (ℤ × ℤ)). IsCopied c.args.self.now c.args.from.now c.meet-part.result rows c.loop-at.self) all c.loop-at.invariant.copied)
    (common before)
