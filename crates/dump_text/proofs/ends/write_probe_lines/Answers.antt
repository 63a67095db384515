use Rattle.std.proofs.Common.{◌≡◌, ◌∙◌, ◌<◌, ℕ, ◌+◌, List, [], ◌∷◌, ◌++◌, Option, Result, Err, ap, sym, refl, subst, map, length, take, drop, get_or, arith}
use Rattle.std.specs.List.{flat_map}
use Rattle.std.proofs.Math.Seq.{take-length}
use Rattle.std.proofs.lemmas.List.{take_more, take-append-drop, map-append}
use Rattle.std.proofs.lemmas.Result.{err_from_is_err_and}
use Rattle.dump_text.specs.Showing.{probe_line}
use Rattle.dump_text.specs.Writing.{Writes}
use Rattle.dump_text.specs.declared.fault.RunFault.{RunFault}
use Rattle.dump_text.specs.Written.{none_written, writes_next, writes_stopped}
use Rattle.dump_text.proofs.ends.write_probe_lines.Goals as goal

-- the texts of the items before a place, and of the one there
next_text : {X Y : Type 0} (f : X → Y) (xs : List X) (k : ℕ) (x : X) → x ≡ get_or xs k x → k < length xs →
    map f (take (k + 1) xs) ≡ map f (take k xs) ++ f x ∷ []
next_text f xs k x is below =
    ap (map f) (take_more xs k x below ∙ ap (λ y. take k xs ++ y ∷ []) (sym is)) ∙ map-append f (take k xs) (x ∷ [])

-- and of those behind it
texts_in_parts : {X Y : Type 0} (f : X → Y) (all xs : List X) (k : ℕ) (x : X) → xs ≡ all → x ≡ get_or xs k x → k < length xs →
    map f all ≡ (map f (take k xs) ++ f x ∷ []) ++ map f (drop (k + 1) xs)
texts_in_parts f all xs k x same is below =
    ap (map f) (sym same ∙ sym (take-append-drop (k + 1) xs)) ∙ map-append f (take (k + 1) xs) (drop (k + 1) xs)
    ∙ ap (λ t. t ++ map f (drop (k + 1) xs)) (next_text f xs k x is below)

-- the lines of all items
all_lines : {X : Type 0} {after : List ℕ → List ℕ → List ℕ} {old new : Option (List ℕ)} {before now : ℕ} {r : Result (Unit {0}) RunFault}
    (f : X → List ℕ) (all xs : List X) (k : ℕ) → xs ≡ all → k ≡ length xs →
    Writes after old new before now r (flat_map probe_line (map f (take k xs))) →
    Writes after old new before now r (flat_map probe_line (map f all))
all_lines {X} {after} {old} {new} {before} {now} {r} f all xs k same end written =
    subst (λ t. Writes after old new before now r (flat_map probe_line (map f t))) (ap (λ n. take n xs) end ∙ take-length xs ∙ same) written

pub loop-probe-init : goal.loop-probe-init
loop-probe-init g c = record { written = none_written g.O.Sink.after g.met.O.Sink.after_none _ _ tt }

pub loop-probe-preserved : goal.loop-probe-preserved
loop-probe-preserved g c =
    let k = c.loop-probe.probe-index in
    let items = c.deref-probe-items.result.now in
    record {
      written = rw (next_text _ items k c.probe-item.result c.probe-item.is (omega arith))
          (writes_next g.O.Sink.after g.met.O.Sink.after_both _ _ _ _ _ _ tt _ probe_line (map _ (take k items)) _ c.loop-probe.invariant.written
          c.in_ok-write_probe_line.ensures);
    }

pub returns-in_err-write_probe_line : goal.returns-in_err-write_probe_line
returns-in_err-write_probe_line g c =
    let p = err_from_is_err_and c.from_residual.result c.from_residual.ensures.1 in
    let k = c.loop-probe.probe-index in
    let items = c.deref-probe-items.result.now in
    writes_stopped g.O.Sink.after g.met.O.Sink.after_both _ _ _ _ _ _ tt _ probe_line (map _ (take k items)) _ c.loop-probe.invariant.written
    c.in_err-write_probe_line.ensures c.in_err-write_probe_line.field-0.0 _ (map _ c.args.probes.now.items) (map _ (drop (k + 1) items))
    (texts_in_parts _ c.args.probes.now.items items k c.probe-item.result c.deref-probe-items.ensures.value c.probe-item.is (omega arith))
    refl (p.1 ∙ ap Err p.2)

pub returns : goal.returns
returns g c =
    all_lines _ c.args.probes.now.items c.deref-probe-items.result.now c.loop-probe.probe-index c.deref-probe-items.ensures.value (omega arith)
    c.loop-probe.invariant.written
