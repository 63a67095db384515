-- Calls that write to one sink, alone and in turn.
use Rattle.std.proofs.Common.{◌≡◌, ◌∙◌, ℕ, List, [], ◌++◌, Option, Result, Ok, Err, ap, refl, sym, arith, append-nil, ◌∷◌}
use Rattle.std.specs.List.{flat_map}
use Rattle.std.proofs.lemmas.Grind.{flat_map-append}
use Rattle.std.proofs.lemmas.Result.{on_ok_weaker}
use Rattle.uts_io.specs.Streams.{Rose-earlier, grown, NoneChangeNothing, PiecesJoin, grew_both, grown-nil, prefix_of_all, prefix_of_more, prefix_after, prefix_of_nothing}
use Rattle.dump_text.specs.Writing.{Writes}
use Rattle.dump_text.specs.declared.fault.RunFault.{RunFault}
use Rattle.dump_text.specs.declared.fault.RunFault.TheVariants.{SinkFault, NoMemory}

module _ (after : List ℕ → List ℕ → List ℕ) (old new : Option (List ℕ)) (before now : ℕ) where
  -- a call that wrote all
  pub all_written : {T : Type 0} (x : T) (text : List ℕ) → new ≡ grown after old text → now ≡ before →
      Writes after old new before now (Ok x) text
  all_written x text grew same = record {
    all = grew;
    prefix = prefix_of_all after old new text grew;
    calm = same;
    fault = λ h. cc;
    never_falls = omega arith;
  }

  -- a failed call wrote a prefix of more bytes too, and its failure may be handed on
  pub writes_less : {T U : Type 0} (e : RunFault) (r : Result T RunFault) (r' : Result U RunFault) (text rest : List ℕ) →
      r ≡ Err e → r' ≡ Err e → Writes after old new before now r text → Writes after old new before now r' (text ++ rest)
  writes_less e r r' text rest was is w = record {
    all = rw is tt;
    prefix = prefix_of_more rest w.prefix;
    calm = rw is tt;
    fault = λ h. let same : e ≡ SinkFault = cc in w.fault (was ∙ ap Err same);
    never_falls = w.never_falls;
  }

-- a call that failed for want of memory before it wrote
pub nothing_written : (after : List ℕ → List ℕ → List ℕ) (none : NoneChangeNothing after) (old : Option (List ℕ)) (count : ℕ)
    {T : Type 0} (r : Result T RunFault) (text : List ℕ) → r ≡ Err NoMemory → Writes after old old count count r text
nothing_written after none old count r text is = record {
  all = rw is tt;
  prefix = prefix_of_nothing after old text none;
  calm = rw is tt;
  fault = λ h. cc;
  never_falls = omega arith;
}

-- a call that had nothing to write
pub none_written : (after : List ℕ → List ℕ → List ℕ) (none : NoneChangeNothing after) (old : Option (List ℕ)) (count : ℕ)
    {T : Type 0} (x : T) → Writes after old old count count (Ok x) []
none_written after none old count x = all_written after old old count count x [] (sym (grown-nil after old none)) refl

-- a call after some bytes that were written
pub then_writes : (after : List ℕ → List ℕ → List ℕ) (join : PiecesJoin after) (old mid new : Option (List ℕ)) (before between now : ℕ)
    {S T : Type 0} (x : S) (r : Result T RunFault) (a b : List ℕ) → Writes after old mid before between (Ok x) a →
    Writes after mid new between now r b → Writes after old new before now r (a ++ b)
then_writes after join old mid new before between now x r a b first w = record {
  all = on_ok_weaker r (λ then. grew_both after old mid new a b join first.all then) w.all;
  prefix = prefix_after old a join first.all w.prefix;
  calm = on_ok_weaker r (λ calm. calm ∙ first.calm) w.calm;
  fault = λ h. Rose-earlier before between now first.never_falls (w.fault h);
  never_falls = omega (arith, first.never_falls, w.never_falls);
}

-- the texts of the first items of a list, and then of one more
module _ (after : List ℕ → List ℕ → List ℕ) (join : PiecesJoin after) (old mid new : Option (List ℕ)) (before between now : ℕ)
    {S T X : Type 0} (x : S) (r : Result T RunFault) (text : X → List ℕ) (done : List X) (item : X)
    (first : Writes after old mid before between (Ok x) (flat_map text done)) (then : Writes after mid new between now r (text item)) where
  pub writes_next : Writes after old new before now r (flat_map text (done ++ item ∷ []))
  writes_next =
      rw (flat_map-append text done (item ∷ []), append-nil (text item))
      (then_writes after join old mid new before between now x r (flat_map text done) (text item) first then)

  -- it failed, and more items follow
  pub writes_stopped : {U : Type 0} (e : RunFault) (r' : Result U RunFault) (whole rest : List X) → whole ≡ (done ++ item ∷ []) ++ rest →
      r ≡ Err e → r' ≡ Err e → Writes after old new before now r' (flat_map text whole)
  writes_stopped e r' whole rest is was failed =
      rw (is, flat_map-append text (done ++ item ∷ []) rest)
      (writes_less after old new before now e r r' (flat_map text (done ++ item ∷ [])) (flat_map text rest) was failed writes_next)
