-- A task lowers what it used only when it has published, so a slot whose writer has not published keeps a use.
use Rattle.std.proofs.Common.{◌≡◌, ◌∙◌, ◌≤◌, ◌<◌, ℕ, zero, suc, Bool, true, false, cond, not, List, [], ◌∷◌, ◌++◌, take, ◌⊎◌, inl, inr, length, ap, sym, refl, subst, arith}
use Rattle.std.specs.Prelude.{◌||◌, ◌&&◌, ◌==◌, nat_lt, slice_index}
use Rattle.std.specs.List.{flat_map, list_any}
use Rattle.std.proofs.lemmas.Bool.{false≢true, cases_lt, and_from, and_left, and_parts, or_right, ne_eqb, eq-eqb}
use Rattle.std.proofs.lemmas.List.{get_or_past}
use Rattle.std.proofs.lemmas.List.Elements.{All-get_or}
use Rattle.std.proofs.lemmas.List.Sums.{sum_by-le-sum_by}
use Rattle.graph_types.specs.declared.graph.Graph.{Graph}
use Rattle.graph_types.specs.Counting.{count_one}
use Rattle.graph_types.specs.Graph.{reads_of, reads, writes}
use Rattle.sched_core.specs.declared.act.Act.{Act}
use Rattle.sched_core.specs.declared.act.Act.TheVariants.{Publishes, Finishes}
use Rattle.sched_core.specs.declared.view.View.{View}
use Rattle.sched_core.specs.declared.view.View.TheVariants as view
use Rattle.sched_core.specs.declared.state.Core.{Core}
use Rattle.sched_core.specs.Core.{reading, lowering, script, has_behind, places_behind, number_behind, is_behind, publishes, lowers_use}
use Rattle.sched_core.specs.Sound.{IsSound, is_unwritten}
use Rattle.sched_core.proofs.Lists.{any_found}
use Rattle.sched_core.proofs.Scripts.{reads_lower_no_use}
use Rattle.sched_core.proofs.Facts.{behind_runs, zero_or_more, one_or_less}

-- an act that stands behind another one only
in_order : (p q : Act → Bool) (front : List Act) (mark : Act) (rest : List Act) (n : ℕ) → list_any q front ≡ false → p mark ≡ true →
    list_any q (take n (front ++ (mark ∷ rest))) ≡ true → list_any p (take n (front ++ (mark ∷ rest))) ≡ true
in_order p q [] mark rest zero none met h = absurd (false≢true h)
in_order p q [] mark rest (suc n) none met h = ap (λ (b : Bool). b || list_any p (take n rest)) met
in_order p q (x ∷ front) mark rest zero none met h = absurd (false≢true h)
in_order p q (x ∷ front) mark rest (suc n) none met h = by_test (q x) refl (in_order p q front mark rest n) where
  by_test : (b : Bool) → q x ≡ b → (list_any q front ≡ false → p mark ≡ true → list_any q (take n (front ++ (mark ∷ rest))) ≡ true → list_any p (take n (front ++ (mark ∷ rest))) ≡ true) →
      (p x || list_any p (take n (front ++ (mark ∷ rest)))) ≡ true
  by_test true e ih = absurd (false≢true (sym none ∙ ap (λ (b : Bool). b || list_any q front) e))
  by_test false e ih = or_right (p x) _ (ih (sym (ap (λ (b : Bool). b || list_any q front) e) ∙ none) met (sym (ap (λ (b : Bool). b || list_any q (take n (front ++ (mark ∷ rest)))) e) ∙ h))

-- an act that is not among the reads stands behind the one that publishes
abbrev pub IsBehindReads : (Act → Bool) → Type 0
IsBehindReads test = (reads : List ℕ) → list_any test (flat_map reading reads) ≡ false

pub publishes_first : (g : Graph) (test : Act → Bool) → IsBehindReads test → (task n : ℕ) → list_any test (take n (script g task)) ≡ true → list_any publishes (take n (script g task)) ≡ true
unfolding script
publishes_first g test late task n h =
    in_order publishes test (flat_map reading (reads_of g task)) Publishes (lowering g task ++ (Finishes ∷ [])) n (late (reads_of g task)) refl h

-- a seat that has such an act behind it has published its task
lowered_published : (g : Graph) (views : List View) (test : Act → Bool) → IsBehindReads test → (task : ℕ) → number_behind g views test task ≤ number_behind g views publishes task
lowered_published g views test late task = sum_by-le-sum_by (λ v. cond (has_behind g test task v) 1 0) (λ v. cond (has_behind g publishes task v) 1 0) views each where
  too : (v : View) → has_behind g test task v ≡ true → has_behind g publishes task v ≡ true
  too (view.Running t at owed) h =
      let parts = and_parts (t == task) _ h in
      and_from (t == task) _ parts.0 (publishes_first g test late t (places_behind at owed) parts.1)
  too _ h = absurd (false≢true h)

  each : (v : View) → cond (has_behind g test task v) 1 0 ≤ cond (has_behind g publishes task v) 1 0
  each v = one_or_less (has_behind g publishes task v) (has_behind g test task v) (too v)

module _ (c : Core) (sound : IsSound c) where
  word_le : (task : ℕ) → slice_index c.published task ≤ 1
  word_le task = by_order (cases_lt task (length c.published)) where
    by_order : (task < length c.published) ⊎ (length c.published ≤ task) → slice_index c.published task ≤ 1
    by_order (inl lt) = All-get_or (λ word. word ≤ 1) c.published task 0 lt sound.shapes.published_words
    by_order (inr le) = subst (λ (n : ℕ). n ≤ 1) (sym (get_or_past c.published task 0 le)) (omega arith)

  -- a task that has not published has no such act behind it
  pub unpublished_keeps : (test : Act → Bool) → IsBehindReads test → (task : ℕ) → (slice_index c.published task ≡ 1 → ⊥) → is_behind c.graph c.published c.views test task ≡ false
  unpublished_keeps test late task unread =
      ap (λ (b : Bool). b || nat_lt 0 (number_behind c.graph c.views test task)) (and_left _ _ (ne_eqb _ _ unread))
      ∙ ap (nat_lt 0) none
    where
      none : number_behind c.graph c.views test task ≡ 0
      none = by_number (zero_or_more (number_behind c.graph c.views test task)) where
        by_number : (number_behind c.graph c.views test task ≡ 0) ⊎ (1 ≤ number_behind c.graph c.views test task) → number_behind c.graph c.views test task ≡ 0
        by_number (inl e) = e
        by_number (inr some) =
            let published = lowered_published c.graph c.views test late task in
            let told = sound.running.told task (omega (arith, behind_runs c.graph c.views test task)) in
            absurd (unread (omega (arith, word_le task)))

  pub unwritten_keeps : (slot : ℕ) → slot < c.graph.slots → is_unwritten c.graph c.published slot ≡ true → 1 ≤ slice_index c.left slot
  unwritten_keeps slot within h =
      let found = any_found (λ t. writes c.graph t slot && not (slice_index c.published t == 1)) c.graph.tasks h in
      let parts = and_parts (writes c.graph found.0 slot) (not (slice_index c.published found.0 == 1)) found.2 in
      let unread : slice_index c.published found.0 ≡ 1 → ⊥ = λ e. false≢true (sym (ap not (eq-eqb _ _ e)) ∙ parts.1) in
      let counts = count_one (λ t. (reads c.graph t slot || writes c.graph t slot) && not (is_behind c.graph c.published c.views (lowers_use slot) t)) c.graph.tasks found.0 found.1
      (and_from _ _ (or_right (reads c.graph found.0 slot) (writes c.graph found.0 slot) parts.0) (ap not (unpublished_keeps (lowers_use slot) (reads_lower_no_use slot) found.0 unread))) in
      omega (arith, counts, sound.uses.counts slot within)
