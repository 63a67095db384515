-- The order of acts in a script.
use Rattle.std.proofs.Common.{◌≡◌, ◌∙◌, ℕ, zero, suc, Bool, true, false, List, [], ◌∷◌, ◌++◌, map, take, Some, ap, sym, refl, append_assoc}
use Rattle.std.specs.Prelude.{◌||◌, ◌==◌, slice_get}
use Rattle.std.specs.List.{flat_map, list_any}
use Rattle.std.proofs.Math.Bool.{or-false, or-true}
use Rattle.std.proofs.lemmas.Bool.{false≢true, or_from, or_left, or_parts, or_right}
use Rattle.std.proofs.lemmas.List.Folds.{list_any-append}
use Rattle.std.proofs.lemmas.Option.{none-some, same_Some}
use Rattle.graph_types.specs.declared.graph.Graph.{Graph}
use Rattle.graph_types.specs.Graph.{reads_of, writes_of, successors_of, has}
use Rattle.sched_core.specs.declared.act.Act.{Act}
use Rattle.sched_core.specs.declared.act.Act.TheVariants.{Opens, Closes, Publishes, LowersUse, LowersSuccessor, Finishes}
use Rattle.sched_core.specs.declared.view.Due.TheVariants as due
use Rattle.sched_core.specs.Core.{reading, lowering, script, act_passes, closes, publishes, lowers_use, lowers_successor}
use Rattle.sched_core.specs.Sound.{may_owe}

-- what stands at a place is among a list
pub stands_in : (test : Act → Bool) (acts : List Act) (at : ℕ) (act : Act) → slice_get acts at ≡ Some act → test act ≡ true → list_any test acts ≡ true
stands_in test [] at act h met = absurd (none-some act h)
stands_in test (x ∷ acts) zero act h met = or_left (test x) (list_any test acts) (ap test (same_Some x act h) ∙ met)
stands_in test (x ∷ acts) (suc at) act h met = or_right (test x) (list_any test acts) (stands_in test acts at act h met)

-- where one act alone passes a test, the acts before its place are those in front of it
pub before_only : (test : Act → Bool) (front : List Act) (only : Act) (rest : List Act) (act : Act) (at : ℕ) → list_any test front ≡ false → list_any test rest ≡ false → test act ≡ true →
    slice_get (front ++ (only ∷ rest)) at ≡ Some act → take at (front ++ (only ∷ rest)) ≡ front
before_only test [] only rest act zero front_none rest_none met h = refl
before_only test [] only rest act (suc at) front_none rest_none met h = absurd (false≢true (sym rest_none ∙ stands_in test rest at act h met))
before_only test (x ∷ front) only rest act zero front_none rest_none met h =
    absurd (false≢true (sym front_none ∙ stands_in test (x ∷ front) 0 act h met))
before_only test (x ∷ front) only rest act (suc at) front_none rest_none met h =
    ap (λ (acts : List Act). x ∷ acts) (before_only test front only rest act at (or_parts (test x) (list_any test front) front_none).1 rest_none met h)

-- A script begins with an act that closes nothing.
begins : (slot : ℕ) (reads : List ℕ) (rest : List Act) →
    (may_owe due.Nothing (slice_get (flat_map reading reads ++ (Publishes ∷ rest)) 0) ≡ true) × (act_passes (closes slot) (slice_get (flat_map reading reads ++ (Publishes ∷ rest)) 0) ≡ false)
begins slot [] rest = (refl, refl)
begins slot (read ∷ reads) rest = (refl, refl)

pub has_first : (g : Graph) (task : ℕ) → may_owe due.Nothing (slice_get (script g task) 0) ≡ true
unfolding script
has_first g task = (begins 0 (reads_of g task) (lowering g task ++ (Finishes ∷ []))).0

pub first_opens : (g : Graph) (task slot : ℕ) → act_passes (closes slot) (slice_get (script g task) 0) ≡ false
unfolding script
first_opens g task slot = (begins slot (reads_of g task) (lowering g task ++ (Finishes ∷ []))).1

-- What no act of a kind passes, none of them passes: of those that open and close, and of those that lower.
pub none_reading : (test : Act → Bool) → ((slot : ℕ) → test (Opens slot) ≡ false) → ((slot : ℕ) → test (Closes slot) ≡ false) → (reads : List ℕ) → list_any test (flat_map reading reads) ≡ false
none_reading test no_open no_close [] = refl
none_reading test no_open no_close (slot ∷ reads) =
    or_from (test (Opens slot)) (test (Closes slot) || list_any test (flat_map reading reads)) (no_open slot)
    (or_from (test (Closes slot)) (list_any test (flat_map reading reads)) (no_close slot) (none_reading test no_open no_close reads))

none_made : (test : Act → Bool) (make : ℕ → Act) → ((n : ℕ) → test (make n) ≡ false) → (numbers : List ℕ) → list_any test (map make numbers) ≡ false
none_made test make none [] = refl
none_made test make none (n ∷ numbers) = or_from (test (make n)) (list_any test (map make numbers)) (none n) (none_made test make none numbers)

module _ (g : Graph) (task : ℕ) (test : Act → Bool) (no_use : (slot : ℕ) → test (LowersUse slot) ≡ false) (no_successor : (t : ℕ) → test (LowersSuccessor t) ≡ false) where
  none_lowering : list_any test (lowering g task) ≡ false
  none_lowering =
      list_any-append test (map LowersUse (reads_of g task ++ writes_of g task)) (map LowersSuccessor (successors_of g task))
      ∙ or_from (list_any test (map LowersUse (reads_of g task ++ writes_of g task))) (list_any test (map LowersSuccessor (successors_of g task)))
      (none_made test LowersUse no_use (reads_of g task ++ writes_of g task)) (none_made test LowersSuccessor no_successor (successors_of g task))

  -- behind the act that publishes, and with it
  pub none_late : test Finishes ≡ false → list_any test (lowering g task ++ (Finishes ∷ [])) ≡ false
  none_late no_end =
      list_any-append test (lowering g task) (Finishes ∷ [])
      ∙ or_from (list_any test (lowering g task)) (test Finishes || false) none_lowering (or_from (test Finishes) false no_end refl)

  pub none_behind_reads : test Publishes ≡ false → test Finishes ≡ false → list_any test (Publishes ∷ (lowering g task ++ (Finishes ∷ []))) ≡ false
  none_behind_reads no_publish no_end = or_from (test Publishes) (list_any test (lowering g task ++ (Finishes ∷ []))) no_publish (none_late no_end)

-- Only the last act finishes.
finishes : Act → Bool
finishes Finishes = true
finishes _ = false

-- all but the last act
pub body : Graph → ℕ → List Act
body g task = flat_map reading (reads_of g task) ++ (Publishes ∷ lowering g task)

pub script_body : (g : Graph) (task : ℕ) → script g task ≡ body g task ++ (Finishes ∷ [])
unfolding script body
script_body g task = sym (append_assoc (flat_map reading (reads_of g task)) (Publishes ∷ lowering g task) (Finishes ∷ []))

body_ends_not : (g : Graph) (task : ℕ) → list_any finishes (body g task) ≡ false
unfolding body finishes
body_ends_not g task =
    list_any-append finishes (flat_map reading (reads_of g task)) (Publishes ∷ lowering g task)
    ∙ or_from (list_any finishes (flat_map reading (reads_of g task))) (list_any finishes (lowering g task))
    (none_reading finishes (λ slot. refl) (λ slot. refl) (reads_of g task)) (none_lowering g task finishes (λ slot. refl) (λ t. refl))

-- a task that is about to finish has all else behind it
pub behind_end : (g : Graph) (task at : ℕ) → slice_get (script g task) at ≡ Some Finishes → take at (script g task) ≡ body g task
unfolding finishes
behind_end g task at h =
    ap (take at) (script_body g task)
    ∙ before_only finishes (body g task) Finishes [] Finishes at (body_ends_not g task) refl refl (sym (ap (λ (acts : List Act). slice_get acts at) (script_body g task)) ∙ h)

-- a task that is about to publish has its reads behind it
pub no_publish_reading : (reads : List ℕ) → list_any publishes (flat_map reading reads) ≡ false
no_publish_reading reads = none_reading publishes (λ slot. refl) (λ slot. refl) reads

pub behind_publish : (g : Graph) (task at : ℕ) → slice_get (script g task) at ≡ Some Publishes → take at (script g task) ≡ flat_map reading (reads_of g task)
unfolding script
behind_publish g task at h =
    before_only publishes (flat_map reading (reads_of g task)) Publishes (lowering g task ++ (Finishes ∷ [])) Publishes at (no_publish_reading (reads_of g task))
    (none_late g task publishes (λ slot. refl) (λ t. refl) refl) refl h

pub body_publishes : (g : Graph) (task : ℕ) → list_any publishes (body g task) ≡ true
unfolding body
body_publishes g task =
    list_any-append publishes (flat_map reading (reads_of g task)) (Publishes ∷ lowering g task)
    ∙ or-true (list_any publishes (flat_map reading (reads_of g task)))

-- what a task lowers stands in its script
any_made : (test : Act → Bool) (make : ℕ → Act) (numbers : List ℕ) → list_any test (map make numbers) ≡ list_any (λ n. test (make n)) numbers
any_made test make [] = refl
any_made test make (n ∷ numbers) = ap (λ (b : Bool). test (make n) || b) (any_made test make numbers)

pub reads_lower_no_use : (slot : ℕ) (reads : List ℕ) → list_any (lowers_use slot) (flat_map reading reads) ≡ false
reads_lower_no_use slot reads = none_reading (lowers_use slot) (λ s. refl) (λ s. refl) reads

pub reads_lower_none : (task : ℕ) (reads : List ℕ) → list_any (lowers_successor task) (flat_map reading reads) ≡ false
reads_lower_none task reads = none_reading (lowers_successor task) (λ s. refl) (λ s. refl) reads

pub body_uses : (g : Graph) (task slot : ℕ) → list_any (lowers_use slot) (body g task) ≡ (has (reads_of g task) slot || has (writes_of g task) slot)
unfolding body
body_uses g task slot =
    list_any-append (lowers_use slot) (flat_map reading (reads_of g task)) (Publishes ∷ lowering g task)
    ∙ ap (λ (b : Bool). b || list_any (lowers_use slot) (lowering g task)) (reads_lower_no_use slot (reads_of g task))
    ∙ list_any-append (lowers_use slot) (map LowersUse (reads_of g task ++ writes_of g task)) (map LowersSuccessor (successors_of g task))
    ∙ ap (λ (b : Bool). list_any (lowers_use slot) (map LowersUse (reads_of g task ++ writes_of g task)) || b) (none_made (lowers_use slot) LowersSuccessor (λ t. refl) (successors_of g task))
    ∙ or-false (list_any (lowers_use slot) (map LowersUse (reads_of g task ++ writes_of g task)))
    ∙ any_made (lowers_use slot) LowersUse (reads_of g task ++ writes_of g task)
    ∙ list_any-append (λ m. m == slot) (reads_of g task) (writes_of g task)

pub body_successors : (g : Graph) (task successor : ℕ) → list_any (lowers_successor successor) (body g task) ≡ has (successors_of g task) successor
unfolding body
body_successors g task successor =
    list_any-append (lowers_successor successor) (flat_map reading (reads_of g task)) (Publishes ∷ lowering g task)
    ∙ ap (λ (b : Bool). b || list_any (lowers_successor successor) (lowering g task)) (reads_lower_none successor (reads_of g task))
    ∙ list_any-append (lowers_successor successor) (map LowersUse (reads_of g task ++ writes_of g task)) (map LowersSuccessor (successors_of g task))
    ∙ ap (λ (b : Bool). b || list_any (lowers_successor successor) (map LowersSuccessor (successors_of g task))) (none_made (lowers_successor successor) LowersUse (λ s. refl) (reads_of g task ++ writes_of g task))
    ∙ any_made (lowers_successor successor) LowersSuccessor (successors_of g task)

-- so what a task lowers at a place, its body has
pub in_body : (g : Graph) (task at : ℕ) (test : Act → Bool) (act : Act) → slice_get (script g task) at ≡ Some act → test act ≡ true → test Finishes ≡ false → list_any test (body g task) ≡ true
in_body g task at test act stands met no_end =
    sym (or-false (list_any test (body g task)))
    ∙ ap (λ (b : Bool). list_any test (body g task) || (b || false)) (sym no_end)
    ∙ sym (ap (list_any test) (script_body g task) ∙ list_any-append test (body g task) (Finishes ∷ []))
    ∙ stands_in test (script g task) at act stands met
