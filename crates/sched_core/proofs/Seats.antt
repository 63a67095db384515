-- What one seat's new view changes in the counts over all views.
use Rattle.std.proofs.Common.{◌≡◌, ◌∙◌, ◌≢◌, ◌≤◌, ◌<◌, ◌+◌, ℕ, Bool, true, false, cond, ◌⊎◌, inl, inr, List, length, ap, sym, subst, arith}
use Rattle.std.specs.Prelude.{slice_set, slice_index_or}
use Rattle.std.specs.List.{count_by, sum_by}
use Rattle.std.proofs.lemmas.Bool.{cases_lt}
use Rattle.std.proofs.lemmas.List.{get_or_past}
use Rattle.std.proofs.lemmas.List.Sums.{sum_by-set, get_or-le-sum_by}
use Rattle.sched_core.specs.declared.view.View.{View}
use Rattle.sched_core.proofs.Lists.{number, number_true, number_false}
use Rattle.sched_core.specs.declared.view.View.TheVariants.{Spent}

-- the seat is one of them, and has this view
pub record IsSeat (views : List View) (seat : ℕ) (view : View) : Type 0 where
  pub within : seat < length views
  pub was : slice_index_or views seat Spent ≡ view

pub seat_of : (views : List View) (seat : ℕ) (view : View) → slice_index_or views seat Spent ≡ view → view ≢ Spent → IsSeat views seat view
seat_of views seat view h other = record { within = inside (cases_lt seat (length views)); was = h } where
  inside : (seat < length views) ⊎ (length views ≤ seat) → seat < length views
  inside (inl lt) = lt
  inside (inr le) = absurd (other (sym h ∙ get_or_past views seat Spent le))

module _ (views : List View) (seat : ℕ) (old new : View) (is : IsSeat views seat old) where
  pub summed : (f : View → ℕ) → sum_by f (slice_set views seat new) + f old ≡ sum_by f views + f new
  summed f = subst (λ (v : View). sum_by f (slice_set views seat new) + f v ≡ sum_by f views + f new) is.was (sum_by-set f views seat new Spent is.within)

  pub sum_same : (f : View → ℕ) → f old ≡ f new → sum_by f (slice_set views seat new) ≡ sum_by f views
  sum_same f e = omega (arith, summed f, e)

  pub counted : (test : View → Bool) → count_by test (slice_set views seat new) + cond (test old) 1 0 ≡ count_by test views + cond (test new) 1 0
  counted test = summed (λ v. cond (test v) 1 0)

  pub count_same : (test : View → Bool) → test old ≡ test new → count_by test (slice_set views seat new) ≡ count_by test views
  count_same test e = sum_same (λ v. cond (test v) 1 0) (ap number e)

  pub count_less : (test : View → Bool) → test old ≡ true → test new ≡ false → count_by test (slice_set views seat new) + 1 ≡ count_by test views
  count_less test met unmet =
      let x = number_true (test old) met in
      let y = number_false (test new) unmet in
      omega (arith, counted test, x, y)

  pub count_more : (test : View → Bool) → test old ≡ false → test new ≡ true → count_by test (slice_set views seat new) ≡ count_by test views + 1
  count_more test unmet met =
      let x = number_true (test new) met in
      let y = number_false (test old) unmet in
      omega (arith, counted test, x, y)

  pub sum_at_least : (f : View → ℕ) → f old ≤ sum_by f views
  sum_at_least f = subst (λ (v : View). f v ≤ sum_by f views) is.was (get_or-le-sum_by f views seat Spent is.within)

  pub count_at_least : (test : View → Bool) → test old ≡ true → 1 ≤ count_by test views
  count_at_least test met =
      let x = number_true (test old) met in
      omega (arith, sum_at_least (λ v. cond (test v) 1 0), x)
