-- What was put behind some bytes, in several pieces, the last one if all went well.
use Rattle.std.proofs.Common.{◌≡◌, ℕ, List, ◌++◌, append_assoc, Result}
use Rattle.std.specs.Prelude.{OnOk}
use Rattle.std.proofs.lemmas.Result.{on_ok_weaker}

two_joined : (old total n l p q : List ℕ) → l ≡ old ++ p → n ≡ l ++ q → total ≡ p ++ q → n ≡ old ++ total
two_joined old total n l p q a b t = rw (b, a, t) (append_assoc old p q)

five_joined : (old total u l m n o p q r s t : List ℕ) → l ≡ old ++ p → m ≡ l ++ q → n ≡ m ++ r → o ≡ n ++ s → u ≡ o ++ t
    → total ≡ p ++ (q ++ (r ++ (s ++ t))) → u ≡ old ++ total
five_joined old total u l m n o p q r s t a b c d e is = rw (e, d, c, b, a, is) (simp append_assoc)

seven_joined : (old total w l m n o u v p q r s t x y : List ℕ) → l ≡ old ++ p → m ≡ l ++ q → n ≡ m ++ r → o ≡ n ++ s → u ≡ o ++ t → v ≡ u ++ x → w ≡ v ++ y
    → total ≡ p ++ (q ++ (r ++ (s ++ (t ++ (x ++ y))))) → w ≡ old ++ total
seven_joined old total w l m n o u v p q r s t x y a b c d e f g is = rw (g, f, e, d, c, b, a, is) (simp append_assoc)

module _ {A E : Type 0} (answer : Result A E) (old total : List ℕ) where
  pub two_pieces : (n l p q : List ℕ) → l ≡ old ++ p → OnOk answer (n ≡ l ++ q) → total ≡ p ++ q → OnOk answer (n ≡ old ++ total)
  two_pieces n l p q a last t = on_ok_weaker answer (λ (b : n ≡ l ++ q). two_joined old total n l p q a b t) last

  pub five_pieces : (u l m n o p q r s t : List ℕ) → l ≡ old ++ p → m ≡ l ++ q → n ≡ m ++ r → o ≡ n ++ s → OnOk answer (u ≡ o ++ t)
      → total ≡ p ++ (q ++ (r ++ (s ++ t))) → OnOk answer (u ≡ old ++ total)
  five_pieces u l m n o p q r s t a b c d last is = on_ok_weaker answer (λ (e : u ≡ o ++ t). five_joined old total u l m n o p q r s t a b c d e is) last

  pub seven_pieces : (w l m n o u v p q r s t x y : List ℕ) → l ≡ old ++ p → m ≡ l ++ q → n ≡ m ++ r → o ≡ n ++ s → u ≡ o ++ t → v ≡ u ++ x → OnOk answer (w ≡ v ++ y)
      → total ≡ p ++ (q ++ (r ++ (s ++ (t ++ (x ++ y))))) → OnOk answer (w ≡ old ++ total)
  seven_pieces w l m n o u v p q r s t x y a b c d e f last is =
      on_ok_weaker answer (λ (g : w ≡ v ++ y). seven_joined old total w l m n o u v p q r s t x y a b c d e f g is) last
