-- What 64 bits keep of a sum, a difference, a product or a quotient.
use Rattle.std.proofs.Common.{◌≡◌, ℕ, zero, suc, ◌^◌, ◌<◌, ◌≤◌, ℤ, pos, negsuc, neg_ℤ, unsigned_abs, int_div, FitsSigned, refl, ap, arith}
use Rattle.std.specs.Int.{w64, int_wrap, int_wrapping_div, cast_signed, cast_unsigned}
use Rattle.std.proofs.lemmas.Int.{wraps, to_z-of_z}
use Rattle.std.proofs.Math.Nat.{div-le_self}

size_of_negation : (n : ℕ) → unsigned_abs (neg_ℤ (pos n)) ≡ n
size_of_negation zero = refl
size_of_negation (suc n) = refl

size_of_quotient : (a b : ℤ) → unsigned_abs (int_div a b) ≤ unsigned_abs a
size_of_quotient (pos a) (pos b) = div-le_self a b
size_of_quotient (pos a) (negsuc b) = rw size_of_negation (div-le_self a (suc b))
size_of_quotient (negsuc a) (pos b) = rw size_of_negation (div-le_self (suc a) b)
size_of_quotient (negsuc a) (negsuc b) = div-le_self (suc a) (suc b)

bits_are_wrapped : (z : ℤ) → unsigned_abs z < 2 ^ 64 → cast_signed w64 (cast_unsigned w64 z) ≡ int_wrap w64 z
unfolding int_wrap
bits_are_wrapped (pos n) small = ap (cast_signed w64) (omega arith)
bits_are_wrapped (negsuc n) small = ap (cast_signed w64) (omega arith)

size_below : (z : ℤ) → FitsSigned w64 z → unsigned_abs z < 2 ^ 64
size_below (pos n) fits = omega (arith, fits.sfits)
size_below (negsuc n) fits = omega (arith, fits.sfits)

pub wrapping_div_is : (a b : ℤ) → FitsSigned w64 a → int_wrapping_div w64 a b ≡ int_wrap w64 (int_div a b)
wrapping_div_is a b fits = bits_are_wrapped (int_div a b) (omega (arith, size_of_quotient a b, size_below a fits))

pub ruleset wrapping = (wraps, to_z-of_z, wrapping_div_is)
