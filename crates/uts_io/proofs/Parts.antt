-- Lists that are cut in parts.
use Rattle.std.proofs.Common.{◌≡◌, ◌-◌, ℕ, List, ◌++◌, take, drop, length, arith, append_assoc}
use Rattle.std.proofs.lemmas.List.{take-append-drop, length-drop, take_all}

-- a front, what is taken of the rest and what remains of it are the whole
pub cut_further : (whole front rest : List ℕ) (n : ℕ) → whole ≡ front ++ rest →
    whole ≡ (front ++ take n rest) ++ take (length rest - n) (drop n rest)
cut_further whole front rest n splits =
    let all : take (length rest - n) (drop n rest) ≡ drop n rest =
    take_all _ (drop n rest) (omega (arith, length-drop n rest)) in
    cc (append_assoc front (take n rest) (drop n rest), take-append-drop n rest, all)
