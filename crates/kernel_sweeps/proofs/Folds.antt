-- Lists combined, one after another.
use Rattle.std.proofs.Common.{◌≡◌, ◌∙◌, List, [], ◌∷◌, ◌++◌, ap, sym, fold}
use Rattle.std.specs.List.{flat_map}
use Rattle.std.proofs.lemmas.List.Sums.{fold-append}
use Rattle.kernel_sweeps.specs.Lists.{flat_map-more}

-- one list more to combine
pub fold-flat_map-more : {X A B : Type 0} (f : B → A → B) (start total next : B) (g : X → List A) (xs : List X) (x : X) →
    total ≡ fold f start (flat_map g xs) → next ≡ fold f total (g x) → next ≡ fold f start (flat_map g (xs ++ x ∷ []))
fold-flat_map-more f start total next g xs x before is =
    is ∙ ap (λ t. fold f t (g x)) before ∙ sym (fold-append f start (flat_map g xs) (g x))
    ∙ ap (fold f start) (sym (flat_map-more g xs x))
