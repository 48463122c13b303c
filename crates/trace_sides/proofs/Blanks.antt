-- The blanks before lines can be taken away again.
use Rattle.std.proofs.Common.{◌≡◌, ℕ, Bool, true, false, List, [], ◌∷◌, refl, ap}
use Rattle.std.specs.Prelude.{◌==◌}
use Rattle.trace_sides.specs.Indented.{indented_from, outdented_from}

pub back : (begins : Bool) (text : List ℕ) → outdented_from begins (indented_from begins text) ≡ text
back true [] = refl
back false [] = refl
back true (b ∷ text) = ap (λ bs. b ∷ bs) (back (b == 10) text)
back false (b ∷ text) = ap (λ bs. b ∷ bs) (back (b == 10) text)
