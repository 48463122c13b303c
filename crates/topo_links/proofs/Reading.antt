-- The reading of ends, pair by pair.
use Rattle.std.proofs.Common.{◌≡◌, ℕ, Bool, true, false, not, List, [], ◌∷◌, ◌++◌, length, refl, sym, ◌∙◌}
use Rattle.topo_links.specs.declared.table.LinkKind.{LinkKind}
use Rattle.topo_links.specs.Ends.{Word, End, is_full, is_taken, ends_of}

-- behind a free end the reading goes on
pub one_more : (k : LinkKind) (n : ℕ) (taken ends : List End) (d i : Word) (rest others words : List Word)
    → rest ≡ d ∷ others → others ≡ i ∷ words → is_full k (length ends) ≡ false → is_taken (d, i) (taken ++ ends) ≡ false
    → ends_of k n taken ends rest ≡ ends_of k n taken (ends ++ (d, i) ∷ []) words
unfolding ends_of
one_more k n taken ends d i rest others words e f full free = rw (e, f, full, free) refl

pub is_free : (b t : Bool) → b ≡ not t → b ≡ true → t ≡ false
is_free b true e h = sym h ∙ e
is_free b false e h = refl
