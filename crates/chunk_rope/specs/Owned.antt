-- What a chain of blocks owns.
use Rattle.std.specs.Prelude.{◌≡◌, List, [], ◌∷◌, ◌++◌}
use base.Fml.{Lft, Fml, ftrue, fsep}
use denote.Sharing.{nothing, beside}
use denote.Struct.Lending.{lent_at}
use denote.RattleType.{RattleType}
use denote.RawPtr.{Ptr}
use Rattle.std.specs.declared.alloc.Global.{Global}
use Rattle.std.specs.contracts.impls.GlobalAllocator.TheImpl.{ghosts}
use Rattle.std_alloc.specs.Box.Ownership.{box_owns}

-- where a block lies, and the handle that frees it
abbrev pub Place : Type 0
Place = Ptr × Global

-- each block with its value
abbrev pub chain_owns : (R : RattleType) → List (Place × R.Denot) → Fml
chain_owns R [] = ftrue
chain_owns R (b ∷ bs) = fsep (box_owns (ghosts.dealloc_token b.0.1) R b.0.0 b.1) (chain_owns R bs)

-- the first block lies there
abbrev pub IsFirst : {X : Type 0} → List (Place × X) → Ptr → Type 0
IsFirst [] p = ⊥
IsFirst (b ∷ bs) p = b.0.0 ≡ p

-- what a `&` holds of the blocks
abbrev pub chain_lent : (R : RattleType) → List (Place × R.Denot) → Lft → Fml
chain_lent R [] = nothing
chain_lent R (b ∷ bs) = beside (lent_at R b.0.0 b.1) (chain_lent R bs)

-- the last block lies there
abbrev pub IsLast : {X : Type 0} → List (Place × X) → Ptr → Type 0
IsLast [] p = ⊥
IsLast (b ∷ []) p = b.0.0 ≡ p
IsLast (b ∷ c ∷ bs) p = IsLast (c ∷ bs) p

-- the first block lies there and holds x, and the others follow
abbrev pub Begins : (X : Type 0) → List (Place × X) → Ptr → X → List (Place × X) → Type 0
Begins X bs p x rest = (h : Global) × (bs ≡ ((p, h), x) ∷ rest)

-- the last block lies there and held x; now it holds y, and the others are the same
abbrev pub Ends : (X : Type 0) → (old new : List (Place × X)) → Ptr → (x y : X) → Type 0
Ends X old new p x y = (h : Global) × (before : List (Place × X)) × (old ≡ before ++ ((p, h), x) ∷ []) × (new ≡ before ++ ((p, h), y) ∷ [])
