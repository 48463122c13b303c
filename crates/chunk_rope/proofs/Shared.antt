-- A `&` to a chain is made where one to a value is. Assumes `Logic`.
use mathlib.Core.List.{List, [], ◌∷◌}
use seplogic.Ra.Ura.{Ura}
use mir.Raw.{raw}
use base.Fml.{Lft, ftrue, Incl}
use base.Fraction.{full_share}
use types.Logic.{Logic}
use denote.RattleType.{RattleType, RowLaws}
use denote.Memory.{lone}
use denote.Param.Laws.{Laws}
use denote.RawPtr.{lies_at}
use denote.Sharing.{ShrLaws}
use denote.SharingLaws.{beside_shr_laws, nothing_shr_laws}
use denote.Shares.{Shares-less}
use denote.Struct.Lending.{lent_at, lent_at_shr_laws, Lends-lies, Lends-first, Lends, Lends-both, Lends-nothing}
use Rattle.std.specs.contracts.impls.GlobalAllocator.TheImpl.{ghosts}
use Rattle.std_alloc.specs.Box.Ownership.{box_owns}
use Rattle.chunk_rope.specs.Owned.{Place, chain_owns, chain_lent}

pub chain_lent_laws : (R : RattleType) → RowLaws R → (bs : List (Place × R.Denot)) → ShrLaws (chain_lent R bs)
chain_lent_laws R L [] = nothing_shr_laws
chain_lent_laws R L (b ∷ bs) = beside_shr_laws _ _ (lent_at_shr_laws R L b.0.0 b.1) (chain_lent_laws R L bs)

pub Lends-chain : {M : Type 1} {𝓤 : Ura M} (𝓛 : Logic 𝓤) (l : Lft) (R : RattleType) (L : Laws R) → Incl l R.lives → (bs : List (Place × R.Denot)) → Lends 𝓛 (chain_owns R bs) (chain_lent R bs) l
Lends-chain 𝓛 l R L inc [] = Lends-nothing 𝓛 ftrue l
Lends-chain 𝓛 l R L inc (b ∷ bs) =
    Lends-both 𝓛 (box_owns (ghosts.dealloc_token b.0.1) R b.0.0 b.1) (chain_owns R bs) (lent_at R b.0.0 b.1) (chain_lent R bs) l
    (Lends-first 𝓛 (lies_at R full_share b.0.0 b.1) (ghosts.dealloc_token b.0.1 (raw (lone R.mir)) b.0.0) (lent_at R b.0.0 b.1) l (Lends-lies 𝓛 R l b.0.0 b.1 (Shares-less 𝓛 R R.lives l inc (L.shares 𝓛) b.1)))
    (Lends-chain 𝓛 l R L inc bs)
