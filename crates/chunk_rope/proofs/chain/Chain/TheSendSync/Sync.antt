use Rattle.std.proofs.Common.{List, [], ◌∷◌}
use denote.RattleType.{RattleType}
use denote.Struct.Owning.{shape, to}
use denote.Param.Send.{IsSync, Common, struct_sync, sendable}
use Rattle.std_alloc.proofs.SendSync.{seen}
use Rattle.chunk_rope.specs.Owned.{Place, chain_lent}
use Rattle.chunk_rope.specs.contracts.chain.Chain as Chain

chain-Common : (R : RattleType) → IsSync R → (bs : List (Place × R.Denot)) → Common (chain_lent R bs)
chain-Common R s [] κ = tt
chain-Common R s (b ∷ bs) κ = (seen R s b.0.0 b.1 κ, chain-Common R s bs κ)

pub sync : (T : RattleType) → IsSync T → IsSync (Chain.the_row T)
sync T s = let O = Chain.the_type T in record {
  shared = λ d b o κ. ((struct_sync (shape O) (search sendable, tt)).shared (to O d) b o κ, chain-Common T s d.blocks κ);
}
