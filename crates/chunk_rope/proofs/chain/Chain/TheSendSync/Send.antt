use Rattle.std.proofs.Common.{List, [], ◌∷◌}
use mir.Raw.{raw}
use base.Fraction.{full_share}
use base.Shift.{Keyless}
use denote.RattleType.{RattleType}
use denote.Memory.{lone}
use denote.RawPtr.{Ptr, block_ptr, null_ptr}
use denote.Param.Send.{IsSend, part_keyless}
use Rattle.std.proofs.Crossing.{frees}
use Rattle.std.specs.declared.alloc.Global.{Global}
use Rattle.std.specs.contracts.impls.GlobalAllocator.TheImpl.{ghosts}
use Rattle.std_alloc.specs.Box.Ownership.{box_owns}
use Rattle.chunk_rope.specs.Owned.{Place, chain_owns}
use Rattle.chunk_rope.specs.contracts.chain.Chain.{the_row}

block_keyless : (R : RattleType) → IsSend R → (a : Global) (p : Ptr) (x : R.Denot) → Keyless (box_owns (ghosts.dealloc_token a) R p x)
block_keyless R s a null_ptr x = (tt, frees.frees a (raw (lone R.mir)) null_ptr)
block_keyless R s a (block_ptr b o) x = (part_keyless R s full_share x b o, frees.frees a (raw (lone R.mir)) (block_ptr b o))

chain_keyless : (R : RattleType) → IsSend R → (bs : List (Place × R.Denot)) → Keyless (chain_owns R bs)
chain_keyless R s [] = tt
chain_keyless R s (b ∷ bs) = (block_keyless R s b.0.1 b.0.0 b.1, chain_keyless R s bs)

pub send : (T : RattleType) → IsSend T → IsSend (the_row T)
send T s = record { owned = λ c vs. ((λ vss. (tt, ((λ uss. (tt, tt)), tt))), chain_keyless T s c.blocks); leaving = λ k f vs. tt }
