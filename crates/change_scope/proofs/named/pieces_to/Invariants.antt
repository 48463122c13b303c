use Rattle.std.proofs.Common.{ℕ, Contains, IsSome, take}
use Rattle.cube_alg.specs.Pieces.{value_of}
use Rattle.hdr_bits.specs.HeaderBits.{number}
use Rattle.change_scope.specs.Translated.{header_to}
use Rattle.change_scope.proofs.named.pieces_to.Given as goal

abbrev pub invariant-loop-address : goal.invariant-loop-address
invariant-loop-address l = (a : ℕ) → Contains (take l.address-index l.addresses) a → IsSome (value_of l.pieces.items (number (header_to a)))
