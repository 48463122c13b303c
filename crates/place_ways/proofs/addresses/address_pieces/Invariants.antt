use Rattle.std.proofs.Common.{◌≡◌, Some, None, cond, take}
use Rattle.std.specs.Prelude.{nat_eq}
use Rattle.std.specs.List.{list_any}
use Rattle.hdr_bits.specs.declared.header.Header.{Header}
use Rattle.hdr_bits.specs.HeaderBits.{number, IsHeader}
use Rattle.cube_alg.specs.Pieces.{value_of}
use Rattle.place_ways.proofs.addresses.address_pieces.Given as goal

abbrev pub invariant-loop-address : goal.invariant-loop-address
invariant-loop-address l = (h : Header) → IsHeader h →
    value_of l.pieces.items (number h) ≡ cond (list_any (λ a. nat_eq h.dst a) (take l.address-index l.addresses)) (Some h.dst) None
