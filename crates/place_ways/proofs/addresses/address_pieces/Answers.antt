use Rattle.std.proofs.Common.{get_or}
use Rattle.std.proofs.lemmas.List.{get_or_default}
use Rattle.hdr_bits.specs.HeaderBits.{number}
use Rattle.link_sends.proofs.AddressLemmas.{pieces_more}
use Rattle.place_ways.proofs.addresses.address_pieces.Goals as goal

pub loop-address-preserved : goal.loop-address-preserved
loop-address-preserved c h ok =
    let addresses = c.args.addresses.now in
    let i = c.loop-address.address-index in
    let a = get_or addresses i 0 in
    rw c.in_ok-push.ensures.items (pieces_more h.dst (number h) addresses i a c.loop-address.pieces.items c.cube_to.result c.loop-address-test.true (get_or_default addresses i 0 a c.loop-address-test.true) (c.cube_to.ensures h ok) (c.loop-address.invariant h ok))
