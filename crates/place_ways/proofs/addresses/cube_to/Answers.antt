use Rattle.link_sends.proofs.AddressLemmas.{in_cube_to}
use Rattle.place_ways.proofs.addresses.cube_to.Goals as goal

pub returns : goal.returns
returns c = in_cube_to c.forth.result c.all.result c.args.address c.all.ensures c.forth.ensures.made
