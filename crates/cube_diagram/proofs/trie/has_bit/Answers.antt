use Rattle.cube_diagram.proofs.TrieLemmas.{bit_by_mask}
use Rattle.cube_diagram.proofs.trie.has_bit.Goals as goal

pub returns : goal.returns
returns c = bit_by_mask c.args.number c.args.bit c.args.mask c.requires
