use Rattle.std.proofs.Common.{arith}
use Rattle.cube_diagram.proofs.TrieLemmas.{all_on_from}
use Rattle.cube_diagram.proofs.trie.all_on.Goals as goal

pub returns : goal.returns
returns c =
    λ e. all_on_from c.args.pieces.now c.args.start c.args.bit c.loop-i.i c.args.one (let l = c.loop-i-test.false in omega (arith, l)) c.loop-i.invariant
