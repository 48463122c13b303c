use Rattle.acl_match.proofs.fields.outside.Goals as goal
use Rattle.acl_match.proofs.TestLemmas.{outside_added}

pub returns : goal.returns
returns c h =
    outside_added c.all.result c.args.cube.now c.minus.new.pieces.items h c.all.ensures c.new-cubes.result.items c.new-cubes.ensures.items c.in_ok-minus.ensures.rest
