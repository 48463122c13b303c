use Rattle.acl_match.proofs.FieldLemmas.{product_more}
use Rattle.acl_match.proofs.fields.product.Goals as goal

pub loop-c-preserved : goal.loop-c-preserved
loop-c-preserved c =
    product_more c.args.firsts.now c.args.seconds.now c.loop-c.cubes.items c.add_meets.new.cubes.items c.loop-c.c-index c.c-item.result c.loop-c-test.true c.c-item.is c.in_ok-add_meets.ensures c.loop-c.invariant
