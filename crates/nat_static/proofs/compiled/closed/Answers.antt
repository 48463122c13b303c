use Rattle.nat_static.proofs.compiled.closed.Goals as goal
use Rattle.std.proofs.Common.{length}
use Rattle.nat_static.proofs.StampedLemmas.{closed}

pub returns : goal.returns
returns c h =
    rw c.in_ok-push.ensures.items (closed c.args.pieces.items (record { cube = c.all.result; value = c.in_ok-number_of.field-0 }) (length c.args.rules.now) c.all.ensures c.in_ok-number_of.ensures h)
