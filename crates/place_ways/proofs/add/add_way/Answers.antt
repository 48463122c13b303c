use Rattle.hdr_bits.proofs.Numbers.{number-below}
use Rattle.place_ways.proofs.SetLemmas.{keeps_same, no_header}
use Rattle.place_ways.proofs.AddLemmas.{nothing_added, pushed}
use Rattle.place_ways.proofs.add.add_way.Goals as goal

pub returns-then-is_nothing : goal.returns-then-is_nothing
returns-then-is_nothing c =
    nothing_added c.args.table.now c.args.table.now _ c.args.ways.now.items (keeps_same c.args.table.now) c.requires.ways (λ h v m x. no_header c.args.table.now c.args.headers h (c.is_nothing.ensures.0 c.if-is_nothing.true) (number-below h v) x.0)

pub returns : goal.returns
returns c = rw c.in_ok-push.ensures.items (pushed c.args.table.now c.args.ways.now.items c.args.step c.args.headers c.requires.headers c.requires.fits c.requires.ways)
