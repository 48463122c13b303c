use Rattle.std.proofs.Common.{sym, ◌∙◌, arith}
use Rattle.std.specs.Prelude.{option_map}
use Rattle.place_checks.specs.Homes.{subnet_other}
use Rattle.place_checks.specs.Index.{place_in}
use Rattle.place_checks.specs.Sights.{folder_of}
use Rattle.place_checks.proofs.Firsts.{first_at, none_more, is_some-map}
use Rattle.place_checks.proofs.unlinked.any_other.Goals as goal

pub returns-then-is_some : goal.returns-then-is_some
returns-then-is_some c =
    let f = subnet_other c.args.segments.now.table.now (folder_of c.args.net.now) (place_in c.args.place) in
    first_at f c.args.subnets.now c.loop-subnet.subnet-index c.subnet-item.result (omega arith) c.subnet-item.is c.loop-subnet.invariant (option_map place_in c.in_ok-other.other) c.in_ok-other.ensures (is_some-map place_in c.in_ok-other.other ∙ sym c.is_some.ensures ∙ c.if-is_some.true)

pub loop-subnet-preserved : goal.loop-subnet-preserved
loop-subnet-preserved c =
    let f = subnet_other c.args.segments.now.table.now (folder_of c.args.net.now) (place_in c.args.place) in
    none_more f c.args.subnets.now c.loop-subnet.subnet-index c.subnet-item.result (omega arith) c.subnet-item.is c.loop-subnet.invariant (option_map place_in c.in_ok-other.other) c.in_ok-other.ensures (is_some-map place_in c.in_ok-other.other ∙ sym c.is_some.ensures ∙ c.if-is_some.false)
