use Rattle.place_ways.proofs.PartLemmas.{applies_inside, applies_outside}
use Rattle.place_ways.proofs.parts.stamp_of.Goals as goal

pub returns-then-translation : goal.returns-then-translation
returns-then-translation c =
    let t = c.args.translation in
    applies_outside t.from_outside _ t.device.now.config.nat c.args.rule c.args.outer c.outside_stamp.result c.if-translation.true c.as_slice-rules.ensures c.outside_stamp.ensures.applies

pub returns-else-translation : goal.returns-else-translation
returns-else-translation c =
    let t = c.args.translation in
    applies_inside t.from_outside _ t.device.now.config.nat c.args.rule c.args.outer c.inside_stamp.result c.if-translation.false c.as_slice-rules.ensures c.inside_stamp.ensures.applies
