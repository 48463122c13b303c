use Rattle.hdr_bits.specs.HeaderBits.{number}
use Rattle.cube_diagram.specs.Functions.{value_at}
use Rattle.place_ways.proofs.SetLemmas.{keeps_same}
use Rattle.place_ways.proofs.AddLemmas.{nothing_added}
use Rattle.place_ways.proofs.FateLemmas.{no_fate, numbered_fate}
use Rattle.place_ways.proofs.forward.add_numbered.Goals as goal

pub returns-in_default-clause-added : goal.returns-in_default-clause-added
returns-in_default-clause-added c =
    let s = c.args.at in
    let f = c.args.table.now in
    nothing_added f f _ c.args.ways.now.ways.items (keeps_same f) c.requires.ways (λ h v m x. no_fate s.seat.device.now.config s.fates.now (value_at f s.device.now.fates (number h)) c.args.number h.dst (c.requires.at.device.numbered h v) (c.requires.number h v x.0) c.in_default.ensures)

pub add_fate-requires-clause-fate : goal.add_fate-requires-clause-fate
add_fate-requires-clause-fate c h v i =
    let s = c.args.at in
    numbered_fate s.seat.device.now.config s.fates.now (value_at c.args.table.now s.device.now.fates (number h)) c.args.number h.dst c.in-Some.fate.now (c.requires.at.device.numbered h v) (c.requires.number h v i) c.in-Some.ensures
