use Rattle.std.proofs.Common.{List, subst, sym}
use Rattle.cube_alg.proofs.CutLemmas.{split_halves}
use Rattle.cube_alg.specs.declared.on_cube.OnCube.{OnCube}
use Rattle.net_forms.specs.Worlds.{world_in}
use Rattle.transfer_rel.specs.declared.moves.StampMove.{StampMove}
use Rattle.transfer_rel.specs.CubeMoves.{OfCubeMoves}
use Rattle.device_transfers.specs.declared.transfer.TransferEntry.{TransferEntry}
use Rattle.device_transfers.specs.Transfers.{AddsEntries}
use Rattle.device_transfers.proofs.EntryLemmas.{adds_one, adds_halves}
use Rattle.device_transfers.proofs.transfer.+add_entries.Goals as goal

pub returns-in_ok-push-in-All : goal.returns-in_ok-push-in-All
returns-in_ok-push-in-All t c =
    let w = world_in c.args.prepared.now c.args.version in
    let entry : TransferEntry = record { cube = c.args.cube.now; moves = c.in-All.answer } in
    subst (λ (es : List TransferEntry). AddsEntries w c.args.place c.args.cube.now c.args.entries.now es) (sym c.in_ok-push-in-All.ensures.ok) (adds_one w c.args.place entry c.args.entries.now (subst (λ (m : OnCube (List StampMove)). OfCubeMoves w c.args.place c.args.cube.now m) c.in-All.is c.in_ok-answer.ensures))

pub returns-in_ok-add_entries-in-Divides-2 : goal.returns-in_ok-add_entries-in-Divides-2
returns-in_ok-add_entries-in-Divides-2 t c =
    let w = world_in c.args.prepared.now c.args.version in
    let halves = split_halves c.in-Divides.bit c.args.cube.now c.split.result c.split.ensures.low c.split.ensures.high in
    adds_halves w c.args.place c.in-Divides.bit c.args.cube.now c.split.result.0 c.split.result.1 c.args.entries.now c.add_entries.new.entries c.add_entries-in-Divides.new.entries halves c.in_ok-add_entries-in-Divides.ensures c.in_ok-add_entries-in-Divides-2.ensures
