use Rattle.std.proofs.Common.{◌∙◌, sym, subst}
use Rattle.hdr_bits.specs.HeaderBits.{number}
use Rattle.cube_diagram.specs.Functions.{value_at}
use Rattle.net_view.specs.Borrowed.{seat_of}
use Rattle.transfer_rel.specs.Stages.{OfArrived, OfGate}
use Rattle.transfer_rel.proofs.ArriveLemmas.{arrived}
use Rattle.transfer_rel.proofs.arrive.arrive.Goals as goal

pub returns-in-Passes : goal.returns-in-Passes
returns-in-Passes c =
    let seat = seat_of c.args.at.seat in
    let fs = c.args.at.tables.now.diagrams in
    let f = c.args.at.form.input in
    let passed = arrived seat fs f c.args.cube.now c.come_in.result (sym c.is_enabled.ensures ∙ c.if-not-is_enabled.false) c.requires.form.input (λ h v i. subst (OfGate (value_at fs f (number h))) c.in-Passes.is (c.in-All.ensures h v i)) c.come_in.ensures in
    subst (OfArrived seat c.args.cube.now) (sym c.let_in.ensures) passed
