use Rattle.std.proofs.Common.{inr, subst}
use Rattle.hdr_bits.specs.HeaderBits.{number}
use Rattle.cube_diagram.specs.Functions.{value_at}
use Rattle.net_view.specs.Borrowed.{seat_of}
use Rattle.link_sends.specs.Sending.{next_address}
use Rattle.transfer_rel.specs.Stages.{OfGate}
use Rattle.transfer_rel.proofs.LeaveLemmas.{denied_moves, passed_list}
use Rattle.transfer_rel.proofs.leave.pass_on.Goals as goal

pub returns-in-Divides : goal.returns-in-Divides
returns-in-Divides c = inr c.in-Divides.ensures

pub returns-in-Denies : goal.returns-in-Denies
returns-in-Denies c = λ h g u v i j.
    let fs = c.args.at.tables.now.diagrams in
    let f = c.args.out.form.output in
    denied_moves c.args.at.wiring.now (seat_of c.args.at.seat) (seat_of c.args.out.seat) fs f (next_address c.args.next h) g v c.requires.output (subst (OfGate (value_at fs f (number g))) c.in-Denies.is (c.in-All.ensures g v j))

pub returns-in-Passes : goal.returns-in-Passes
returns-in-Passes c =
    let fs = c.args.at.tables.now.diagrams in
    let f = c.args.out.form.output in
    passed_list c.args.at.wiring.now (seat_of c.args.at.seat) (seat_of c.args.out.seat) c.args.next fs f c.args.cube.now c.args.translated.now c.send_on.result c.requires.output (λ h v i. subst (OfGate (value_at fs f (number h))) c.in-Passes.is (c.in-All.ensures h v i)) c.send_on.ensures
