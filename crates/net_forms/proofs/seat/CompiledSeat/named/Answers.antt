use Rattle.net_view.specs.Borrowed.{seat_of}
use Rattle.net_forms.specs.declared.seat.FormedSeat.{FormedSeat}
use Rattle.net_forms.specs.Forms.{IsFormOfSeat, IsSeatForm}
use Rattle.net_forms.proofs.FormLemmas.{seat_form, some_then}
use Rattle.net_forms.proofs.seat.CompiledSeat.named.Goals as goal

pub formed_named-requires : goal.formed_named-requires
formed_named-requires c = c.requires.device.seats.count

pub returns-clause-form : goal.returns-clause-form
returns-clause-form c =
    let s = c.args.self in
    let fs = s.tables.now.diagrams in
    let d = s.seat.device.now in
    some_then (λ (v : FormedSeat). IsFormOfSeat d s.device.now (seat_of v.seat) v.form) (λ v. IsSeatForm fs d.config v.seat.interface.now v.form) c.formed_named.result (λ v x. seat_form fs s.tables.now.fates d s.device.now (seat_of v.seat) v.form c.requires.device x) c.formed_named.ensures.formed
