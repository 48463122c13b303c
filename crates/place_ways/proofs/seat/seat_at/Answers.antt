use Rattle.std.proofs.Common.{◌∙◌, ap, sym, subst, option_and_then}
use Rattle.net_types.specs.World.{seat_numbered}
use Rattle.net_view.specs.Borrowed.{seat_of}
use Rattle.net_forms.specs.Forms.{IsFormOfSeat}
use Rattle.net_forms.specs.Networks.{IsFormIn}
use Rattle.place_ways.proofs.seat.seat_at.Goals as goal

pub formed_numbered-requires : goal.formed_numbered-requires
formed_numbered-requires c =
    c.requires.counts.each c.in-Some.ensures.form.position c.in-Some.formed.device.now c.in-Some.formed.form.now c.in-Some.ensures.form.device c.in-Some.ensures.form.form

pub returns-in_default-clause-seat : goal.returns-in_default-clause-seat
returns-in_default-clause-seat c =
    ap (option_and_then (λ d. seat_numbered d c.args.place.interface)) c.in_default.ensures.device

pub returns-in_default-formed_numbered-clause-seat : goal.returns-in_default-formed_numbered-clause-seat
returns-in_default-formed_numbered-clause-seat c =
    c.in_default-formed_numbered.ensures.seat ∙ ap (option_and_then (λ d. seat_numbered d c.args.place.interface)) c.in-Some.ensures.device

pub returns-clause-seat : goal.returns-clause-seat
returns-clause-seat c =
    c.in-Some-formed_numbered.ensures.seat ∙ ap (option_and_then (λ d. seat_numbered d c.args.place.interface)) c.in-Some.ensures.device

pub returns-clause-form : goal.returns-clause-form
returns-clause-form c =
    let n = c.args.network.form.now in
    let d = c.in-Some.formed.device.now in
    let f = c.in-Some.formed.form.now in
    let one = c.in-Some-formed_numbered.one in
    let formed = c.in-Some-formed_numbered.ensures.formed in
    record {
      device = subst (λ x. IsFormIn n x f) (sym formed.device) c.in-Some.ensures.form;
      form = subst (λ x. IsFormOfSeat x f (seat_of one.seat) one.form) (sym formed.device) formed;
      world = c.requires.indexed.wiring;
    }
