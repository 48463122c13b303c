use Rattle.std.proofs.Common.{◌∙◌, ap, sym, subst, option_and_then}
use Rattle.net_types.specs.World.{seat_numbered}
use Rattle.net_view.specs.Borrowed.{seat_of}
use Rattle.net_forms.specs.Forms.{IsDeviceForm, IsSeatForm}
use Rattle.net_forms.proofs.FormLemmas.{device_found, seat_form}
use Rattle.net_forms.proofs.seat.seat_at.Goals as goal

pub device_named-requires : goal.device_named-requires
device_named-requires c = record { wiring = c.requires.wiring; count = c.requires.devices.count }

pub formed_numbered-requires : goal.formed_numbered-requires
formed_numbered-requires c =
    let f = device_found c.args.tables.now.diagrams c.args.tables.now.fates c.args.network.now c.in-Some.formed.device.now c.in-Some.formed.form.now c.requires c.in-Some.ensures.form in
    f.seats.count

pub returns-in_default-clause-seat : goal.returns-in_default-clause-seat
returns-in_default-clause-seat c =
    ap (option_and_then (λ d. seat_numbered d c.args.place.interface)) c.in_default.ensures.device

pub returns-in_default-formed_numbered-clause-seat : goal.returns-in_default-formed_numbered-clause-seat
returns-in_default-formed_numbered-clause-seat c =
    c.in_default-formed_numbered.ensures.seat ∙ ap (option_and_then (λ d. seat_numbered d c.args.place.interface)) c.in-Some.ensures.device

pub returns-clause-seat : goal.returns-clause-seat
returns-clause-seat c =
    c.in-Some-formed_numbered.ensures.seat ∙ ap (option_and_then (λ d. seat_numbered d c.args.place.interface)) c.in-Some.ensures.device

pub returns-clause-stands : goal.returns-clause-stands
returns-clause-stands c =
    let fs = c.args.tables.now.diagrams in
    let fates = c.args.tables.now.fates in
    let d = c.in-Some.formed.device.now in
    let f = c.in-Some.formed.form.now in
    let one = c.in-Some-formed_numbered.one in
    let formed = c.in-Some-formed_numbered.ensures.formed in
    let device = device_found fs fates c.args.network.now d f c.requires c.in-Some.ensures.form in
    record {
      compiled = record {
        device = subst (λ x. IsDeviceForm fs fates x f) (sym formed.device) device;
        form = subst (λ x. IsSeatForm fs x.config one.seat.interface.now one.form) (sym formed.device) (seat_form fs fates d f (seat_of one.seat) one.form device formed);
      };
      world = c.requires.wiring;
    }
