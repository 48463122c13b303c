use Rattle.std.proofs.Common.{◌∙◌, ap, sym, slice_get}
use Rattle.net_view.specs.Borrowed.{seat_of}
use Rattle.net_forms.proofs.FindLemmas.{same_length, seat_parts}
use Rattle.net_forms.proofs.seat.formed_in.Goals as goal

pub returns-in_default-seat_form_at-clause-seat : goal.returns-in_default-seat_form_at-clause-seat
returns-in_default-seat_form_at-clause-seat c =
    let d = c.args.formed.device.now in
    let s = seat_of c.in-Some.seat in
    absurd (same_length d.config.interfaces c.args.formed.form.now.seats.items c.args.i s.interface c.requires (sym (seat_parts d c.args.i s c.in-Some.ensures).1) (c.in_default-seat_form_at.ensures ∙ ap (λ l. slice_get l c.args.i) c.deref.ensures.value))

pub returns-clause-formed : goal.returns-clause-formed
returns-clause-formed c =
    let d = c.args.formed.device.now in
    let s = seat_of c.in-Some.seat in
    let p = seat_parts d c.args.i s c.in-Some.ensures in
    record {
      position = c.args.i;
      device = p.0;
      interface = p.1;
      form = sym (c.in-Some-seat_form_at.ensures ∙ ap (λ l. slice_get l c.args.i) c.deref.ensures.value);
    }
