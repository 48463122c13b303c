use Rattle.std.proofs.Common.{List, IfOk, subst}
use Rattle.net_types.specs.declared.network.Place.{Place}
use Rattle.walk_trace.specs.declared.types.Trace.{Trace}
use Rattle.walk_trace.specs.Traced.{traced}
use Rattle.why_core.specs.Cases.{first_ttl}
use Rattle.why_core.specs.Shown.{IsSides}
use Rattle.why_core.specs.Words.{traces_in}
use Rattle.why_core.proofs.traces.traces_bytes.Goals as goal

pub returns : goal.returns
returns c =
    let n = c.args.numbered.now in
    let w = traces_in c.args.asked in
    let r = c.shown.result in
    let of_new = subst (λ (t : Trace). IfOk r (λ text. IsSides w.format n.names w c.in_ok-old.old t text.items)) c.in_ok-new.ensures.traced c.shown.ensures in
    let of_both = subst (λ (t : Trace). IfOk r (λ text. IsSides w.format n.names w t (traced (record { network = n.new; links = n.new_links }) first_ttl c.place_of-place.result w.header) text.items)) c.in_ok-old.ensures.traced of_new in
    subst (λ (p : Place). IfOk r (λ text. IsSides w.format n.names w
    (traced (record { network = n.old; links = n.old_links }) first_ttl p w.header)
    (traced (record { network = n.new; links = n.new_links }) first_ttl p w.header) text.items)) c.place_of-place.ensures of_both
