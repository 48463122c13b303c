use Rattle.std.proofs.Common.{subst}
use Rattle.std.specs.Prelude.{IfSome}
use Rattle.net_forms.specs.Networks.{IsNetworkForm}
use Rattle.net_forms.proofs.FormLemmas.{form_in, on_ok, tables_same}
use Rattle.net_forms.proofs.compile.known_or_compiled.Goals as goal

pub known_form-requires : goal.known_form-requires
known_form-requires c =
    let t = c.args.tables.now in
    let a = subst (λ o. IfSome o (λ n. IsNetworkForm t.diagrams t.fates n.now)) c.in-Some.is c.requires.known in
    record { wiring = a.wiring; count = a.devices.count }

pub returns-clause-form : goal.returns-clause-form
returns-clause-form c =
    let t = c.args.tables.now in
    form_in t c.in-Some.network.now c.args.device.now c.in-Some-known_form.form.now c.copy_of.result (subst (λ o. IfSome o (λ n. IsNetworkForm t.diagrams t.fates n.now)) c.in-Some.is c.requires.known) c.in-Some-known_form.ensures c.copy_of.ensures

pub returns-clause-kept : goal.returns-clause-kept
returns-clause-kept c = on_ok _ c.copy_of.result (tables_same c.args.tables.now)
