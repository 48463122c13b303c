use Rattle.std.proofs.Common.{◌∙◌, ap, arith, unwrap_or, false}
use Rattle.net_types.specs.Routes.{interface_named}
use Rattle.rib_build.proofs.Tables.{know_more, know_all, if_any}
use Rattle.rib_build.proofs.interfaces.Interfaces.of.Goals as goal

pub loop-interface-preserved : goal.loop-interface-preserved
loop-interface-preserved c = know_more (λ k. k.now) _ _ _ _ _ _ c.interface-item.result (omega arith) c.interface-item.is c.loop-interface.invariant c.in_ok-add_addresses.ensures c.in_ok-add_name.ensures

pub returns : goal.returns
returns c =
    let k = rw c.as_slice-interface-items.ensures at (know_all (λ k. k.now) c.loop-interface.own c.loop-interface.enabled c.as_slice-interface-items.result.now c.loop-interface.interface-index (omega arith) c.loop-interface.invariant) in
    record { own = k.own; enabled = λ name. ap (λ o. unwrap_or o false) (k.names name) ∙ if_any (interface_named c.args.config.now name) }
