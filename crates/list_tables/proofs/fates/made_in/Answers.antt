use Rattle.std.proofs.Common.{subst, ◌∙◌}
use Rattle.net_types.specs.declared.network.NetDevice.{NetDevice}
use Rattle.device_fates.specs.Fates.{IsFateFunction}
use Rattle.net_forms.specs.declared.forms.Tables.{Tables}
use Rattle.list_tables.proofs.KnownLemmas.{made_fates_more, same_item}
use Rattle.list_tables.proofs.fates.made_in.Goals as goal

pub loop-one-preserved : goal.loop-one-preserved
loop-one-preserved c =
    let a = c.loop-one.tables in
    let made = c.in_ok-function.ensures in
    let f = c.in_ok-function.function in
    let b : Tables = record { diagrams = c.add_device.new.diagrams; fates = c.add_device.new.fates } in
    record {
      made = rw c.in_ok-push.ensures.items (made_fates_more a b c.args.devices.now c.loop-one.made.items _ (record { diagrams = made.kept; fates = made.grows }) c.loop-one.invariant.made
          (λ d e. subst (λ (x : NetDevice). IsFateFunction b.diagrams b.fates x.config f) (same_item c.in-Some.device.now d (c.in-Some.ensures ∙ e)) (record { below = made.below; exact = made.exact })));
    }
