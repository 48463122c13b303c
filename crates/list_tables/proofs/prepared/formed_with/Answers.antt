use Rattle.std.proofs.Common.{ℕ, List, Option, sym, subst}
use Rattle.net_forms.specs.declared.forms.DeviceLists.{DeviceLists}
use Rattle.net_forms.specs.Known.{AreKnownFates, AreKnownLists}
use Rattle.list_tables.proofs.prepared.formed_with.Goals as goal

pub with_known-requires : goal.with_known-requires
with_known-requires c =
    let ds = c.args.world.network.now.devices in
    let tables = c.args.known.lists.tables in
    record {
      lists = subst (λ (ks : List DeviceLists). AreKnownLists tables.diagrams ds ks) (sym c.deref.ensures.value) c.requires.lists;
      fates = subst (λ (ks : List (Option ℕ)). AreKnownFates tables.diagrams tables.fates ds ks) (sym c.deref-2.ensures.value) c.requires.fates;
    }
