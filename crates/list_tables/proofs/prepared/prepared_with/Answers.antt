use Rattle.std.proofs.Common.{ℕ, List, Option, sym, subst}
use Rattle.net_forms.specs.declared.forms.DeviceLists.{DeviceLists}
use Rattle.net_forms.specs.Known.{AreKnownFates, AreKnownLists}
use Rattle.list_tables.proofs.prepared.prepared_with.Goals as goal

pub with_known-requires-clause-old : goal.with_known-requires-clause-old
with_known-requires-clause-old c =
    let ds = c.args.networks.old.network.now.devices in
    let tables = c.args.known.lists.tables in
    record {
      lists = subst (λ (ks : List DeviceLists). AreKnownLists tables.diagrams ds ks) (sym c.deref.ensures.value) c.requires.old;
      fates = subst (λ (ks : List (Option ℕ)). AreKnownFates tables.diagrams tables.fates ds ks) (sym c.deref-2.ensures.value) c.requires.old_fates;
    }

pub with_known-requires-clause-new : goal.with_known-requires-clause-new
with_known-requires-clause-new c =
    let ds = c.args.networks.new.network.now.devices in
    let tables = c.args.known.lists.tables in
    record {
      lists = subst (λ (ks : List DeviceLists). AreKnownLists tables.diagrams ds ks) (sym c.deref-3.ensures.value) c.requires.new;
      fates = subst (λ (ks : List (Option ℕ)). AreKnownFates tables.diagrams tables.fates ds ks) (sym c.deref-4.ensures.value) c.requires.new_fates;
    }
