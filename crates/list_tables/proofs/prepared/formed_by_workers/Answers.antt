use Rattle.std.proofs.Common.{List, subst}
use Rattle.net_types.specs.declared.network.NetDevice.{NetDevice}
use Rattle.net_forms.specs.Known.{AreKnownFates, AreKnownLists}
use Rattle.list_tables.proofs.prepared.formed_by_workers.Goals as goal

pub formed_with-requires-clause-lists : goal.formed_with-requires-clause-lists
formed_with-requires-clause-lists g c =
    let lists = c.in_ok-known.known.lists in
    subst (λ (ds : List NetDevice). AreKnownLists lists.tables.diagrams ds lists.old_lists.items) c.as_slice.ensures c.in_ok-known.ensures.lists.old

pub formed_with-requires-clause-fates : goal.formed_with-requires-clause-fates
formed_with-requires-clause-fates g c =
    let tables = c.in_ok-known.known.lists.tables in
    subst (λ (ds : List NetDevice). AreKnownFates tables.diagrams tables.fates ds c.in_ok-known.known.old_fates.items) c.as_slice.ensures c.in_ok-known.ensures.old_fates
