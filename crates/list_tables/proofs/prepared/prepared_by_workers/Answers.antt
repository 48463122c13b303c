use Rattle.std.proofs.Common.{List, subst}
use Rattle.net_types.specs.declared.network.NetDevice.{NetDevice}
use Rattle.net_forms.specs.Known.{AreKnownFates, AreKnownLists}
use Rattle.list_tables.proofs.prepared.prepared_by_workers.Goals as goal

pub prepared_with-requires-clause-old : goal.prepared_with-requires-clause-old
prepared_with-requires-clause-old g c =
    let lists = c.in_ok-known.known.lists in
    subst (λ (ds : List NetDevice). AreKnownLists lists.tables.diagrams ds lists.old_lists.items) c.as_slice.ensures c.in_ok-known.ensures.lists.old

pub prepared_with-requires-clause-new : goal.prepared_with-requires-clause-new
prepared_with-requires-clause-new g c =
    let lists = c.in_ok-known.known.lists in
    subst (λ (ds : List NetDevice). AreKnownLists lists.tables.diagrams ds lists.new_lists.items) c.as_slice-2.ensures c.in_ok-known.ensures.lists.new

pub prepared_with-requires-clause-old_fates : goal.prepared_with-requires-clause-old_fates
prepared_with-requires-clause-old_fates g c =
    let tables = c.in_ok-known.known.lists.tables in
    subst (λ (ds : List NetDevice). AreKnownFates tables.diagrams tables.fates ds c.in_ok-known.known.old_fates.items) c.as_slice.ensures c.in_ok-known.ensures.old_fates

pub prepared_with-requires-clause-new_fates : goal.prepared_with-requires-clause-new_fates
prepared_with-requires-clause-new_fates g c =
    let tables = c.in_ok-known.known.lists.tables in
    subst (λ (ds : List NetDevice). AreKnownFates tables.diagrams tables.fates ds c.in_ok-known.known.new_fates.items) c.as_slice-2.ensures c.in_ok-known.ensures.new_fates
