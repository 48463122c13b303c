use Rattle.std.proofs.Common.{[], sym, subst}
use Rattle.net_forms.specs.Known.{AreKnownFates}
use Rattle.list_tables.proofs.KnownLemmas.{nothing_of_fates}
use Rattle.list_tables.proofs.prepared.nothing_made.Goals as goal

pub returns : goal.returns
returns c both =
    let tables = c.in_ok-lists.lists.tables in
    record {
      lists = c.in_ok-lists.ensures both;
      old_fates = subst (AreKnownFates tables.diagrams tables.fates both.old.now) (sym c.new-old_fates.ensures.items) (nothing_of_fates tables.diagrams tables.fates both.old.now [] (λ n o e. absurd cc));
      new_fates = subst (AreKnownFates tables.diagrams tables.fates both.new.now) (sym c.new-new_fates.ensures.items) (nothing_of_fates tables.diagrams tables.fates both.new.now [] (λ n o e. absurd cc));
    }
