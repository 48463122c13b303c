use Rattle.list_tables.proofs.KnownLemmas.{nothing_known}
use Rattle.list_tables.proofs.known.nothing_known.Goals as goal

pub returns : goal.returns
returns c =
    let fs = c.in_ok-tables.tables.diagrams in
    record {
      old = nothing_known fs c.args.both.old.now c.in_ok-old_lists.old_lists.items c.in_ok-old_lists.ensures;
      new = nothing_known fs c.args.both.new.now c.in_ok-new_lists.new_lists.items c.in_ok-new_lists.ensures;
    }
