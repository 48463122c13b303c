use Rattle.net_forms.proofs.FormLemmas.{all_fates_kept, tables_then}
use Rattle.list_tables.proofs.prepared.fates_of_both.Goals as goal

pub returns-clause-old : goal.returns-clause-old
returns-clause-old g c =
    all_fates_kept c.fates_by_workers.new.tables c.fates_by_workers-2.new.tables c.args.both.old.now c.in_ok-old.old.items c.in_ok-new.ensures.kept c.in_ok-old.ensures.fates

pub returns-clause-kept : goal.returns-clause-kept
returns-clause-kept g c =
    tables_then c.args.tables.now c.fates_by_workers.new.tables c.fates_by_workers-2.new.tables c.in_ok-old.ensures.kept c.in_ok-new.ensures.kept
