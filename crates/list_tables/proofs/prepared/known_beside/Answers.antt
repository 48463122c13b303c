use Rattle.net_forms.proofs.FormLemmas.{lists_kept}
use Rattle.list_tables.proofs.prepared.known_beside.Goals as goal

pub returns : goal.returns
returns g c =
    let before = c.in_ok-lists.lists in
    let a = before.tables.diagrams in
    let b = c.fates_of_both.new.tables.diagrams in
    let kept = c.in_ok-fates.ensures.kept.diagrams in
    record {
      lists = record {
        old = lists_kept a b c.args.both.old.now before.old_lists.items kept c.in_ok-lists.ensures.old;
        new = lists_kept a b c.args.both.new.now before.new_lists.items kept c.in_ok-lists.ensures.new;
      };
      old_fates = c.in_ok-fates.ensures.old;
      new_fates = c.in_ok-fates.ensures.new;
    }
