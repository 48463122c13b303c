use Rattle.std.proofs.Common.{map, arith}
use Rattle.report_groups.proofs.Counting.{all_counted, settled_rows}
use Rattle.report_groups.proofs.Joins.{grouping}
use Rattle.report_groups.proofs.groups.group_rows.Goals as goal

pub returns : goal.returns
returns c =
    record {
      groups = grouping c.in_ok-drafts.drafts.items c.args.rows.now c.in_ok-settled.settled.items (map (λ e. e.group) c.in_ok-entries.entries.items) c.in_ok-drafts.ensures c.in_ok-settled.ensures c.in_ok-entries.ensures.groups;
      each = c.in_ok-entries.ensures.each;
    }

pub finish-requires : goal.finish-requires
finish-requires c =
    let n = settled_rows c.in_ok-drafts.drafts.items c.args.rows.now c.in_ok-settled.settled.items c.in_ok-drafts.ensures c.in_ok-settled.ensures in
    all_counted c.in_ok-settled.settled.items (omega (arith, n))
