-- The groups of an ingress as a person reads them.
use Rattle.std.specs.Prelude.{◌≡◌, List, map, length, All}
use Rattle.net_types.specs.declared.network.Row.{Row}
use Rattle.report_groups.specs.declared.types.Entry.{Entry}
use Rattle.report_groups.specs.Changes.{change_of}
use Rattle.report_groups.specs.Groups.{cells_of, IsGrouping}
use Rattle.report_groups.specs.Shown.{ShowsGroup}

-- what is shown of a group: what the change does to its packets, exactly its headers, and how many rows it stands for
pub record IsEntry (e : Entry) : Type 0 where
  pub change : e.change ≡ change_of e.group.old e.group.new
  pub headers : ShowsGroup e.group e.shown
  pub rows : e.rows ≡ length (cells_of e.group)

-- the groups are a grouping of the rows, and each is shown as it is
pub record AreEntries (rows : List Row) (entries : List Entry) : Type 0 where
  pub groups : IsGrouping rows (map (λ e. e.group) entries)
  pub each : All IsEntry entries
