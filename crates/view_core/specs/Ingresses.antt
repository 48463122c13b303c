-- The ingresses of a report with the groups of their rows.
use Rattle.std.specs.Prelude.{ℕ, Bool, ◌≡◌, ◌==◌, List, length, map, All, count_by}
use Rattle.std.specs.List.{sum_by}
use Rattle.net_types.specs.declared.network.Section.{Section}
use Rattle.report_groups.specs.declared.types.Change.{Change}
use Rattle.report_groups.specs.Entries.{AreEntries}
use Rattle.view_core.specs.declared.ingresses.Ingress.{Ingress}
use Rattle.view_core.specs.Kinds.{kind_count}

-- the groups are those of the rows of the ingress
abbrev pub IsIngress : Ingress → Type 0
IsIngress i = AreEntries i.section.rows i.groups

-- each section of a report with its groups
pub record AreIngresses (sections : List Section) (ingresses : List Ingress) : Type 0 where
  pub same : map (λ i. i.section) ingresses ≡ sections
  pub each : All IsIngress ingresses

-- no packet that enters there is treated differently
abbrev pub is_untouched : Ingress → Bool
is_untouched i = length i.section.rows == 0

-- at how many ingresses nothing changes
abbrev pub untouched : List Ingress → ℕ
untouched ingresses = count_by is_untouched ingresses

-- how many groups there are, and how many of one kind
abbrev pub group_count : List Ingress → ℕ
group_count ingresses = sum_by (λ i. length i.groups) ingresses

abbrev pub kind_total : List Ingress → Change → ℕ
kind_total ingresses kind = sum_by (λ i. kind_count i.groups kind) ingresses

abbrev pub all_rows : List Ingress → ℕ
all_rows ingresses = sum_by (λ i. length i.section.rows) ingresses
