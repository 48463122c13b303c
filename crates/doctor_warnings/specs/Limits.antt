-- What is counted: the limits of the model that a network meets, as far as what is refused tells them, and lines of one folder
-- alone on which the way of no packet depends.
use Rattle.std.specs.Prelude.{ℕ, List, Option, Some, None, filter_map, codes, if◌then◌else◌}
use Rattle.std.specs.Str.{bytes_eq}
use Rattle.look_alikes.specs.Naming.{is_prepared, refused_by}
use Rattle.doctor_warnings.specs.declared.limit.Limit.{Limit}
use Rattle.doctor_warnings.specs.declared.limit.LimitKind.{LimitKind}
use Rattle.doctor_warnings.specs.declared.limit.LimitKind.TheVariants as limit
use Rattle.doctor_warnings.specs.declared.warning.Reason.{Reason}
use Rattle.doctor_warnings.specs.declared.warning.Reason.TheVariants as reason
use Rattle.doctor_warnings.specs.declared.warning.Warning.{Warning}
use Rattle.doctor_warnings.specs.declared.warning.Warning.TheVariants as warning

abbrev pub refused_kind : List ℕ → LimitKind
refused_kind word = if is_prepared word then limit.Prepared else limit.Refused

-- a line that is refused because its command isn't covered
abbrev pub limit_at : List ℕ → ℕ → List ℕ → List ℕ → List ℕ → Option Limit
limit_at path n k word text =
    if bytes_eq k (codes "NotCovered") then Some (record { path = path; line = n; words = refused_by text word; kind = refused_kind word }) else None

-- a line of one folder alone on which the way of no packet depends
abbrev pub idle_at : List ℕ → ℕ → Reason → Option Limit
idle_at path n (reason.Looks look) = None
idle_at path n reason.OnlyHere = None
idle_at path n reason.Idle =
    Some (record { path = path; line = n; words = codes "lines of one folder alone that no packet depends on, as descriptions and logins"; kind = limit.Idle })

abbrev pub limit_of : Warning → Option Limit
limit_of (warning.Refused path n k word text) = limit_at path n k word text
limit_of (warning.Passed path n r text) = idle_at path n r
limit_of _ = None

abbrev pub counted_limits : List Warning → List Limit
counted_limits ws = filter_map limit_of ws
