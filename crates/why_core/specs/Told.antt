-- What a run over the groups tells: their explanation, or a group of which the report says something else.
use Rattle.std.specs.Prelude.{◌≡◌, true, false, List, Some, Contains}
use Rattle.std.specs.List.{list_all}
use Rattle.net_types.specs.declared.network.Place.{Place}
use Rattle.net_types.specs.declared.network.Section.{Section}
use Rattle.why_core.specs.declared.explain.Told.{Told}
use Rattle.why_core.specs.declared.explain.Told.TheVariants.{Explained, Other}
use Rattle.why_core.specs.declared.words.Manner.{Manner}
use Rattle.why_core.specs.Cases.{Case, Ground, explained, is_right}
use Rattle.why_core.specs.Shown.{IsShown}
use Rattle.why_core.specs.Lines.{head_or_end}
use Rattle.why_core.specs.Why.{IsExplanation, IsOther}

-- what is said of a report
abbrev pub IsTold : Ground → List Place → Manner → List Section → Told → Type 0
IsTold g ingress m sections (Explained text) = IsExplanation g ingress m sections text.items
IsTold g ingress m sections (Other line) = IsOther g ingress m.all sections line.items

-- the report says of each group what both networks do
abbrev pub AreRight : Ground → List Case → Type 0
AreRight g cs = list_all (is_right g) cs ≡ true

-- it says something else of this one
abbrev pub IsWrong : Ground → List Case → Case → Type 0
IsWrong g cs case = Contains cs case × (is_right g case ≡ false)

-- what is said of these groups
abbrev pub IsToldOf : Ground → List Case → Manner → Told → Type 0
IsToldOf g cs m (Explained text) = AreRight g (explained m.all cs) × IsShown g m cs text.items
IsToldOf g cs m (Other line) = (case : Case) × IsWrong g (explained m.all cs) case × (line.items ≡ head_or_end g.report (Some case.section))
