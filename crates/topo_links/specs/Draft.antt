-- A link table that is read line by line.
use Rattle.std.specs.Prelude.{◌≡◌, List, ◌++◌, option_to_list, Option, Some, None, Result, Ok, Err}
use Rattle.topo_links.specs.declared.table.LinkLine.{LinkLine}
use Rattle.topo_links.specs.declared.table.LinkFail.{LinkFail}
use Rattle.topo_links.specs.declared.table.LinkFail.TheVariants as fail
use Rattle.topo_links.specs.declared.draft.Draft.{Draft}
use Rattle.topo_links.specs.Ends.{GivesFail}
use Rattle.topo_links.specs.Table.{Effect, segment_ends, ingress_ends, rows, first_fail}

-- the ends that are taken are those of the lines
pub record IsDraft (d : Draft) : Type 0 where
  pub segments : d.segment_ends ≡ segment_ends d.lines.items
  pub ingress : d.ingress_ends ≡ ingress_ends d.lines.items

-- behind these lines stands what the effect adds, or it is the refusal that is answered
abbrev pub Adds : {T : Type 0} → List LinkLine → List LinkLine → Result T LinkFail → Effect → Type 0
Adds before after (Ok _) effect = (row : Option LinkLine) × (effect ≡ Ok row) × (after ≡ before ++ option_to_list row)
Adds before after (Err e) effect = GivesFail e effect

-- no effect is a refusal, and these are the lines that they make; or the first refusal
pub record AreRows (es : List Effect) (ls : List LinkLine) : Type 0 where
  pub accepted : first_fail es ≡ None
  pub lines : ls ≡ rows es

abbrev pub FirstFail : LinkFail → List Effect → Type 0
FirstFail fail.NoMemory es = Unit {0}
FirstFail (fail.Refused k n word) es = first_fail es ≡ Some (fail.Refused k n word)

abbrev pub Drafted : {T : Type 0} → (T → List LinkLine) → List Effect → Result T LinkFail → Type 0
Drafted view es (Ok x) = AreRows es (view x)
Drafted view es (Err e) = FirstFail e es
