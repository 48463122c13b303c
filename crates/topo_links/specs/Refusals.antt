-- How the kinds of refusals are printed.
use Rattle.std.specs.Prelude.{ℕ, List, codes}
use Rattle.topo_links.specs.declared.table.LinkRefusal.{LinkRefusal}
use Rattle.topo_links.specs.declared.table.LinkRefusal.TheVariants as links

-- each by its own name
abbrev pub refusal_text : LinkRefusal → List ℕ
refusal_text links.BadWord = codes "BadWord"
refusal_text links.MissingWord = codes "MissingWord"
refusal_text links.EndTaken = codes "EndTaken"
refusal_text links.NoIngress = codes "NoIngress"
refusal_text links.UnknownDevice = codes "UnknownDevice"
refusal_text links.AddressTwice = codes "AddressTwice"
