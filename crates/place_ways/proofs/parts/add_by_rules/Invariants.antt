use Rattle.std.proofs.Common.{take}
use Rattle.cube_diagram.specs.Functions.{Keeps}
use Rattle.set_walk.specs.Sets.{InSet}
use Rattle.place_ways.specs.Parts.{AddsParts, IsAmong, rule_of, translates}
use Rattle.place_ways.proofs.parts.add_by_rules.Given as goal

abbrev pub invariant-loop-rule : goal.invariant-loop-rule
invariant-loop-rule l = record {
  kept : Keeps l.fn.table l.table;
  added : AddsParts l.table (λ h. InSet l.fn.table l.given h × IsAmong (rule_of l.translation) (take l.rule-index l.rules) h) (λ h. translates l.translation h) l.fn.parts.items l.parts.items;
}
