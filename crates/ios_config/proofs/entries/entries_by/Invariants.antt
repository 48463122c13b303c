use Rattle.std.proofs.Common.{◌≡◌, drop}
use Rattle.ios_config.specs.Draft.{parts, parts_of}
use Rattle.ios_config.proofs.EntriesFound.{AreFound}
use Rattle.ios_config.proofs.Folds.{so_far}
use Rattle.ios_config.proofs.Shapes.{Room}
use Rattle.ios_config.proofs.entries.entries_by.Given as goal

abbrev pub invariant-loop-line : goal.invariant-loop-line
invariant-loop-line l = record {
  parts : parts l.draft ≡ parts_of (so_far l.bytes l.lines l.line-index);
  room : Room l.draft.passed l.draft.covered (drop l.line-index l.lines);
  found : AreFound l.bytes l.lines l.line-index l.found.items;
}
