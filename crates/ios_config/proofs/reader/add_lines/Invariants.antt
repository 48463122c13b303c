use Rattle.std.proofs.Common.{◌≡◌, drop}
use Rattle.std.specs.Prelude.{None}
use Rattle.ios_config.specs.Reads.{early}
use Rattle.ios_config.specs.Draft.{parts, parts_of}
use Rattle.ios_config.proofs.Folds.{so_far}
use Rattle.ios_config.proofs.Shapes.{Room}
use Rattle.ios_config.proofs.reader.add_lines.Given as goal

abbrev pub invariant-loop-line : goal.invariant-loop-line
invariant-loop-line l = record {
  early : early (so_far l.bytes l.lines l.line-index) ≡ None;
  parts : parts l.draft ≡ parts_of (so_far l.bytes l.lines l.line-index);
  room : Room l.draft.passed l.draft.covered (drop l.line-index l.lines);
}
