use Rattle.std.proofs.Common.{◌≡◌, ◌++◌, drop}
use Rattle.ios_config.specs.Reads.{early}
use Rattle.ios_config.specs.Draft.{parts, parts_of}
use Rattle.ios_config.specs.Passed.{passed_after, passed_lines}
use Rattle.ios_config.proofs.Folds.{so_far}
use Rattle.ios_config.proofs.Shapes.{Room}
use Rattle.ios_config.proofs.passed.survey_lines.Given as goal

abbrev pub invariant-loop-line : goal.invariant-loop-line
invariant-loop-line l = record {
  parts : parts l.survey.draft ≡ parts_of (so_far l.bytes l.lines l.line-index);
  room : Room l.survey.draft.passed l.survey.draft.covered (drop l.line-index l.lines);
  refusal : l.survey.refusal ≡ early (so_far l.bytes l.lines l.line-index);
  passed : l.survey.passed.items ++ passed_after l.bytes (so_far l.bytes l.lines l.line-index) l.survey.under (drop l.line-index l.lines) ≡ passed_lines l.bytes;
}
