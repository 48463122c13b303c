use Rattle.std.proofs.Common.{◌≡◌, [], drop}
use Rattle.report_text.specs.Reading.{are_rising}
use Rattle.report_text.proofs.names.are_rising.Given as goal

abbrev pub invariant-loop-text : goal.invariant-loop-text
invariant-loop-text l = are_rising l.before (drop l.text-index l.texts) ≡ are_rising [] l.texts
