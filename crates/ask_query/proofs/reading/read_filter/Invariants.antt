use Rattle.std.proofs.Common.{◌≡◌, length}
use Rattle.ask_query.specs.Reading.{filter_from, no_field}
use Rattle.ask_query.proofs.reading.read_filter.Given as goal

abbrev pub invariant-loop-name : goal.invariant-loop-name
invariant-loop-name l = filter_from l.line no_field l.words ≡ filter_from l.line (record { named = l.named.items; fixed = l.filter.fixed; bits = l.filter.bits }) l.rest

abbrev pub decreases-loop-name : goal.decreases-loop-name
decreases-loop-name l = length l.rest
