use Rattle.std.proofs.Common.{◌≡◌, [], drop, take}
use Rattle.edits_core.specs.Edits.{Makes, network_after}
use Rattle.edits_core.proofs.editing.make_all.Given as goal

abbrev pub invariant-loop-line : goal.invariant-loop-line
invariant-loop-line l = record {
  made : Makes l.initial.review.baseline l.initial.review.edited (take l.line-index l.lines) l.review.edited [] l.text.items;
  baseline : l.review.baseline ≡ l.initial.review.baseline;
  ttl : l.review.ttl ≡ l.initial.review.ttl;
  goes : network_after l.review.edited (drop l.line-index l.lines) ≡ network_after l.initial.review.edited l.lines;
}
