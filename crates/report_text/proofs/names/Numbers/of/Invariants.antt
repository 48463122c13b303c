use Rattle.std.proofs.Common.{◌≡◌, take, map}
use Rattle.report_text.proofs.names.Numbers.of.Given as goal

abbrev pub invariant-loop-text : goal.invariant-loop-text
invariant-loop-text l = map (λ v. v.items) l.found.keys ≡ take l.text-index l.names.texts
