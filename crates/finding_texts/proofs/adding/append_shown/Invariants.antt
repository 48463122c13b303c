use Rattle.std.proofs.Common.{◌≡◌, ◌++◌, take}
use Rattle.finding_texts.specs.Shown.{shown}
use Rattle.finding_texts.proofs.adding.append_shown.Given as goal

abbrev pub invariant-loop-b : goal.invariant-loop-b
invariant-loop-b l = l.out.items ≡ l.fn.out.items ++ shown (take l.b-index l.text)
