use Rattle.std.proofs.Common.{◌≡◌, map}
use Rattle.std.specs.Prelude.{filter}
use Rattle.net_text.specs.Texts.{is_word}
use Rattle.why_core.proofs.json.told_lines.Given as goal

abbrev pub invariant-loop-line : goal.invariant-loop-line
invariant-loop-line l = map (λ line. line.now) l.lines.items ≡ filter is_word (map (λ line. line.now) l.yielded)
