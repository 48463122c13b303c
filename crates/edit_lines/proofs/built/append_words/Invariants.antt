use Rattle.std.proofs.Common.{◌≡◌, ◌++◌, take}
use Rattle.edit_lines.specs.Built.{spaced}
use Rattle.edit_lines.proofs.built.append_words.Given as goal

abbrev pub invariant-loop-word : goal.invariant-loop-word
invariant-loop-word l = l.out.items ≡ l.initial.out.items ++ spaced (take l.word-index l.words)
