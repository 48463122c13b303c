use Rattle.std.proofs.Common.{◌≡◌, ◌++◌, map, length}
use Rattle.ios_lines.proofs.book.EntryBook.into_entries.Given as goal

abbrev pub invariant-loop-entry : goal.invariant-loop-entry
invariant-loop-entry l = l.found.items ++ map (λ e. e.1) l.entries.entries ≡ map (λ e. e.1) l.fn.self

abbrev pub decreases-loop-entry : goal.decreases-loop-entry
decreases-loop-entry l = length l.entries.entries
