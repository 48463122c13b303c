use Rattle.std.proofs.Common.{ℕ, ◌≡◌, ◌≤◌, ◌<◌, true, get_or}
use Rattle.cube_alg.specs.declared.cut.Piece.{Piece}
use Rattle.cube_diagram.specs.Tries.{is_on}
use Rattle.cube_diagram.proofs.trie.all_on.Given as goal

abbrev pub invariant-loop-i : goal.invariant-loop-i
invariant-loop-i l = (j : ℕ) (d : Piece) → l.start ≤ j → j < l.i → is_on l.bit l.one (get_or l.pieces j d) ≡ true
