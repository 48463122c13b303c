use Rattle.std.proofs.Common.{ℕ, ◌≡◌, ◌≤◌, ◌<◌, get_or}
use Rattle.hdr_bits.specs.Bits.{bit_of}
use Rattle.cube_alg.specs.declared.cut.Piece.{Piece}
use Rattle.cube_diagram.proofs.trie.divides.Given as goal

abbrev pub invariant-loop-i : goal.invariant-loop-i
invariant-loop-i l = (j : ℕ) (d : Piece) → l.start ≤ j → j < l.i → bit_of (get_or l.pieces j d).cube.fixed l.bit ≡ 0
