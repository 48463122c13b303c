use Rattle.std.proofs.Common.{◌≡◌, ◌<◌, ◌+◌, ◌^◌, All, map, take}
use Rattle.canon_rows.specs.PlainRows.{plain, whole, with_zero}
use Rattle.canon_rows.proofs.halves.joined.Given as goal

abbrev pub invariant-loop-p : goal.invariant-loop-p
invariant-loop-p l =
    (map plain l.all.items ≡ map (with_zero l.shift) (map plain (take l.p-index l.low))) × All (λ p. p.cube.fixed < 2 ^ (l.shift + 1)) l.all.items

abbrev pub invariant-loop-q : goal.invariant-loop-q
invariant-loop-q l =
    (map plain l.all.items ≡ whole l.shift (map plain l.low) (map plain (take l.q-index l.high))) × All (λ p. p.cube.fixed < 2 ^ (l.shift + 1)) l.all.items
