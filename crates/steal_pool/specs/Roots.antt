-- Roots, one in each slot.
use Rattle.std.specs.Prelude.{ℕ, ◌+◌, List, [], ◌∷◌}
use Rattle.hdr_bits.specs.declared.cube.Cube.{Cube}
use Rattle.cube_alg.specs.declared.Region.{Region}

-- the cubes as regions, the first in this slot and each other one in the next slot
abbrev pub in_slots : ℕ → List Cube → List Region
in_slots slot [] = []
in_slots slot (c ∷ cs) = record { slot = slot; cube = c } ∷ in_slots (slot + 1) cs
