-- Ingresses as slots: slot k is the k-th ingress, from 0.
use Rattle.std.specs.Prelude.{ℕ, ◌≡◌, List, Option, Some, None, length, slice_get}
use Rattle.net_types.specs.declared.network.Place.{Place}
use Rattle.net_types.specs.World.{World}
use Rattle.net_types.specs.Report.{affected}
use Rattle.pair_rows.specs.declared.leaves.SlotRows.{SlotRows}
use Rattle.pair_rows.specs.Pairs.{Pair, AreRowsWithPairs}

-- the two labels of a header, where they differ; nothing where there is no ingress
abbrev pub affected_at : World → World → ℕ → Option Place → ℕ → Option Pair
affected_at old new t None h = None
affected_at old new t (Some p) h = affected old new t p h

abbrev pub affected_in : World → World → ℕ → List Place → ℕ → ℕ → Option Pair
affected_in old new t ingress slot h = affected_at old new t (slice_get ingress slot) h

-- the canonical rows of each of so many slots, each with its pair
pub record AreRowsOfSlots (gives : ℕ → ℕ → Option Pair) (slots : ℕ) (all : List SlotRows) : Type 0 where
  pub count : length all ≡ slots
  pub rows : (k : ℕ) (s : SlotRows) → slice_get all k ≡ Some s → AreRowsWithPairs (gives k) s.rows.items
