use Rattle.std.proofs.Common.{◌≡◌, ℕ, take, drop, length}
use Rattle.std.specs.List.{AllZip}
use Rattle.std.specs.Vec.Iter.{into_iter_items}
use Rattle.net_types.specs.World.{World}
use Rattle.net_types.specs.Report.{IsSection}
use Rattle.net_compare.specs.Slots.{AreRowsOfSlots, affected_in}
use Rattle.net_compare.proofs.known.sections_of.Given as goal

abbrev pub invariant-loop-place : goal.invariant-loop-place
invariant-loop-place l = record {
  rest : into_iter_items l.rest ≡ drop l.place-index l.fn.all.items;
  sections : (old new : World) (t : ℕ) → AreRowsOfSlots (affected_in old new t l.ingress) (length l.ingress) l.fn.all.items → AllZip (IsSection old new t) (take l.place-index l.ingress) l.sections.items;
}
