-- The leaves of slots: each slot has one, whose value is the slot.
use Rattle.std.proofs.Common.{◌≡◌, ℕ, zero, suc, ◌+◌, ◌<◌, inl, inr, List, [], ◌∷◌, Option, Some, None, length, map, All, Any, refl, sym, subst, arith, true≢false}
use Rattle.std.specs.Prelude.{Contains, IsNone, IfSome}
use Rattle.std.proofs.lemmas.List.Elements.{All-head, All-tail, All-contains}
use Rattle.hdr_bits.specs.declared.cube.Cube.{Cube}
use Rattle.hdr_bits.specs.Bits.{bit_of}
use Rattle.hdr_bits.specs.CubeBits.{IsIn, IsStar, digit_at}
use Rattle.cube_alg.specs.declared.Region.{Region}
use Rattle.net_types.proofs.Members.{to_map}
use Rattle.task_board.specs.declared.leaf.Leaf.{Leaf}
use Rattle.task_board.specs.Regions.{Holds}
use Rattle.task_board.specs.Stands.{Answers, IsRight}
use Rattle.steal_pool.specs.Roots.{in_slots}

-- a slot among the roots has a leaf, whose value is the slot
pub leaf_of : (roots : List Region) (leaves : List (Leaf ℕ)) → Answers (λ slot h. Some slot) roots leaves → (k : ℕ) → Any (Holds k 0) roots → Contains (map (λ l. l.value) leaves) k
leaf_of roots leaves a k there = elim (a.rest k 0 (omega arith) there) [
  | inl any ↦
      let leaf = any.1 in
      let among : Contains leaves leaf = (any.0, any.2, any.3) in
      let right = (All-contains (IsRight (λ slot h. Some slot)) leaves leaf a.right among).value k 0 (omega arith) any.4 in
      let same : k ≡ leaf.value = cc in
      subst (Contains (map (λ l. l.value) leaves)) (sym same) (to_map (λ l. l.value) leaves leaf among)
  | inr none ↦ absurd cc
]
