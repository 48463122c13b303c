-- All headers of each slot, as roots.
use Rattle.std.proofs.Common.{◌≡◌, ℕ, zero, suc, ◌+◌, ◌<◌, List, [], ◌∷◌, length, All, Any, refl, subst, arith, true≢false}
use Rattle.std.proofs.lemmas.List.Elements.{All-head, All-tail}
use Rattle.hdr_bits.specs.declared.cube.Cube.{Cube}
use Rattle.std.specs.Prelude.{Option, Some, None, IsNone, IfSome}
use Rattle.hdr_bits.specs.Bits.{bit_of}
use Rattle.hdr_bits.specs.CubeBits.{IsIn, IsStar, digit_at}
use Rattle.task_board.specs.Regions.{Holds}
use Rattle.steal_pool.specs.Roots.{in_slots}

-- the root of a slot holds what its cube holds
pub slot_holds : (cs : List Cube) (slot k h : ℕ) → All (λ c. IsIn c h) cs → k < length cs → Any (Holds (slot + k) h) (in_slots slot cs)
slot_holds [] slot k h a l = absurd (omega arith)
slot_holds (c ∷ cs) slot zero h a l =
    let e : slot ≡ slot + 0 = omega arith in
    (0, record { slot = slot; cube = c }, omega arith, refl, record { same_slot = e; member = All-head (λ c. IsIn c h) c cs a })
slot_holds (c ∷ cs) slot (suc k) h a l =
    let later = slot_holds cs (slot + 1) k h (All-tail (λ c. IsIn c h) c cs a) (omega (arith, l)) in
    let e : (slot + 1) + k ≡ slot + suc k = omega arith in
    (suc later.0, later.1, (let within = later.2 in omega (arith, within)), later.3, subst (λ n. Holds n h later.1) e later.4)

star_agrees : (o : Option ℕ) (b : ℕ) → IsNone o → IfSome o (λ d. b ≡ d)
star_agrees None b n = tt
star_agrees (Some d) b n = absurd (true≢false n)

-- a cube of stars holds every header
pub star_holds : (c : Cube) (h : ℕ) → ((k : ℕ) → k < 112 → IsStar c k) → IsIn c h
star_holds c h stars k l = star_agrees (digit_at c k) (bit_of h k) (stars k l)
