-- Digits that a stamp writes.
use Rattle.std.proofs.Common.{ℕ, ◌≡◌, ◌<◌, ◌↔◌, Option, Some, None, IfSome, IsNone, refl}
use Rattle.hdr_bits.specs.declared.header.Header.{Header}
use Rattle.hdr_bits.specs.declared.cube.Cube.{Cube}
use Rattle.hdr_bits.specs.Bits.{bit_of}
use Rattle.hdr_bits.specs.HeaderBits.{number, IsHeader}
use Rattle.hdr_bits.specs.CubeBits.{digit_at, IsIn, IsStar}
use Rattle.hdr_bits.proofs.Masks.{fixed_from_agrees}
use Rattle.cube_alg.specs.declared.stamp.Stamp.{Stamp}
use Rattle.cube_alg.specs.Stamps.{applied, IsMadeFrom}
use Rattle.cube_alg.proofs.SplitLemmas.{free_star}
use Rattle.cube_diagram.specs.Images.{IsOverwritten}

star_agrees : (o : Option ℕ) (P : ℕ → Type 0) → IsNone o → IfSome o P
star_agrees None P n = tt
star_agrees (Some v) P n = absurd cc

pub overwritten : (s : Stamp) (a d : Cube) (h : Header) → ((k : ℕ) → k < 112 → IsStar a k) → ((g : Header) → IsHeader g → IsIn d (number g) ↔ IsMadeFrom s a g) → ((k : ℕ) → IsStar d k → (h : Header) → IsHeader h → bit_of (number (applied s h)) k ≡ bit_of (number h) k) → IsHeader h → IsHeader (applied s h) → IsOverwritten d (number h) (number (applied s h))
overwritten s a d h all made kept v w k l =
    let inside : IsIn a (number h) = λ i m. star_agrees (digit_at a i) (λ b. bit_of (number h) i ≡ b) (all i m) in
    let there : IsIn d (number (applied s h)) = (made (applied s h) w).1 (h, v, inside, refl) in
    (λ f. fixed_from_agrees d (number (applied s h)) k (there k l) f, λ z. kept k (free_star d k z) h v)
