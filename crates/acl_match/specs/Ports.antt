-- Port ranges as blocks of ports that share their first bits.
use Rattle.std.specs.Prelude.{ℕ, ◌≡◌, ◌<◌, ◌≤◌, ◌^◌, ◌+◌, ◌*◌, ◌-◌, Bool, ◌&&◌, List, ◌++◌, length, nat_le, nat_lt, max}
use Rattle.std.specs.List.{list_any}
use Rattle.acl_match.specs.declared.block.Block.{Block}

-- the port is in the block
abbrev pub in_block : ℕ → Block → Bool
in_block p b = nat_le b.first p && nat_lt p (b.first + 2 ^ b.width)

-- how many blocks the ports from low to high take of a block from first up to end: none, one, about its width
-- where one end cuts it, and twice that where both do
pub record IsFew (low high first end width n : ℕ) : Type 0 where
  pub before : high < first → n ≡ 0
  pub behind : end ≤ low → n ≡ 0
  pub whole : low ≤ first → end ≤ high + 1 → n ≤ 1
  pub cut_low : end ≤ high + 1 → n ≤ max 1 width
  pub cut_high : low ≤ first → n ≤ max 1 width
  pub any : n ≤ max 1 (2 * width - 2)

-- blocks were added for the ports of a block from low to high
pub record AddsBlocks (low high first width : ℕ) (old new : List Block) : Type 0 where
  pub blocks : List Block
  pub added : new ≡ old ++ blocks
  pub exact : (p : ℕ) → list_any (in_block p) blocks ≡ ((nat_le first p && nat_lt p (first + 2 ^ width)) && (nat_le low p && nat_le p high))
  pub few : IsFew low high first (first + 2 ^ width) width (length blocks)
