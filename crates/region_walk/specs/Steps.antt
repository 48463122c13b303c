-- What one step of the walk adds.
use Rattle.std.specs.Prelude.{◌≡◌, ℕ, List, ◌++◌}
use Rattle.std.specs.List.{AllByRecursion}
use Rattle.hdr_bits.specs.Lists.{Extends}
use Rattle.region_walk.specs.Lists.{AreOnce, AddsFrom, AreNumbersOf}

-- items were added where they weren't there, and their numbers
pub record AddsNumbers {A : Type 0} (items old new : List A) (before after : List ℕ) : Type 0 where
  pub adds : AddsFrom items old new
  pub numbers : List ℕ
  pub added : after ≡ before ++ numbers
  pub right : AreNumbersOf new numbers items

-- items were added, none twice, and all are of a kind
pub record GrowsWith {A : Type 0} (P : A → Type 0) (old new : List A) : Type 0 where
  pub extends : Extends old new
  pub once : AreOnce old → AreOnce new
  pub kept : AllByRecursion P new
