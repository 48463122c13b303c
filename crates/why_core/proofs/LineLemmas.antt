-- Lines of a text, and their numbers.
use Rattle.std.proofs.Common.{◌≡◌, ℕ, ◌+◌, ◌<◌, ◌≤◌, Bool, true, false, cond, List, Some, None, length, refl, arith}
use Rattle.std.specs.Prelude.{IfSome, position, nat_lt}
use Rattle.std.specs.List.{position_or_len}
use Rattle.std.proofs.lemmas.Bool.{ltb-true}
use Rattle.std.proofs.lemmas.List.Sums.{count_by-le-length}
use Rattle.std.proofs.lemmas.List.Splits.{length-slice_split}
use Rattle.net_text.specs.Lines.{is_line_end}
use Rattle.view_core.specs.Names.{text_lines}

-- what is found is an item of the list
pub position_inside : {X : Type 0} (p : X → Bool) (xs : List X) → IfSome (position p xs) (λ k. k < length xs)
position_inside p xs = go (nat_lt (position_or_len p xs) (length xs)) refl
  where
    go : (t : Bool) → nat_lt (position_or_len p xs) (length xs) ≡ t → IfSome (cond t (Some (position_or_len p xs)) None) (λ k. k < length xs)
    go true e = ltb-true (position_or_len p xs) (length xs) e
    go false e = tt

-- a text has at most one line more than bytes
pub few_lines : (bytes : List ℕ) → length (text_lines bytes) ≤ length bytes + 1
few_lines bytes =
    let lines = length-slice_split is_line_end bytes in
    let ends = count_by-le-length is_line_end bytes in
    omega (arith, lines, ends)
