-- Texts that are counted one after the other.
use Rattle.std.proofs.Common.{ℕ, ◌<◌, ◌^◌, List, length, take, map, arith, Vec, Global}
use Rattle.std.specs.Prelude.{Result, Ok, Err, IfOk}
use Rattle.std.proofs.lemmas.List.{length-map, length-take}
use Rattle.text_tallies.specs.Tallies.{AreSeen, AreTallies}
use Rattle.text_tallies.specs.declared.tallies.Tallies.{Tallies}
use Rattle.text_tallies.specs.declared.tallies.Tally.{Tally}

-- a part of a list is no longer than it
pub mapped_short : {A B : Type 0} (f : A → B) (xs : List A) (i : ℕ) → i < length xs → length xs < 2 ^ 63 → length (map f (take i xs)) < 2 ^ 63
mapped_short f xs i low short = let a = length-map (take i xs) f in let b = length-take i xs in omega (arith, a, b, low, short)

-- the rows of a table are the tallies of what was counted
pub rows_are : {E : Type 0} (r : Result (Vec Tally Global) E) (ts : List (List ℕ)) (t : Tallies) → IfOk r (λ rows. (ts : List (List ℕ)) → AreSeen ts t → AreTallies ts rows.items) → AreSeen ts t
    → IfOk r (λ rows. AreTallies ts rows.items)
rows_are (Ok rows) ts t h are = h ts are
rows_are (Err e) ts t h are = h
