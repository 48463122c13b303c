use Rattle.std.proofs.Common.{ℕ, ◌-◌, ◌^◌, ◌<◌, ◌↔◌, Option, List, arith}
use Rattle.std.proofs.lemmas.Nat.{xor_lt, pow_below}
use Rattle.std.proofs.lemmas.List.Elements.{All-weaker}
use Rattle.hdr_bits.specs.declared.cube.Cube.{Cube}
use Rattle.hdr_bits.specs.Bits.{flipped}
use Rattle.hdr_bits.specs.Rows.{IsRow, AreRows}
use Rattle.canon_rows.specs.Laws.{TellSameApart}

flipped_below : (h k : ℕ) → h < 2 ^ 112 → k < 112 → flipped h k < 2 ^ 112
flipped_below h k l i = let p : 111 - k < 112 = omega arith in xor_lt 112 h (2 ^ (111 - k)) l (pow_below (111 - k) 112 p)

turned : {V U : Type 0} (f : ℕ → Option V) (g : ℕ → Option U) → TellSameApart f g → TellSameApart g f
turned f g t = record { some = λ h l. ((t.some h l).1, (t.some h l).0); same = λ h k l i. ((t.same h k l i).1, (t.same h k l i).0) }

pub row_of_other : {V U : Type 0} (f : ℕ → Option V) (g : ℕ → Option U) → TellSameApart f g → (c : Cube) → IsRow f c → IsRow g c
row_of_other f g t c r =
    record {
      something = λ h l a. (t.some h l).0 (r.something h l a);
      star = λ k i. (λ s h l a. (t.same h (flipped h k) l (flipped_below h k l i)).0 ((r.star k i).0 s h l a), λ u. (r.star k i).1 (λ h l a. (t.same h (flipped h k) l (flipped_below h k l i)).1 (u h l a)));
    }

pub rows_of_other : {V U : Type 0} (f : ℕ → Option V) (g : ℕ → Option U) → TellSameApart f g → (rows : List Cube) → AreRows f rows → AreRows g rows
rows_of_other f g t rows a =
    record {
      each = All-weaker (IsRow f) (IsRow g) (row_of_other f g t) rows a.each;
      every = λ c r. a.every c (row_of_other g f (turned f g t) c r);
      ordered = a.ordered;
    }

pub rows_follow_differences : {V U : Type 0} (f : ℕ → Option V) (g : ℕ → Option U) → TellSameApart f g → (rows : List Cube) → AreRows f rows ↔ AreRows g rows
rows_follow_differences f g t rows = (rows_of_other f g t rows, rows_of_other g f (turned f g t) rows)
