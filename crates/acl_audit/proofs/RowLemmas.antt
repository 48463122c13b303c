-- Rows of equal functions.
use Rattle.std.proofs.Common.{ℕ, ◌≡◌, List, Option, IsSome, sym, ◌∙◌, subst}
use Rattle.std.proofs.lemmas.List.Elements.{All-weaker}
use Rattle.hdr_bits.specs.declared.cube.Cube.{Cube}
use Rattle.hdr_bits.specs.Bits.{flipped}
use Rattle.hdr_bits.specs.Rows.{IsRow, AreRows}

row_of_same : (f g : ℕ → Option ℕ) → ((h : ℕ) → f h ≡ g h) → (c : Cube) → IsRow f c → IsRow g c
row_of_same f g e c r =
    record {
      something = λ h l a. subst (λ x. IsSome x) (e h) (r.something h l a);
      star = λ k i. (λ s h l a. sym (e h) ∙ ((r.star k i).0 s h l a ∙ e (flipped h k)), λ u. (r.star k i).1 (λ h l a. e h ∙ (u h l a ∙ sym (e (flipped h k)))));
    }

pub rows_of_same : (f g : ℕ → Option ℕ) → ((h : ℕ) → f h ≡ g h) → (rows : List Cube) → AreRows f rows → AreRows g rows
rows_of_same f g e rows a =
    record {
      each = All-weaker (IsRow f) (IsRow g) (row_of_same f g e) rows a.each;
      every = λ c r. a.every c (row_of_same g f (λ h. sym (e h)) c r);
      ordered = a.ordered;
    }
