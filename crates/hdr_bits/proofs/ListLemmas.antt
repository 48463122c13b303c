-- A list that grows at its end keeps what it has.
use Rattle.std.proofs.Common.{ℕ, zero, suc, ◌≡◌, ◌≤◌, List, [], ◌∷◌, ◌++◌, length, slice_get, Some, refl, sym, ap, ◌∙◌, arith}
use Rattle.std.proofs.lemmas.List.{append-nil, append_assoc, length-append}
use Rattle.hdr_bits.specs.Lists.{Extends}

pub extends_none : {A : Type 0} (xs : List A) → Extends xs xs
extends_none xs = record { more = []; added = sym (append-nil xs) }

pub extends_pushed : {A : Type 0} (xs : List A) (x : A) → Extends xs (xs ++ x ∷ [])
extends_pushed xs x = record { more = x ∷ []; added = refl }

pub extends_then : {A : Type 0} (xs ys zs : List A) → Extends xs ys → Extends ys zs → Extends xs zs
extends_then xs ys zs g h = record {
  more = g.more ++ h.more;
  added = h.added ∙ (ap (λ l. l ++ h.more) g.added ∙ append_assoc xs g.more h.more);
}

pub extends_length : {A : Type 0} (xs ys : List A) → Extends xs ys → length xs ≤ length ys
extends_length xs ys g = let l = length-append xs g.more in let e = ap length g.added in omega (arith, l, e)

there_in_front : {A : Type 0} (xs more : List A) (i : ℕ) (x : A) → slice_get xs i ≡ Some x → slice_get (xs ++ more) i ≡ Some x
there_in_front [] more i x e = absurd cc
there_in_front (y ∷ xs) more zero x e = e
there_in_front (y ∷ xs) more (suc i) x e = there_in_front xs more i x e

pub extends_get : {A : Type 0} (xs ys : List A) (i : ℕ) (x : A) → Extends xs ys → slice_get xs i ≡ Some x → slice_get ys i ≡ Some x
extends_get xs ys i x g e = ap (λ l. slice_get l i) g.added ∙ there_in_front xs g.more i x e
