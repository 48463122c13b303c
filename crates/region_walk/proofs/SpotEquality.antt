-- The derived test of spots tells whether they are equal.
use Rattle.std.proofs.Common.{◌≡◌, ℕ, zero, suc, Bool, true, false, ◌&&◌, List, [], ◌∷◌, ◌++◌, Option, Some, None, slice_get, refl, sym, ap, ◌∙◌, if◌then◌else◌}
use Rattle.std.specs.Option.{option_eq}
use Rattle.std.specs.Prelude.{nat_eq}
use Rattle.std.specs.List.{IsDistinct}
use Rattle.std.proofs.lemmas.Bool.Decides.{Decides-eqb}
use Rattle.std.proofs.lemmas.List.{append-nil}
use Rattle.net_types.proofs.Members.{in_none}
use Rattle.region_walk.specs.Lists.{AreOnce, AddsFrom}
use Rattle.region_walk.proofs.NumberLemmas.{all_got}
use Rattle.region_walk.specs.declared.spot.Spot.{Spot}
use Rattle.region_walk.specs.contracts.spot.SpotPartialEq.TheImpl.{eq-value}

both : (a b : Bool) → (a && b) ≡ true → (a ≡ true) × (b ≡ true)
both true b e = (refl, e)
both false b e = absurd cc

field : (a b : Option ℕ) → option_eq nat_eq a b ≡ true → a ≡ b
field None None e = refl
field None (Some y) e = absurd cc
field (Some x) None e = absurd cc
field (Some x) (Some y) e = ap Some ((Decides-eqb x y).0 e)

pub same_spot : (s t : Spot) → eq-value.it s t ≡ true → s ≡ t
same_spot s t e =
    let h1 = both _ _ e in
    let p = both _ _ h1.0 in
    let h2 = both _ _ h1.1 in
    let h3 = both _ _ h2.1 in
    let h4 = both _ _ h3.1 in
    λ i. record {
      place = record { device = (Decides-eqb s.place.device t.place.device).0 p.0 i; interface = (Decides-eqb s.place.interface t.place.interface).0 p.1 i };
      src = field s.src t.src h2.0 i;
      dst = field s.dst t.dst h3.0 i;
      sport = field s.sport t.sport h4.0 i;
      dport = field s.dport t.dport h4.1 i;
    }

-- ---- each spot once

together : (a b : Bool) → a ≡ true → b ≡ true → (a && b) ≡ true
together true true d e = refl
together true false d e = cc
together false b d e = cc

field_self : (o : Option ℕ) → option_eq nat_eq o o ≡ true
field_self None = refl
field_self (Some x) = (Decides-eqb x x).1 refl

spot_self : (s : Spot) → eq-value.it s s ≡ true
spot_self s =
    together _ _ (together _ _ ((Decides-eqb s.place.device s.place.device).1 refl) ((Decides-eqb s.place.interface s.place.interface).1 refl))
    (together _ _ (field_self s.src) (together _ _ (field_self s.dst) (together _ _ (field_self s.sport) (field_self s.dport))))

apart : (x y : Spot) → eq-value.it x y ≡ false → x ≡ y → ⊥
apart x y f e = let both : false ≡ true = sym f ∙ ap (eq-value.it x) (sym e) ∙ spot_self x in cc

one_position : (xs : List Spot) → IsDistinct eq-value.it xs → (i j : ℕ) (x : Spot) → slice_get xs i ≡ Some x → slice_get xs j ≡ Some x → i ≡ j
unfolding IsDistinct
one_position [] d i j x a b = cc
one_position (y ∷ ys) d zero zero x a b = refl
one_position (y ∷ ys) d (suc i) (suc j) x a b = ap suc (one_position ys d.1 i j x a b)
one_position (y ∷ ys) d zero (suc j) x a b = let e : y ≡ x = cc in absurd (apart y x (all_got (λ z. eq-value.it y z ≡ false) ys j x d.0 b) e)
one_position (y ∷ ys) d (suc i) zero x a b = let e : y ≡ x = cc in absurd (apart y x (all_got (λ z. eq-value.it y z ≡ false) ys i x d.0 a) e)

pub spots_once : (xs : List Spot) → IsDistinct eq-value.it xs → AreOnce xs
spots_once xs d = record { one = one_position xs d }

-- a key that was inserted
pub adds_one : (s : Spot) (old new : List Spot) (there : Bool) → new ≡ (if there then old else old ++ (s ∷ [])) → AreOnce new → AddsFrom (s ∷ []) old new
adds_one s old new true e once = record { more = []; added = e ∙ sym (append-nil old); among = λ x c. absurd (in_none x c); once = λ o. once }
adds_one s old new false e once = record { more = s ∷ []; added = e; among = λ x c. c; once = λ o. once }
