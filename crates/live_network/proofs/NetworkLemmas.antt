-- A device that stands in the place of the first one of its name.
use Rattle.std.proofs.Common.{ℕ, zero, suc, ◌≡◌, ◌<◌, ◌==◌, inl, inr, cond, Bool, true, false, List, [], ◌∷◌, Option, Some, None, Result, Ok, Err, OnErr, find, position, length, set, get_or, slice_get, refl, ap, sym, ◌∙◌, subst, arith}
use Rattle.std.proofs.lemmas.Bool.Decides.{eqb_tells, nat_tests}
use Rattle.std.proofs.lemmas.List.{length-set}
use Rattle.std.proofs.lemmas.List.Folds.{find_at, position_or_len-set}
use Rattle.net_forms.proofs.FindLemmas.{at_position, found}
use Rattle.net_types.specs.declared.network.Links.{Links}
use Rattle.net_types.specs.declared.network.NetDevice.{NetDevice}
use Rattle.net_types.specs.declared.network.Network.{Network}
use Rattle.net_types.specs.World.{World}
use Rattle.live_network.specs.Replaced.{IsReplaced, set_if_any, with_device}
use Rattle.live_network.proofs.ReplaceLemmas.{found_in, same_name}

pub get_set : {A : Type 0} (xs : List A) (i : ℕ) (y : A) → i < length xs → slice_get (set xs i y) i ≡ Some y
get_set [] i y l = absurd (omega (arith, l))
get_set (x ∷ xs) zero y l = refl
get_set (x ∷ xs) (suc i) y l = get_set xs i y (omega (arith, l))

pub get_or_is : {A : Type 0} (xs : List A) (i : ℕ) (x d : A) → slice_get xs i ≡ Some x → get_or xs i d ≡ x
get_or_is [] i x d e = absurd cc
get_or_is (y ∷ xs) zero x d e = cc
get_or_is (y ∷ xs) (suc i) x d e = get_or_is xs i x d e

pub set_back : {A : Type 0} (xs : List A) (i : ℕ) (x y : A) → slice_get xs i ≡ Some x → set (set xs i y) i x ≡ xs
set_back [] i x y e = refl
set_back (z ∷ xs) zero x y e = ap (λ u. u ∷ xs) (let s : z ≡ x = cc in sym s)
set_back (z ∷ xs) (suc i) x y e = ap (λ us. z ∷ us) (set_back xs i x y e)

-- a test that neither the new item nor the old one passes finds what it found
find_set : (p : NetDevice → Bool) (xs : List NetDevice) (i : ℕ) (x y : NetDevice) → slice_get xs i ≡ Some x → p x ≡ false → p y ≡ false → find p xs ≡ find p (set xs i y)
find_set p [] i x y e s t = refl
find_set p (z ∷ zs) zero x y e s t =
    let q : z ≡ x = cc in
    ap (λ b. cond b (Some z) (find p zs)) (ap p q ∙ s) ∙ sym (ap (λ b. cond b (Some y) (find p zs)) t)
find_set p (z ∷ zs) (suc i) x y e s t = ap (λ r. cond (p z) (Some z) r) (find_set p zs i x y e s t)

found_set : (p : NetDevice → Bool) (xs : List NetDevice) (i : ℕ) (x y : NetDevice) → position p xs ≡ Some i → slice_get xs i ≡ Some x → p y ≡ p x → find p (set xs i y) ≡ Some y
found_set p xs i x y e s n =
    let at = at_position p xs i (sym e) in
    let same : p y ≡ p (get_or xs i x) = n ∙ ap p (sym (get_or_is xs i x x s)) in
    find_at p (set xs i y) ∙ (ap (λ m. slice_get (set xs i y) m) (position_or_len-set p xs i y x same ∙ sym at.0) ∙ get_set xs i y at.1)

not_itself : (n m : ℕ) → (n ≡ m → ⊥) → (n == m) ≡ false
not_itself n m o = elim (eqb_tells n m) [ inl p ↦ absurd (o p.1) | inr p ↦ p.0 ]

module _ (devices : List NetDevice) (links : Links) (i : ℕ) (x y : NetDevice) (first : position (λ (d : NetDevice). d.name == y.name) devices ≡ Some i) (there : slice_get devices i ≡ Some x) where
  pub found_before : find (λ (d : NetDevice). d.name == y.name) devices ≡ Some x
  found_before = found (λ (d : NetDevice). d.name == y.name) devices i x (sym first) (sym there)

  x_named : x.name ≡ y.name
  x_named = same_name x.name y.name (found_in (λ (d : NetDevice). d.name == y.name) devices x found_before).1

  pub is_replaced : IsReplaced (record { network = record { devices = devices }; links = links }) (record { network = record { devices = set devices i y }; links = links }) x y
  is_replaced =
      record {
        links = refl;
        name = x_named;
        before = ap (λ n. find (λ (d : NetDevice). d.name == n) devices) x_named ∙ found_before;
        after = found_set (λ (d : NetDevice). d.name == y.name) devices i x y first there (ap (λ n. n == y.name) (sym x_named));
        others = λ n o.
            let other : y.name ≡ n → ⊥ = λ e. o (sym e) in
            find_set (λ (d : NetDevice). d.name == n) devices i x y there (not_itself x.name n (λ e. other (sym x_named ∙ e))) (not_itself y.name n other);
      }

pub put_nowhere : (network : Network) (y : NetDevice) → position (λ (d : NetDevice). d.name == y.name) network.devices ≡ None → network ≡ with_device y network
put_nowhere network y e = ap (λ o. record { devices = set_if_any o y network.devices }) (sym e)

-- ---- the same of a network

pub position_within : (network : Network) (y : NetDevice) (i : ℕ) → position (λ (d : NetDevice). d.name == y.name) network.devices ≡ Some i → i < length network.devices
position_within network y i e = (at_position (λ (d : NetDevice). d.name == y.name) network.devices i (sym e)).1

module _ (network new : Network) (i : ℕ) (y : NetDevice) (is : new ≡ record { devices = set network.devices i y }) where
  pub still_within : i < length network.devices → i < length new.devices
  still_within l = subst (λ (n : Network). i < length n.devices) (sym is) (subst (λ n. i < n) (sym (length-set network.devices i y)) l)

  pub stands : i < length network.devices → slice_get new.devices i ≡ Some y
  stands l = ap (λ (n : Network). slice_get n.devices i) is ∙ get_set network.devices i y l

  pub put_back : (x : NetDevice) (last : Network) → slice_get network.devices i ≡ Some x → last ≡ record { devices = set new.devices i x } → last ≡ network
  put_back x last there e = e ∙ (ap (λ (n : Network). record { devices = set n.devices i x }) is ∙ ap (λ ds. record { devices = ds }) (set_back network.devices i x y there))

  pub replaced_in : (links : Links) (x : NetDevice) → position (λ (d : NetDevice). d.name == y.name) network.devices ≡ Some i → slice_get network.devices i ≡ Some x → IsReplaced (record { network = network; links = links }) (record { network = new; links = links }) x y
  replaced_in links x first there = subst (λ (n : Network). IsReplaced (record { network = network; links = links }) (record { network = n; links = links }) x y) (sym is) (is_replaced network.devices links i x y first there)

  pub put_in : position (λ (d : NetDevice). d.name == y.name) network.devices ≡ Some i → new ≡ with_device y network
  put_in first = is ∙ ap (λ o. record { devices = set_if_any o y network.devices }) (sym first)

pub on_err : {T E : Type 0} (P : Type 0) (r : Result T E) → P → OnErr r P
on_err P (Ok _) p = tt
on_err P (Err _) p = p
