-- How devices and interfaces are found by positions.
use Rattle.std.specs.Prelude.{option_map, option_and_then}
use Rattle.net_types.specs.declared.config.Interface.{Interface}
use Rattle.net_types.specs.declared.network.NetDevice.{NetDevice}
use Rattle.net_types.specs.World.{Seat, seat_in}
use Rattle.std.proofs.Common.{ℕ, zero, suc, ◌≡◌, ◌<◌, inl, inr, Bool, cond, List, [], ◌∷◌, length, slice_get, Option, Some, None, refl, ap, sym, ◌∙◌, arith, find, position, nat_lt}
use Rattle.std.specs.List.{position_or_len}
use Rattle.std.proofs.lemmas.Bool.{cases_Bool}
use Rattle.std.proofs.lemmas.Bool.Decides.{nat_tests}
use Rattle.std.proofs.lemmas.List.Folds.{find_at}
use Rattle.std.proofs.lemmas.Option.{slice_get_past, slice_get_within}

pub there : {A : Type 0} (xs : List A) (n : ℕ) → n < length xs → (x : A) × (slice_get xs n ≡ Some x)
there [] n l = absurd (omega arith)
there (x ∷ xs) zero l = (x, refl)
there (x ∷ xs) (suc n) l = there xs n (omega arith)

module _ {A : Type 0} (p : A → Bool) (xs : List A) where
  pub at_position : (n : ℕ) → Some n ≡ position p xs → (n ≡ position_or_len p xs) × (n < length xs)
  at_position n e =
      elim (cases_Bool (nat_lt (position_or_len p xs) (length xs))) [
        | inl t ↦
            let s : Some n ≡ Some (position_or_len p xs) = e ∙ ap (λ b. cond b (Some (position_or_len p xs)) None) t in
            let q : n ≡ position_or_len p xs = cc in
            (q, grind (arith, nat_tests, t, q))
        | inr f ↦ (let s : Some n ≡ None = e ∙ ap (λ b. cond b (Some (position_or_len p xs)) None) f in absurd cc)
      ]

  pub found : (n : ℕ) (x : A) → Some n ≡ position p xs → Some x ≡ slice_get xs n → find p xs ≡ Some x
  found n x e s = find_at p xs ∙ (ap (λ m. slice_get xs m) (sym (at_position n e).0) ∙ sym s)

  pub not_found : None ≡ position p xs → find p xs ≡ None
  not_found e =
      elim (cases_Bool (nat_lt (position_or_len p xs) (length xs))) [
        | inl t ↦ (let s : None ≡ Some (position_or_len p xs) = e ∙ ap (λ b. cond b (Some (position_or_len p xs)) None) t in absurd cc)
        | inr f ↦ find_at p xs ∙ slice_get_past xs (position_or_len p xs) (grind (arith, nat_tests, f))
      ]

  pub is_there : (n : ℕ) → Some n ≡ position p xs → None ≡ slice_get xs n → ⊥
  is_there n e s = let t = there xs n (at_position n e).1 in let u : None ≡ Some t.0 = s ∙ t.1 in absurd cc

pub same_length : {A B : Type 0} (xs : List A) (ys : List B) (n : ℕ) (x : A) → length ys ≡ length xs → Some x ≡ slice_get xs n → None ≡ slice_get ys n → ⊥
same_length xs ys n x l s e =
    let w = slice_get_within xs n x (sym s) in
    let t = there ys n (omega (arith, w, l)) in
    let u : None ≡ Some t.0 = e ∙ t.1 in
    absurd cc

-- ---- the interface at a position of its device
parts : (d : NetDevice) (o : Option Interface) (m : Option ℕ) (s : Seat) → Some s ≡ option_and_then (λ f. option_map (λ n. record { place = record { device = d.name; interface = n }; device = d; interface = f }) m) o → (s.device ≡ d) × (o ≡ Some s.interface)
parts d None m s e = absurd cc
parts d (Some f) None s e = absurd cc
parts d (Some f) (Some n) s e =
    let q : s ≡ record { place = record { device = d.name; interface = n }; device = d; interface = f } = cc in
    (ap (λ (x : Seat). x.device) q, ap (λ (x : Seat). Some x.interface) (sym q))

pub seat_parts : (d : NetDevice) (i : ℕ) (s : Seat) → Some s ≡ seat_in d i → (s.device ≡ d) × (slice_get d.config.interfaces i ≡ Some s.interface)
seat_parts d i s e = parts d (slice_get d.config.interfaces i) (slice_get d.numbers i) s e
