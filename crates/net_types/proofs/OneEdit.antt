-- Networks whose devices are the same, one for one, but for those of one name differ only there.
use Rattle.std.proofs.Common.{ℕ, ◌≡◌, Bool, true, false, if◌then◌else◌, ◌==◌, List, [], ◌∷◌, Option, Some, None, find, position, slice_get, refl, ap, sym, ◌∙◌, subst, arith}
use Rattle.std.specs.Prelude.{option_and_then, option_map}
use Rattle.std.proofs.lemmas.Bool.Decides.{nat_tests}
use Rattle.net_types.specs.declared.config.Interface.{Interface}
use Rattle.net_types.specs.declared.network.NetDevice.{NetDevice}
use Rattle.net_types.specs.declared.network.Place.{Place}
use Rattle.net_types.specs.World.{World, seat_in, seat_numbered, seat_passes, has_live, has_silent}
use Rattle.net_types.specs.Edits.{DiffersOnlyAt, IsEdited, AreEdited}

-- the devices that are found for a name
FoundAlike : ℕ → ℕ → Option NetDevice → Option NetDevice → Type 0
FoundAlike d k None None = k ≡ k
FoundAlike d k None (Some y) = ⊥
FoundAlike d k (Some x) None = ⊥
FoundAlike d k (Some x) (Some y) = IsEdited d x y × (x.name ≡ k)

is_name : (n k : ℕ) → (n == k) ≡ true → n ≡ k
is_name n k e = grind (arith, nat_tests, e)

found : (d k : ℕ) (xs ys : List NetDevice) → AreEdited d xs ys → FoundAlike d k (find (λ x. x.name == k) xs) (find (λ x. x.name == k) ys)
unfolding FoundAlike
found d k [] [] a = refl
found d k [] (y ∷ ys) a = absurd a
found d k (x ∷ xs) [] a = absurd a
found d k (x ∷ xs) (y ∷ ys) a =
    subst (λ c. FoundAlike d k (if x.name == k then Some x else find (λ z. z.name == k) xs) (if c then Some y else find (λ z. z.name == k) ys)) (ap (λ n. n == k) a.0.name) (by (found d k xs ys a.1) (x.name == k) refl)
  where
    by : FoundAlike d k (find (λ z. z.name == k) xs) (find (λ z. z.name == k) ys) → (b : Bool) → (x.name == k) ≡ b → FoundAlike d k (if b then Some x else find (λ z. z.name == k) xs) (if b then Some y else find (λ z. z.name == k) ys)
    by rest true e = (a.0, is_name x.name k e)
    by rest false e = rest

same_seats : (d : ℕ) (p : Place) (o u : Option NetDevice) → FoundAlike d p.device o u → (p.device ≡ d → ⊥) → option_and_then (λ x. seat_numbered x p.interface) o ≡ option_and_then (λ x. seat_numbered x p.interface) u
unfolding FoundAlike
same_seats d p None None a n = refl
same_seats d p None (Some y) a n = absurd a
same_seats d p (Some x) None a n = absurd a
same_seats d p (Some x) (Some y) a n = ap (λ z. seat_numbered z p.interface) (a.0.other (λ e. n (sym a.1 ∙ e)))

-- what a test of its interface tells of a seat
told : (Interface → Bool) → Option Interface → Option ℕ → Bool
told test None n = false
told test (Some f) None = false
told test (Some f) (Some n) = test f

told_in : (test : Interface → Bool) (x : NetDevice) (i : ℕ) → seat_passes test (seat_in x i) ≡ told test (slice_get x.config.interfaces i) (slice_get x.numbers i)
unfolding told
told_in test x i = by (slice_get x.config.interfaces i) (slice_get x.numbers i)
  where
    by : (o : Option Interface) (u : Option ℕ) → seat_passes test (option_and_then (λ f. option_map (λ n. record { place = record { device = x.name; interface = n }; device = x; interface = f }) u) o) ≡ told test o u
    by None u = refl
    by (Some f) None = refl
    by (Some f) (Some n) = refl

passes_in : (test : Interface → Bool) (d : ℕ) (x y : NetDevice) (i : ℕ) → IsEdited d x y → seat_passes test (seat_in x i) ≡ seat_passes test (seat_in y i)
passes_in test d x y i a =
    told_in test x i ∙ ((λ j. told test (slice_get (a.interfaces j) i) (slice_get (a.numbers j) i)) ∙ sym (told_in test y i))

passes_numbered : (test : Interface → Bool) (d : ℕ) (x y : NetDevice) (k : ℕ) → IsEdited d x y → seat_passes test (seat_numbered x k) ≡ seat_passes test (seat_numbered y k)
passes_numbered test d x y k a = by (position (λ n. n == k) x.numbers) ∙ ap (λ ns. seat_passes test (option_and_then (seat_in y) (position (λ n. n == k) ns))) a.numbers
  where
    by : (o : Option ℕ) → seat_passes test (option_and_then (seat_in x) o) ≡ seat_passes test (option_and_then (seat_in y) o)
    by None = refl
    by (Some i) = passes_in test d x y i a

same_passes : (test : Interface → Bool) (d : ℕ) (p : Place) (o u : Option NetDevice) → FoundAlike d p.device o u → seat_passes test (option_and_then (λ x. seat_numbered x p.interface) o) ≡ seat_passes test (option_and_then (λ x. seat_numbered x p.interface) u)
unfolding FoundAlike
same_passes test d p None None a = refl
same_passes test d p None (Some y) a = absurd a
same_passes test d p (Some x) None a = absurd a
same_passes test d p (Some x) (Some y) a = passes_numbered test d x y p.interface a.0

pub edited_differs : (old new : World) (d : ℕ) → old.links ≡ new.links → AreEdited d old.network.devices new.network.devices → DiffersOnlyAt old new d
edited_differs old new d l a =
    let there = λ (p : Place). found d p.device old.network.devices new.network.devices a in
    record {
      segments = λ i. (l i).segments;
      others = λ p n. same_seats d p _ _ (there p) n;
      live = λ x p. same_passes (has_live x) d p _ _ (there p);
      silent = λ x p. same_passes (has_silent x) d p _ _ (there p);
    }
