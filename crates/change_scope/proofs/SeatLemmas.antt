-- The interfaces of two devices, side by side.
use Rattle.std.proofs.Common.{ℕ, zero, suc, ◌≡◌, ◌<◌, ◌+◌, Bool, cond, List, [], ◌∷◌, length, slice_get, Option, Some, None, refl, ap, sym, ◌∙◌, subst, position, arith, not, nat_lt}
use Rattle.std.specs.Prelude.{Contains, ◌==◌, option_and_then, option_map}
use Rattle.std.specs.List.{position_or_len, prefix_len}
use Rattle.std.proofs.lemmas.List.Elements.{Contains-get_or}
use Rattle.std.proofs.lemmas.Option.{get_or_from_slice_get, slice_get_within}
use Rattle.net_types.specs.declared.config.Interface.{Interface}
use Rattle.net_types.specs.declared.network.NetDevice.{NetDevice}
use Rattle.net_types.specs.Routes.{same_text}
use Rattle.net_types.specs.World.{Seat, seat_in, seat_numbered, seat_named}

pub item_there : {A : Type 0} (xs : List A) (n : ℕ) → n < length xs → (x : A) × (slice_get xs n ≡ Some x)
item_there [] n l = absurd (omega (arith, l))
item_there (x ∷ xs) zero l = (x, refl)
item_there (x ∷ xs) (suc n) l = item_there xs n (omega (arith, l))

pub among : {A : Type 0} (xs : List A) (i : ℕ) (n : A) → slice_get xs i ≡ Some n → Contains xs n
among xs i n e = subst (Contains xs) (get_or_from_slice_get xs i n n e) (Contains-get_or xs i n (slice_get_within xs i n e))

-- a test that says the same of each two at one position finds the same position
prefix_same : {A : Type 0} (p : A → Bool) (xs ys : List A) → length ys ≡ length xs → ((i : ℕ) (x y : A) → slice_get xs i ≡ Some x → slice_get ys i ≡ Some y → p x ≡ p y) → prefix_len p xs ≡ prefix_len p ys
prefix_same p [] [] l e = refl
prefix_same p [] (y ∷ ys) l e = absurd (omega (arith, l))
prefix_same p (x ∷ xs) [] l e = absurd (omega (arith, l))
prefix_same p (x ∷ xs) (y ∷ ys) l e =
    let t = e 0 x y refl refl in
    let s = prefix_same p xs ys (omega (arith, l)) (λ i u v a b. e (suc i) u v a b) in
    ap (λ b. cond b (1 + prefix_len p xs) 0) t ∙ ap (λ n. cond (p y) (1 + n) 0) s

pub same_position : {A : Type 0} (p : A → Bool) (xs ys : List A) → length ys ≡ length xs → ((i : ℕ) (x y : A) → slice_get xs i ≡ Some x → slice_get ys i ≡ Some y → p x ≡ p y) → position p xs ≡ position p ys
same_position p xs ys l e =
    let s = prefix_same (λ x. not (p x)) xs ys l (λ i x y a b. ap not (e i x y a b)) in
    ap (λ n. cond (nat_lt (position_or_len p xs) n) (Some (position_or_len p xs)) None) (sym l) ∙ ap (λ n. cond (nat_lt n (length ys)) (Some n) None) s

module _ (d e : NetDevice) (same_name : d.name ≡ e.name) (same_numbers : d.numbers ≡ e.numbers) (same_count : length e.config.interfaces ≡ length d.config.interfaces) (Alike : Interface → Interface → Type 0) (alike : (i : ℕ) (x y : Interface) → slice_get d.config.interfaces i ≡ Some x → slice_get e.config.interfaces i ≡ Some y → Alike x y) (P : Option Seat → Option Seat → Type 0) (none : P None None) (some : (x y : Interface) (n : ℕ) → Contains d.numbers n → Alike x y → P (Some (record { place = record { device = d.name; interface = n }; device = d; interface = x })) (Some (record { place = record { device = d.name; interface = n }; device = e; interface = y }))) where
  first : Option ℕ → Option Interface → Option Seat
  first m o = option_and_then (λ f. option_map (λ n. record { place = record { device = d.name; interface = n }; device = d; interface = f }) m) o

  second : ℕ → Option ℕ → Option Interface → Option Seat
  second name m o = option_and_then (λ f. option_map (λ n. record { place = record { device = name; interface = n }; device = e; interface = f }) m) o

  both : (i : ℕ) (o q : Option Interface) (m : Option ℕ) → slice_get d.config.interfaces i ≡ o → slice_get e.config.interfaces i ≡ q → slice_get d.numbers i ≡ m → P (first m o) (second d.name m q)
  unfolding first second
  both i None None m a b c = none
  both i None (Some y) m a b c =
      let w = slice_get_within e.config.interfaces i y b in
      let t = item_there d.config.interfaces i (omega (arith, w, same_count)) in
      let s : None ≡ Some t.0 = sym a ∙ t.1 in
      absurd cc
  both i (Some x) None m a b c =
      let w = slice_get_within d.config.interfaces i x a in
      let t = item_there e.config.interfaces i (omega (arith, w, same_count)) in
      let s : None ≡ Some t.0 = sym b ∙ t.1 in
      absurd cc
  both i (Some x) (Some y) None a b c = none
  both i (Some x) (Some y) (Some n) a b c = some x y n (among d.numbers i n c) (alike i x y a b)

  pub seats_in : (i : ℕ) → P (seat_in d i) (seat_in e i)
  unfolding first second
  seats_in i =
      let b = both i (slice_get d.config.interfaces i) (slice_get e.config.interfaces i) (slice_get d.numbers i) refl refl refl in
      let s = subst (λ name. P (seat_in d i) (second name (slice_get d.numbers i) (slice_get e.config.interfaces i))) same_name b in
      subst (λ (ns : List ℕ). P (seat_in d i) (second e.name (slice_get ns i) (slice_get e.config.interfaces i))) same_numbers s

  pub seats_by : (o : Option ℕ) → P (option_and_then (seat_in d) o) (option_and_then (seat_in e) o)
  seats_by None = none
  seats_by (Some i) = seats_in i

  pub seats_numbered : (i : ℕ) → P (seat_numbered d i) (seat_numbered e i)
  seats_numbered i =
      subst (λ (ns : List ℕ). P (seat_numbered d i) (option_and_then (seat_in e) (position (λ n. n == i) ns))) same_numbers (seats_by (position (λ n. n == i) d.numbers))

  pub seats_named : (name : List ℕ) → ((x y : Interface) → Alike x y → x.name ≡ y.name) → P (seat_named d name) (seat_named e name)
  seats_named name names =
      let t : position (λ i. same_text i.name name) d.config.interfaces ≡ position (λ i. same_text i.name name) e.config.interfaces = same_position (λ i. same_text i.name name) d.config.interfaces e.config.interfaces same_count (λ i x y a b. ap (λ n. same_text n name) (names x y (alike i x y a b))) in
      subst (λ o. P (seat_named d name) (option_and_then (seat_in e) o)) t (seats_by (position (λ i. same_text i.name name) d.config.interfaces))
