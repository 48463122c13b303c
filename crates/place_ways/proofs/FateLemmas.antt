-- What a device does with destinations, as ways.
use Rattle.std.proofs.Common.{ℕ, ◌≡◌, ◌<◌, ◌+◌, ◌≤◌, ◌↔◌, inl, inr, cond, List, [], ◌∷◌, ◌++◌, take, map, length, get_or, Option, Some, None, slice_get, option_and_then, option_map, ap, sym, ◌∙◌, subst, arith}
use Rattle.std.specs.Prelude.{Contains, position}
use Rattle.std.proofs.lemmas.List.{take_more, map-append}
use Rattle.std.proofs.lemmas.List.Elements.{Contains-append_cases, Contains-append_left, Contains-append_right}
use Rattle.hdr_bits.specs.declared.header.Header.{Header}
use Rattle.hdr_bits.specs.HeaderBits.{IsHeader}
use Rattle.cube_diagram.specs.Functions.{Functions, Keeps, count_of}
use Rattle.fib_lookup.specs.declared.form.HopForm.{HopForm}
use Rattle.fib_lookup.specs.Forms.{hop_of}
use Rattle.device_fates.specs.declared.fate.Fate.{Fate}
use Rattle.device_fates.specs.declared.fate.Fate.TheVariants as fate
use Rattle.device_fates.specs.Fates.{HasFate, IsFate}
use Rattle.net_types.specs.declared.config.Config.{Config}
use Rattle.net_types.specs.declared.config.Interface.{Interface}
use Rattle.net_types.specs.declared.network.Hop.{Hop}
use Rattle.net_types.specs.declared.network.Move.{Move}
use Rattle.net_types.specs.declared.network.Move.TheVariants as move
use Rattle.net_types.specs.declared.network.NetDevice.{NetDevice}
use Rattle.net_types.specs.Moves.{coming_in, owns, owner, move_by, moves_in, local_or_forward}
use Rattle.net_types.specs.Order.{hop_cmp, in_order}
use Rattle.net_types.specs.Routes.{rib_of, hops}
use Rattle.net_types.specs.World.{World, Seat, seat_in}
use Rattle.net_types.proofs.HopOrder.{hop_exact, hop_total}
use Rattle.net_types.proofs.Members.{here, in_one, in_none, in_map, to_map}
use Rattle.net_types.proofs.Ordered.{has, in_order_has, has_from_Contains, Contains_from_has}
use Rattle.hdr_bits.proofs.ListLemmas.{extends_none}
use Rattle.net_forms.proofs.FindLemmas.{at_position, there}
use Rattle.net_forms.proofs.FormLemmas.{device_kept, seat_kept}
use Rattle.net_view.specs.Borrowed.{seat_of}
use Rattle.set_walk.specs.declared.step.Step.{Step}
use Rattle.set_walk.specs.declared.step.Step.TheVariants as step
use Rattle.set_walk.specs.declared.step.Way.{Way}
use Rattle.set_walk.specs.Sets.{InSet}
use Rattle.set_walk.specs.Ways.{move_of}
use Rattle.place_ways.specs.declared.seat.WaySeat.{WaySeat}
use Rattle.place_ways.specs.Adding.{AddsWays, AreGiven, Makes, MakesAny}
use Rattle.place_ways.specs.Seats.{IsWaySeat}
use Rattle.place_ways.proofs.SetLemmas.{kept_set, kept_below, keeps_same}
use Rattle.place_ways.proofs.AddLemmas.{adds_then, adds_same, nothing_added, told_list, told_any}

-- ---- the table grows
pub at_kept : (f g : Functions) (at : WaySeat) → Keeps f g → IsWaySeat f at → IsWaySeat g at
at_kept f g at k r =
    record {
      device = device_kept (record { diagrams = f; fates = at.fates.now }) (record { diagrams = g; fates = at.fates.now }) at.seat.device.now at.device.now (record { diagrams = k; fates = extends_none at.fates.now }) r.device;
      form = seat_kept f g at.seat.device.now.config at.seat.interface.now at.form k r.form;
      scope = kept_below f g at.scope k r.scope;
      comes = λ h v i. (kept_set f g at.scope (coming_in (seat_of at.seat) h) k r.scope).1 (r.comes h v ((kept_set f g at.scope h k r.scope).0 i));
    }

-- ---- fates
-- the fate with the number that is a header's value
same_number : (m n : ℕ) → Some m ≡ Some n → m ≡ n
same_number m n e = cc

same_fate : (x y : Fate) → Some x ≡ Some y → x ≡ y
same_fate x y e = cc

nothing_there : (x : Fate) → None ≡ Some x → ⊥
nothing_there x e = cc

fate_at : (c : Config) (fates : List Fate) (value : Option ℕ) (n a : ℕ) (h : HasFate c fates value a) → value ≡ Some n → slice_get fates n ≡ Some h.fate
fate_at c fates value n a h e = subst (λ k. slice_get fates k ≡ Some h.fate) (same_number h.number n (sym h.numbered ∙ e)) h.there

pub numbered_fate : (c : Config) (fates : List Fate) (value : Option ℕ) (n a : ℕ) (one : Fate) → HasFate c fates value a → value ≡ Some n → Some one ≡ slice_get fates n → IsFate c one a
numbered_fate c fates value n a one h e f = subst (λ x. IsFate c x a) (same_fate h.fate one (sym (fate_at c fates value n a h e) ∙ sym f)) h.holds

pub no_fate : (c : Config) (fates : List Fate) (value : Option ℕ) (n a : ℕ) → HasFate c fates value a → value ≡ Some n → None ≡ slice_get fates n → ⊥
no_fate c fates value n a h e f = nothing_there h.fate (f ∙ fate_at c fates value n a h e)

-- ---- moves by fates
same_hops : (xs ys : List Hop) (x : Hop) → in_order hop_cmp xs ≡ in_order hop_cmp ys → Contains xs x → Contains ys x
same_hops us vs x q c =
    Contains_from_has hop_cmp hop_total hop_exact x vs (sym (in_order_has hop_cmp hop_total hop_exact x vs) ∙ (ap (has hop_cmp hop_total hop_exact x) (sym q) ∙ (in_order_has hop_cmp hop_total hop_exact x us ∙ has_from_Contains hop_cmp hop_total hop_exact x us c)))

mapped : {A B : Type 0} (f : A → B) (xs ys : List A) (y : B) → ((x : A) → Contains xs x → Contains ys x) → Contains (map f xs) y → Contains (map f ys) y
mapped f xs ys y s c = let m = in_map f xs y c in subst (Contains (map f ys)) m.2 (to_map f ys m.0 (s m.0 m.1))

module _ (w : World) (seat : Seat) where
  forwarded : (a : ℕ) → position (owns a) seat.device.config.interfaces ≡ None → owner seat a ≡ None
  forwarded a e = ap (option_and_then (seat_in seat.device)) e

  sent_moves : (g : Header) (forms : List HopForm) → IsFate seat.device.config (fate.Sent forms) g.dst → (m : Move) → Contains (map (move_by w seat g) (map (hop_of g.dst) forms)) m ↔ Contains (moves_in w seat g) m
  sent_moves g forms f m =
      let e : moves_in w seat g ≡ map (move_by w seat g) (hops (rib_of seat.device.config) g.dst) = ap (λ b. cond b (move.Drop ∷ []) (local_or_forward w seat g (owner seat g.dst))) f.0 ∙ ap (local_or_forward w seat g) (forwarded g.dst f.1) in (
        λ c. subst (λ l. Contains l m) (sym e) (mapped (move_by w seat g) (map (hop_of g.dst) forms) (hops (rib_of seat.device.config) g.dst) m (λ x d. same_hops (map (hop_of g.dst) forms) (hops (rib_of seat.device.config) g.dst) x f.2 d) c),
        λ c. mapped (move_by w seat g) (hops (rib_of seat.device.config) g.dst) (map (hop_of g.dst) forms) m (λ x d. same_hops (hops (rib_of seat.device.config) g.dst) (map (hop_of g.dst) forms) x (sym f.2) d) (subst (λ l. Contains l m) e c),
      )

  dropped_moves : (g : Header) → IsFate seat.device.config fate.Dropped g.dst → moves_in w seat g ≡ move.Drop ∷ []
  dropped_moves g f = ap (λ b. cond b (move.Drop ∷ []) (local_or_forward w seat g (owner seat g.dst))) f

  own_seat : (d : NetDevice) (i n : ℕ) (x : Interface) → slice_get d.config.interfaces i ≡ Some x → slice_get d.numbers i ≡ Some n → seat_in d i ≡ Some (record { place = record { device = d.name; interface = n }; device = d; interface = x })
  own_seat d i n x e f =
      ap (option_and_then (λ y. option_map (λ m. record { place = record { device = d.name; interface = m }; device = d; interface = y }) (slice_get d.numbers i))) e ∙ ap (option_map (λ m. record { place = record { device = d.name; interface = m }; device = d; interface = x })) f

  own_moves : (g : Header) (i n : ℕ) → i < length seat.device.config.interfaces → slice_get seat.device.numbers i ≡ Some n → IsFate seat.device.config (fate.Own i) g.dst → moves_in w seat g ≡ move.Local (record { device = seat.device.name; interface = n }) ∷ []
  own_moves g i n l e f =
      let t = there seat.device.config.interfaces i l in
      ap (λ b. cond b (move.Drop ∷ []) (local_or_forward w seat g (owner seat g.dst))) f.0 ∙ ap (local_or_forward w seat g) (ap (option_and_then (seat_in seat.device)) f.1 ∙ own_seat seat.device i n t.0 t.1 e)

  own_list : (g : Header) (i : ℕ) (one : Step) → length seat.device.config.interfaces ≤ length seat.device.numbers → ((n : ℕ) → Some n ≡ slice_get seat.device.numbers i → one ≡ step.Local (record { device = seat.device.name; interface = n })) → IsFate seat.device.config (fate.Own i) g.dst → moves_in w seat g ≡ move_of g one ∷ []
  own_list g i one l e f =
      let p = at_position (owns g.dst) seat.device.config.interfaces i (sym f.1) in
      let within = p.1 in
      let t = there seat.device.numbers i (omega (arith, within, l)) in
      own_moves g i t.0 p.1 t.1 f ∙ ap (λ x. move_of g x ∷ []) (sym (e t.0 (sym t.1)))

  pub dropped_added : (f k : Functions) (set : ℕ) (a b : List Way) → ((h : Header) → IsHeader h → InSet f set h → IsFate seat.device.config fate.Dropped h.dst) → AddsWays f k (Makes f set (λ h. move_of h step.Drop)) a b → AddsWays f k (MakesAny f set (moves_in w seat)) a b
  dropped_added f k set a b e p = told_list f k set (λ h. move.Drop) (moves_in w seat) a b (λ h v i. dropped_moves h (e h v i)) p

  pub own_added : (f k : Functions) (set i : ℕ) (one : Step) (a b : List Way) → length seat.device.config.interfaces ≤ length seat.device.numbers → ((n : ℕ) → Some n ≡ slice_get seat.device.numbers i → one ≡ step.Local (record { device = seat.device.name; interface = n })) → ((h : Header) → IsHeader h → InSet f set h → IsFate seat.device.config (fate.Own i) h.dst) → AddsWays f k (Makes f set (λ h. move_of h one)) a b → AddsWays f k (MakesAny f set (moves_in w seat)) a b
  own_added f k set i one a b l e t p = told_list f k set (λ h. move_of h one) (moves_in w seat) a b (λ h v j. own_list h i one l e (t h v j)) p

  pub sent_added : (f k : Functions) (set : ℕ) (forms : List HopForm) (a b : List Way) → ((h : Header) → IsHeader h → InSet f set h → IsFate seat.device.config (fate.Sent forms) h.dst) → AddsWays f k (MakesAny f set (λ h. map (move_by w seat h) (map (hop_of h.dst) forms))) a b → AddsWays f k (MakesAny f set (moves_in w seat)) a b
  sent_added f k set forms a b e p = told_any f k set (λ h. map (move_by w seat h) (map (hop_of h.dst) forms)) (moves_in w seat) a b (λ h v i. sent_moves h forms (e h v i)) p

-- ---- all choices, one after the other
pub choices_more : (f : Hop → Move) (a : ℕ) (xs : List HopForm) (i : ℕ) (x : HopForm) → i < length xs → x ≡ get_or xs i x → map f (map (hop_of a) (take (i + 1) xs)) ≡ map f (map (hop_of a) (take i xs)) ++ f (hop_of a x) ∷ []
choices_more f a xs i x l e =
    let t : take (i + 1) xs ≡ take i xs ++ x ∷ [] = take_more xs i x l ∙ ap (λ z. take i xs ++ z ∷ []) (sym e) in
    ap (λ z. map f (map (hop_of a) z)) t ∙ (ap (map f) (map-append (hop_of a) (take i xs) (x ∷ [])) ∙ map-append f (map (hop_of a) (take i xs)) (hop_of a x ∷ []))

pub choices_none : (f : Functions) (given : ℕ) (ways : List Way) → AreGiven f ways → AddsWays f f (MakesAny f given (λ g. [])) ways ways
choices_none f given ways b = nothing_added f f _ ways (keeps_same f) b (λ h v m x. nowhere m x.1)
  where
    nowhere : (m : Move) → Contains [] m → ⊥
    nowhere m c = in_none m c

pub choice_added : (f g k : Functions) (given : ℕ) (old new : Header → List Move) (one : Header → Move) (a b c : List Way) → Keeps f g → given < count_of f → ((g : Header) → new g ≡ old g ++ one g ∷ []) → AddsWays f g (MakesAny f given old) a b → AddsWays g k (Makes g given one) b c → AddsWays f k (MakesAny f given new) a c
choice_added f g k given old new one a b c e l n p q =
    adds_same f k _ _ a c (λ h i m. let z = kept_set f g given h e l in (
      λ x. elim x [
        | inl u ↦ (u.0, subst (λ t. Contains t m) (sym (n h)) (Contains-append_left (old h) (one h ∷ []) m u.1))
        | inr u ↦ (z.0 u.0, subst (λ t. Contains t m) (sym (n h)) (Contains-append_right (old h) (one h ∷ []) m (subst (λ t. Contains (one h ∷ []) t) u.1 (here (one h) []))))
      ],
      λ x. elim (Contains-append_cases (old h) (one h ∷ []) m (subst (λ t. Contains t m) (n h) x.1)) [
        | inl u ↦ inl (x.0, u)
        | inr u ↦ inr (z.1 x.0, in_one (one h) m u)
      ],
    )) (adds_then f g k _ _ a b c p q)
