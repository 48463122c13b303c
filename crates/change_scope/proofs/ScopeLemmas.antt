-- How a set becomes a scope.
use Rattle.std.proofs.Common.{ℕ, ◌≡◌, ◌<◌, ◌↔◌, ◌+◌, inl, inr, take, get_or, Bool, true, false, cond, List, [], length, slice_get, Option, Some, None, IsSome, refl, ap, sym, ◌∙◌, subst, find, position, arith}
use Rattle.std.specs.Prelude.{All, Contains, ◌==◌, ◌&&◌, option_and_then}
use Rattle.std.proofs.lemmas.List.{take_more}
use Rattle.std.proofs.lemmas.List.Elements.{Contains-push_cases}
use Rattle.std.proofs.lemmas.Option.{slice_get_within}
use Rattle.hdr_bits.specs.declared.header.Header.{Header}
use Rattle.hdr_bits.specs.HeaderBits.{number, IsHeader}
use Rattle.cube_diagram.specs.Functions.{Functions, Keeps, count_of, value_at}
use Rattle.device_fates.specs.declared.fate.Fate.{Fate}
use Rattle.device_fates.specs.declared.fate.Fate.TheVariants as fate
use Rattle.device_fates.specs.Fates.{HasFate, IsFate}
use Rattle.acl_match.specs.Lists.{number_of}
use Rattle.net_types.specs.declared.config.AccessList.{AccessList}
use Rattle.net_types.specs.declared.config.Config.{Config}
use Rattle.net_types.specs.declared.config.Interface.{Interface}
use Rattle.net_types.specs.declared.network.Hop.{Hop}
use Rattle.net_types.specs.declared.network.Move.{Move}
use Rattle.net_types.specs.declared.network.Move.TheVariants as move
use Rattle.net_types.specs.declared.network.NetDevice.{NetDevice}
use Rattle.net_types.specs.declared.network.Place.{Place}
use Rattle.net_types.specs.AccessLists.{passes, verdict}
use Rattle.net_types.specs.Moves.{owns, coming_in, going_out, is_inside, is_outside, list_named, moves, moves_at}
use Rattle.net_types.specs.Order.{hop_cmp, in_order}
use Rattle.net_types.specs.Routes.{hops, rib_of}
use Rattle.net_types.specs.Translation.{from_inside, from_outside}
use Rattle.net_types.specs.World.{World, Seat, seat_at, seat_numbered}
use Rattle.net_types.proofs.HopOrder.{hop_exact, hop_total}
use Rattle.net_types.proofs.Members.{in_none, in_one}
use Rattle.net_types.proofs.Ordered.{has, in_order_has, has_from_Contains, Contains_from_has}
use Rattle.hdr_bits.proofs.ListLemmas.{extends_none}
use Rattle.like_devices.proofs.LikeLemmas.{placed_in}
use Rattle.like_devices.specs.Like.{IsLike}
use Rattle.net_forms.specs.declared.forms.DeviceForm.{DeviceForm}
use Rattle.net_forms.specs.declared.forms.NetworkForm.{NetworkForm}
use Rattle.net_forms.specs.Forms.{IsDeviceForm, IsList}
use Rattle.net_forms.specs.Networks.{IsIndexed, IsNetworkForm}
use Rattle.net_forms.proofs.FindLemmas.{at_position}
use Rattle.net_forms.proofs.FormLemmas.{device_found, devices_kept}
use Rattle.net_view.specs.Borrowed.{world_of}
use Rattle.set_walk.specs.Sets.{InSet}
use Rattle.set_walk.specs.Scopes.{IsKept, IsKeptIn, IsScope}
use Rattle.change_scope.specs.declared.scope.Both.{Both}
use Rattle.change_scope.specs.declared.scope.Pair.{Pair}
use Rattle.change_scope.specs.Devices.{AreAlikeAt, AreComparable}
use Rattle.change_scope.specs.Differences.{AgreeBeyond, AreBelow, FormsAgree, HasAll, IsBelow}
use Rattle.change_scope.specs.Pairs.{AreBoth, HasTurned, IsPair}
use Rattle.change_scope.specs.Translated.{AreNamed, AreTurned, ByDestination, HasAllRules, HasMore, HasNamed, IsTurned, TurnsBy}
use Rattle.change_scope.proofs.SeatLemmas.{item_there}
use Rattle.change_scope.proofs.MoveLemmas.{SameFate, dropped, own, sent, SeatsAlike, TreatAlike, same_moves}
use Rattle.change_scope.proofs.GoLemmas.{goes_on}
use Rattle.change_scope.proofs.TurnLemmas.{found_in, has_rules, named_more, rules_more, same_number, turned_by}

-- ---- one fate of two devices
same_hops : (xs ys : List Hop) (x : Hop) → in_order hop_cmp xs ≡ in_order hop_cmp ys → Contains xs x → Contains ys x
same_hops us vs x q c =
    Contains_from_has hop_cmp hop_total hop_exact x vs (sym (in_order_has hop_cmp hop_total hop_exact x vs) ∙ (ap (has hop_cmp hop_total hop_exact x) (sym q) ∙ (in_order_has hop_cmp hop_total hop_exact x us ∙ has_from_Contains hop_cmp hop_total hop_exact x us c)))

of_fate : (c k : Config) (a : ℕ) (f : Fate) → IsFate c f a → IsFate k f a → SameFate c k a
of_fate c k a fate.Dropped x y = dropped x y
of_fate c k a (fate.Own i) x y =
    own i x.0 y.0 x.1 y.1 (at_position (owns a) c.interfaces i (sym x.1)).1 (at_position (owns a) k.interfaces i (sym y.1)).1
of_fate c k a (fate.Sent forms) x y =
    sent x.0 y.0 x.1 y.1 (λ o. (
      λ z. same_hops (hops (rib_of c) a) (hops (rib_of k) a) o (sym x.2 ∙ y.2) z,
      λ z. same_hops (hops (rib_of k) a) (hops (rib_of c) a) o (sym y.2 ∙ x.2) z,
    ))

same_fate : (c k : Config) (fates : List Fate) (u v : Option ℕ) (a : ℕ) → u ≡ v → HasFate c fates u a → HasFate k fates v a → SameFate c k a
same_fate c k fates u v a e x y =
    let n : Some x.number ≡ Some y.number = sym x.numbered ∙ (e ∙ y.numbered) in
    let m : x.number ≡ y.number = cc in
    let f : Some x.fate ≡ Some y.fate = sym x.there ∙ (ap (slice_get fates) m ∙ y.there) in
    let g : x.fate ≡ y.fate = cc in
    of_fate c k a y.fate (subst (λ z. IsFate c z a) g x.holds) y.holds

-- ---- one value of two lists
same_pass : (a b : Bool) → Some (number_of a) ≡ Some (number_of b) → a ≡ b
same_pass true true e = refl
same_pass true false e = absurd cc
same_pass false true e = absurd cc
same_pass false false e = refl

same_list : (f g : Functions) (set : ℕ) (l m : Option AccessList) (a b : ℕ) (h : Header) → IsHeader h → (InSet g set h → ⊥) → IsList f l a → IsList f m b → AgreeBeyond f a b g set → passes (verdict l h) ≡ passes (verdict m h)
same_list f g set l m a b h v out x y e = same_pass (passes (verdict l h)) (passes (verdict m h)) (sym (x.exact h v) ∙ (e h out ∙ y.exact h v))

-- ---- tables grow
pub kept_form : (f g : Functions) (fates : List Fate) (n : NetworkForm) → Keeps f g → IsNetworkForm f fates n → IsNetworkForm g fates n
kept_form f g fates n k a =
    record {
      wiring = a.wiring;
      devices = devices_kept (record { diagrams = f; fates = fates }) (record { diagrams = g; fates = fates }) n.world.network.now.devices n.devices.items (record { diagrams = k; fates = extends_none fates }) a.devices;
    }

pub kept_pair : (f g : Functions) (p : Pair) → Keeps f g → IsPair f p → IsPair g p
kept_pair f g p k a = record { old = kept_form f g p.fates.now p.old.now k a.old; new = kept_form f g p.fates.now p.new.now k a.new; like = a.like }

-- ---- sets grow
pub more_has : (f g : Functions) (a b : ℕ) (p : Pair) → HasAll f a g b → b < count_of g → ByDestination g b → HasTurned p f a → HasTurned p g b
more_has f g a b p m l by t = record { below = l; by = by; old = λ d c. rules_more f g a b d.config.nat m (t.old d c); new = λ d c. rules_more f g a b d.config.nat m (t.new d c) }

pub more_alike : (w v : World) (f g : Functions) (a b name : ℕ) → HasAll f a g b → AreAlikeAt w v f a name → AreAlikeAt w v g b name
more_alike w v f g a b name m s p e h i out = s p e h i (λ x. out (m h x))

-- ---- everything
pub in_everything : (f : Functions) (all : ℕ) → ((h : ℕ) → value_at f all h ≡ Some 1) → (h : Header) → InSet f all h
in_everything f all e h = subst (λ o. IsSome o) (sym (e (number h))) refl

pub alike_in_everything : (w v : World) (f : Functions) (all name : ℕ) → ((h : ℕ) → value_at f all h ≡ Some 1) → AreAlikeAt w v f all name
alike_in_everything w v f all name e p q h i out m = absurd (out (in_everything f all e h))

pub all_in_everything : (f : Functions) (set all : ℕ) → ((h : ℕ) → value_at f all h ≡ Some 1) → HasAll f set f all
all_in_everything f set all e h x = in_everything f all e h

pub everything_by : (f : Functions) (all : ℕ) → ((h : ℕ) → value_at f all h ≡ Some 1) → ByDestination f all
everything_by f all e h g v u d x = in_everything f all e g

-- ---- a device that is alike
pub alike_like : (w v : World) (f : Functions) (set name : ℕ) (names : List ℕ) → All (IsLike w v) names → Contains names name → AreAlikeAt w v f set name
alike_like w v f set name names l c p e h i out m =
    let t : moves w p h ≡ moves v p h = subst (IsLike w v) c.2 (l c.0 name c.1) p e h in (
      λ x. subst (λ ms. Contains ms m) t x,
      λ x. subst (λ ms. Contains ms m) (sym t) x,
    )

-- ---- a device that is compared by its functions
-- what two networks don't treat otherwise
abbrev pub Beyond : Functions → ℕ → Header → Type 0
Beyond fs set h = IsHeader h × (InSet fs set h → ⊥)

turned_beyond : (f : Functions) (set : ℕ) (h g : Header) → Beyond f set h → IsTurned f set h g → Beyond f set g
turned_beyond f set h g o t = (t.fits, λ i. o.1 (t.stays.1 i))

module _ (f g : Functions) (set : ℕ) (fates : List Fate) (w v : World) (d e : NetDevice) (a b : DeviceForm) (x : IsDeviceForm f fates d a) (y : IsDeviceForm f fates e b) (s : AreComparable w v d e) (agree : FormsAgree f a b g set) (same_name : d.name ≡ e.name) (turns : TurnsBy e.config.nat g set) where
  seat_alike : (i : ℕ) (p q : Interface) → slice_get d.config.interfaces i ≡ Some p → slice_get e.config.interfaces i ≡ Some q → SeatsAlike d.config e.config (Beyond g set) p q
  seat_alike n p q k l =
      let z = s.seats.each n p q k l in
      let m = x.seats.each n p k in
      let o = y.seats.each n q l in
      let t = agree.seats n (slice_get_within a.seats.items n m.item m.there) m.item o.item m.there o.there in
      record {
        name = z.name;
        side = z.side;
        enabled = z.enabled;
        input = λ h out. same_list f g set (list_named d.config p.input) (list_named e.config q.input) m.item.input o.item.input h out.0 out.1 m.right.input o.right.input t.input;
        output = λ h out. same_list f g set (list_named d.config p.output) (list_named e.config q.output) m.item.output o.item.output h out.0 out.1 m.right.output o.right.output t.output;
      }

  treat_alike : TreatAlike w v d e (Beyond g set)
  treat_alike =
      record {
        name = same_name;
        numbers = s.numbers;
        rules = s.rules;
        enough = x.numbers;
        count = s.seats.count;
        seats = seat_alike;
        sends = s.sends;
        fate = λ h out. same_fate d.config e.config fates (value_at f a.fates (number h)) (value_at f b.fates (number h)) h.dst (agree.fates h out.1) (x.numbered h out.0) (y.numbered h out.0);
        outside = λ h out. turned_beyond g set h (from_outside e.config.nat h) out (turns.outside h out.0);
        inside = λ h out. turned_beyond g set h (from_inside e.config.nat h) out (turns.inside h out.0);
      }

  pub alike_compared : (name : ℕ) → find (λ z. z.name == name) w.network.devices ≡ Some d → find (λ z. z.name == name) v.network.devices ≡ Some e → AreAlikeAt w v g set name
  alike_compared name k l p q h i out m =
      same_moves w v p d e (Beyond g set) (ap (λ n. find (λ z. z.name == n) w.network.devices) q ∙ k) (ap (λ n. find (λ z. z.name == n) v.network.devices) q ∙ l) treat_alike h (i, out) m

pub indexed : (fs : Functions) (fates : List Fate) (n : NetworkForm) → IsNetworkForm fs fates n → IsIndexed n
indexed fs fates n a = record { wiring = a.wiring; count = a.devices.count }

-- the functions of a form
pub form_below : (fs : Functions) (fates : List Fate) (d : NetDevice) (a : DeviceForm) → IsDeviceForm fs fates d a → AreBelow fs a.seats.items
form_below fs fates d a r n x e =
    let c = r.seats.count in
    let w = slice_get_within a.seats.items n x e in
    let t = item_there d.config.interfaces n (omega (arith, w, c)) in
    let m = r.seats.each n t.0 t.1 in
    let s : Some m.item ≡ Some x = sym m.there ∙ e in
    let q : m.item ≡ x = cc in
    subst (IsBelow fs) q (record { input = m.right.input.below; output = m.right.output.below })

pub same_count : (fs : Functions) (fates : List Fate) (d e : NetDevice) (a b : DeviceForm) → IsDeviceForm fs fates d a → IsDeviceForm fs fates e b → length e.config.interfaces ≡ length d.config.interfaces → length b.seats.items ≡ length a.seats.items
same_count fs fates d e a b r s c = let m = r.seats.count in let n = s.seats.count in omega (arith, m, n, c)

module _ (p : Pair) (name : ℕ) (b : Both) (fs : Functions) (a : IsPair fs p) (s : AreBoth p name b) where
  pub old_right : IsDeviceForm fs p.fates.now b.old.device.now b.old.form.now
  old_right = device_found fs p.fates.now p.old.now b.old.device.now b.old.form.now a.old s.old_form

  pub new_right : IsDeviceForm fs p.fates.now b.new.device.now b.new.form.now
  new_right = device_found fs p.fates.now p.new.now b.new.device.now b.new.form.now a.new s.new_form

  pub counts : length b.new.form.now.seats.items ≡ length b.old.form.now.seats.items
  counts = same_count fs p.fates.now b.old.device.now b.new.device.now b.old.form.now b.new.form.now old_right new_right s.comparable.seats.count

  pub both_alike : (g : Functions) (set : ℕ) → FormsAgree fs b.old.form.now b.new.form.now g set → HasTurned p g set → AreAlikeAt (world_of p.old.now.world) (world_of p.new.now.world) g set name
  both_alike g set agree t =
      let w = world_of p.old.now.world in
      let v = world_of p.new.now.world in
      let d = b.old.device.now in
      let e = b.new.device.now in
      let x = found_in (λ z. z.name == name) w.network.devices d s.old_found in
      let y = found_in (λ z. z.name == name) v.network.devices e s.new_found in
      alike_compared fs g set p.fates.now w v d e b.old.form.now b.new.form.now old_right new_right s.comparable agree (same_number d.name name x.1 ∙ sym (same_number e.name name y.1)) (turned_by g set e.config.nat t.by (t.new e y.0)) name s.old_found s.new_found

-- ---- the rules of devices
abbrev pub AllNamed : List ℕ → List NetDevice → Type 0
AllNamed addresses ds = (d : NetDevice) → Contains ds d → AreNamed addresses d.config.nat

pub more_named : (old new : List ℕ) (ds : List NetDevice) → HasMore old new → AllNamed old ds → AllNamed new ds
more_named old new ds m a d c = named_more old new d.config.nat m (a d c)

pub devices_have : (fs : Functions) (set : ℕ) (addresses : List ℕ) (ds : List NetDevice) → AllNamed addresses ds → HasNamed fs addresses set → HasAllRules ds fs set
devices_have fs set addresses ds a has d c = has_rules fs set addresses d.config.nat has (a d c)

-- ---- what is kept
module _ (w : World) (fs : Functions) (set : ℕ) (turned : AreTurned w.network.devices fs set) where
  seated : (p : Place) (o : Option NetDevice) (seat : Seat) → find (λ d. d.name == p.device) w.network.devices ≡ o → option_and_then (λ d. seat_numbered d p.interface) o ≡ Some seat → TurnsBy seat.device.config.nat fs set
  seated p None seat e s = absurd cc
  seated p (Some d) seat e s =
      let q : seat.device ≡ d = (placed_in d (position (λ n. n == p.interface) d.numbers) seat (sym s)).0 in
      turned seat.device (subst (Contains w.network.devices) (sym q) (found_in (λ d. d.name == p.device) w.network.devices d e).0)

  turns : (p : Place) (seat : Seat) → seat_at w p ≡ Some seat → TurnsBy seat.device.config.nat fs set
  turns p seat e = seated p (find (λ d. d.name == p.device) w.network.devices) seat refl e

  by_side : (b : Bool) (h g : Header) → IsHeader h → IsTurned fs set h g → IsTurned fs set h (cond b g h)
  by_side true h g v t = t
  by_side false h g v t = record { fits = v; stays = (λ i. i, λ i. i) }

  came_in : (p : Place) (seat : Seat) (h : Header) → seat_at w p ≡ Some seat → IsHeader h → IsTurned fs set h (coming_in seat h)
  came_in p seat h e v = by_side (is_outside seat.interface.side) h (from_outside seat.device.config.nat h) v ((turns p seat e).outside h v)

  went_out : (p : Place) (seat out : Seat) (h : Header) → seat_at w p ≡ Some seat → IsHeader h → IsTurned fs set h (going_out seat out h)
  went_out p seat out h e v = by_side (is_inside seat.interface.side && is_outside out.interface.side) h (from_inside seat.device.config.nat h) v ((turns p seat e).inside h v)

  passed : (p : Place) (seat out : Seat) (h : Header) → seat_at w p ≡ Some seat → IsHeader h → InSet fs set h ↔ InSet fs set (going_out seat out (coming_in seat h))
  passed p seat out h e v =
      let t = came_in p seat h e v in
      let u = went_out p seat out (coming_in seat h) e t.fits in
      (λ i. u.stays.0 (t.stays.0 i), λ i. t.stays.1 (u.stays.1 i))

  pub kept_in : IsKeptIn w fs set
  kept_in p seat h e v i = (came_in p seat h e v).stays.0 i

  go_on : (P : Header → Type 0) (p q : Place) (h g : Header) (o : Option Seat) → seat_at w p ≡ o → ((seat out : Seat) → seat_at w p ≡ Some seat → P (going_out seat out (coming_in seat h))) → Contains (moves_at w o h) (move.Go q g) → P g
  go_on P p q h g None e f c = let t = in_one move.Drop (move.Go q g) c in absurd cc
  go_on P p q h g (Some seat) e f c = goes_on w seat P h q g (λ out. f seat out e) c

  pub kept : IsKept w fs set
  kept p q h g v i c = go_on (InSet fs set) p q h g (seat_at w p) refl (λ seat out e. (passed p seat out h e v).0 i) c

  pub stays_out : (p q : Place) (h g : Header) → IsHeader h → (InSet fs set h → ⊥) → Contains (moves w p h) (move.Go q g) → InSet fs set g → ⊥
  stays_out p q h g v far c i = go_on (λ z. InSet fs set z → ⊥) p q h g (seat_at w p) refl (λ seat out e j. far ((passed p seat out h e v).1 j)) c i

-- ---- all devices
abbrev pub AllAlike : World → World → Functions → ℕ → List NetDevice → Type 0
AllAlike w v fs set ds = (d : NetDevice) → Contains ds d → AreAlikeAt w v fs set d.name

pub more_all_alike : (w v : World) (f g : Functions) (a b : ℕ) (ds : List NetDevice) → HasAll f a g b → AllAlike w v f a ds → AllAlike w v g b ds
more_all_alike w v f g a b ds m s d c = more_alike w v f g a b d.name m (s d c)

pub alike_none : (w v : World) (f : Functions) (set : ℕ) → AllAlike w v f set []
alike_none w v f set d c = absurd (in_none d c)

-- one more device of the list
pub alike_next : (w v : World) (f g : Functions) (a b : ℕ) (ds : List NetDevice) (i : ℕ) (d : NetDevice) → i < length ds → d ≡ get_or ds i d → HasAll f a g b → AllAlike w v f a (take i ds) → AreAlikeAt w v g b d.name → AllAlike w v g b (take (i + 1) ds)
alike_next w v f g a b ds i d l e m s n x c =
    elim (Contains-push_cases (take i ds) (get_or ds i d) x (subst (λ ys. Contains ys x) (take_more ds i d l) c)) [
      | inl k ↦ more_alike w v f g a b x.name m (s x k)
      | inr k ↦ subst (λ (z : NetDevice). AreAlikeAt w v g b z.name) (e ∙ k) n
    ]

module _ (w v : World) (fs : Functions) (set : ℕ) (old : AllAlike w v fs set w.network.devices) (new : AllAlike w v fs set v.network.devices) where
  agree_by : (p : Place) (h : Header) (o q : Option NetDevice) → IsHeader h → (InSet fs set h → ⊥) → find (λ d. d.name == p.device) w.network.devices ≡ o → find (λ d. d.name == p.device) v.network.devices ≡ q → (m : Move) → Contains (moves w p h) m ↔ Contains (moves v p h) m
  agree_by p h (Some d) q i out a b m =
      let f = found_in (λ x. x.name == p.device) w.network.devices d a in
      old d f.0 p (sym (same_number d.name p.device f.1)) h i out m
  agree_by p h None (Some e) i out a b m =
      let f = found_in (λ x. x.name == p.device) v.network.devices e b in
      new e f.0 p (sym (same_number e.name p.device f.1)) h i out m
  agree_by p h None None i out a b m =
      let j : seat_at w p ≡ None = ap (option_and_then (λ y. seat_numbered y p.interface)) a in
      let k : seat_at v p ≡ None = ap (option_and_then (λ y. seat_numbered y p.interface)) b in (
        λ z. subst (λ o. Contains (moves_at v o h) m) (sym k) (subst (λ o. Contains (moves_at w o h) m) j z),
        λ z. subst (λ o. Contains (moves_at w o h) m) (sym j) (subst (λ o. Contains (moves_at v o h) m) k z),
      )

  pub scope : set < count_of fs → AreTurned w.network.devices fs set → AreTurned v.network.devices fs set → IsScope w v fs set
  scope l s t =
      record {
        below = l;
        old_kept = kept w fs set s;
        new_kept = kept v fs set t;
        old_in = kept_in w fs set s;
        new_in = kept_in v fs set t;
        beyond = record {
          agree = λ p h i out m. agree_by p h (find (λ d. d.name == p.device) w.network.devices) (find (λ d. d.name == p.device) v.network.devices) i out refl refl m;
          stays = stays_out w fs set s;
        };
      }
