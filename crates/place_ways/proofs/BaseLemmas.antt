-- The ways of headers that came in, which places share.
use Rattle.std.proofs.Common.{ℕ, ◌≡◌, ◌<◌, inl, inr, nat_eq, Bool, true, false, cond, List, [], ◌∷◌, map, slice_get, Option, Some, None, position, option_and_then, refl, ap, sym, ◌∙◌, subst, true≢false}
use Rattle.std.specs.Prelude.{Contains, IfSome, ◌&&◌}
use Rattle.std.proofs.lemmas.Bool.Decides.{eqb_tells}
use Rattle.hdr_bits.specs.declared.header.Header.{Header}
use Rattle.hdr_bits.specs.HeaderBits.{number, IsHeader}
use Rattle.hdr_bits.specs.Lists.{Extends}
use Rattle.hdr_bits.proofs.ListLemmas.{extends_get}
use Rattle.acl_match.specs.Lists.{number_of}
use Rattle.cube_diagram.specs.Functions.{Functions, Keeps, count_of, value_at}
use Rattle.like_devices.proofs.LikeLemmas.{same_map}
use Rattle.net_forms.specs.Forms.{IsList}
use Rattle.net_forms.proofs.FormLemmas.{some_then}
use Rattle.net_types.specs.declared.network.Hop.{Hop}
use Rattle.net_types.specs.declared.network.Hop.TheVariants as hop
use Rattle.net_types.specs.declared.network.Move.{Move}
use Rattle.net_types.specs.declared.network.Move.TheVariants as move
use Rattle.net_types.specs.declared.network.NetDevice.{NetDevice}
use Rattle.net_types.specs.Moves.{coming_in, is_dropped, is_inside, is_outside, leave_if_any, list_named, local_or_forward, move_by, moves_at, moves_in, owner, owns, passes_list, send}
use Rattle.net_types.specs.Routes.{hops, is_enabled, rib_of}
use Rattle.net_types.specs.Translation.{from_inside, from_outside}
use Rattle.net_types.specs.World.{World, Seat, seat_in, seat_named, segment_of}
use Rattle.set_walk.specs.declared.net.PlaceWays.{PlaceWays}
use Rattle.set_walk.specs.declared.step.Way.{Way}
use Rattle.set_walk.specs.Sets.{InSet, IsSetOf}
use Rattle.net_view.specs.Borrowed.{seat_of}
use Rattle.place_ways.specs.declared.base.Bases.{Bases}
use Rattle.place_ways.specs.declared.seat.WaySeat.{WaySeat}
use Rattle.place_ways.specs.Adding.{AreGiven, HasMoves}
use Rattle.place_ways.specs.Places.{AreBases, HasSeatWays, IsBase, base_of, with_base}
use Rattle.place_ways.specs.Seats.{AreWaysIn}
use Rattle.place_ways.proofs.AddLemmas.{given_kept, moves_kept}

-- ---- what becomes of headers that came in depends on the device and on whether the interface is inside
module _ (w : World) (a b : Seat) (device : a.device ≡ b.device) (side : is_inside a.interface.side ≡ is_inside b.interface.side) where
  out_same : (h : Header) (n : ℕ) (o : Option Seat) → leave_if_any w a h n o ≡ leave_if_any w b h n o
  out_same h n None = refl
  out_same h n (Some out) =
      let leaving : NetDevice → Bool → Move = λ d t. let g = cond (t && is_outside out.interface.side) (from_inside d.config.nat h) h in cond (passes_list d.config out.interface.output g) (send w out.place n g (segment_of w out.place)) move.Lost in
      ap (λ d. leaving d (is_inside a.interface.side)) device ∙ ap (λ t. leaving b.device t) side

  hop_same : (h : Header) (x : Hop) → move_by w a h x ≡ move_by w b h x
  hop_same h hop.Discard = refl
  hop_same h (hop.Out name n) = ap (λ (d : NetDevice). leave_if_any w a h n (seat_named d name)) device ∙ out_same h n (seat_named b.device name)

  forward_same : (h : Header) (o : Option Seat) → local_or_forward w a h o ≡ local_or_forward w b h o
  forward_same h None =
      ap (λ (d : NetDevice). map (move_by w a h) (hops (rib_of d.config) h.dst)) device ∙ same_map (move_by w a h) (move_by w b h) (hops (rib_of b.device.config) h.dst) (hop_same h)
  forward_same h (Some own) = refl

  pub in_same : (h : Header) → moves_in w a h ≡ moves_in w b h
  in_same h =
      ap (λ (d : NetDevice). cond (is_dropped d.config h.dst) (move.Drop ∷ []) (local_or_forward w a h (option_and_then (seat_in d) (position (owns h.dst) d.config.interfaces)))) device
      ∙ ap (λ ms. cond (is_dropped b.device.config h.dst) (move.Drop ∷ []) ms) (forward_same h (owner b h.dst))

pub moves_same : (fs : Functions) (scope : ℕ) (xs ys : Header → List Move) (ways : List Way) → ((h : Header) → IsHeader h → InSet fs scope h → xs h ≡ ys h) → HasMoves xs fs scope ways → HasMoves ys fs scope ways
moves_same fs scope xs ys ways e has h v i m =
    let t = has h v i m in
    (λ c. t.0 (subst (λ l. Contains l m) (sym (e h v i)) c), λ y. subst (λ l. Contains l m) (e h v i) (t.1 y))

-- ---- bases
pub new_base : (w : World) (fs : Functions) (scope : ℕ) (lists : List PlaceWays) (seat : Seat) (one : PlaceWays) (i : ℕ) → slice_get lists i ≡ Some one → AreGiven fs one.ways.items → HasMoves (moves_in w seat) fs scope one.ways.items → IsBase w fs scope lists seat.device (is_inside seat.interface.side) i
new_base w fs scope lists seat one i e given has =
    record {
      ways = one;
      there = e;
      given = given;
      moves = λ other d s. moves_same fs scope (moves_in w seat) (moves_in w other) one.ways.items (λ h v j. in_same w seat other (sym d) (sym s) h) has;
    }

module _ (w : World) (f g : Functions) (scope : ℕ) (old new : List PlaceWays) (d : NetDevice) (k : Keeps f g) (l : scope < count_of f) (x : Extends old new) where
  pub base_kept : (side : Bool) (i : ℕ) → IsBase w f scope old d side i → IsBase w g scope new d side i
  base_kept side i b =
      record {
        ways = b.ways;
        there = extends_get old new i b.ways x b.there;
        given = given_kept f g b.ways.ways.items k b.given;
        moves = λ seat e s. moves_kept f g scope (moves_in w seat) b.ways.ways.items k l b.given (b.moves seat e s);
      }

  pub bases_kept : (b : Bases) → AreBases w f scope old d b → AreBases w g scope new d b
  bases_kept b a side = some_then (IsBase w f scope old d side) (IsBase w g scope new d side) (base_of b side) (λ i r. base_kept side i r) (a side)

pub base_added : (w : World) (fs : Functions) (scope : ℕ) (lists : List PlaceWays) (d : NetDevice) (b : Bases) (side : Bool) (i : ℕ) → AreBases w fs scope lists d b → IsBase w fs scope lists d side i → AreBases w fs scope lists d (with_base b side i)
base_added w fs scope lists d b true i a r true = r
base_added w fs scope lists d b true i a r false = a false
base_added w fs scope lists d b false i a r true = a true
base_added w fs scope lists d b false i a r false = r

pub base_there : (w : World) (fs : Functions) (scope : ℕ) (lists : List PlaceWays) (d : NetDevice) (b : Bases) (side : Bool) (i : ℕ) → AreBases w fs scope lists d b → Some i ≡ base_of b side → IsBase w fs scope lists d side i
base_there w fs scope lists d b side i a e = subst (λ o. IfSome o (IsBase w fs scope lists d side)) (sym e) (a side)

-- ---- an interface that takes all headers as they are
pub same_number : (a b : ℕ) → nat_eq a b ≡ true → a ≡ b
same_number a b e =
    elim (eqb_tells a b) [
      | inl p ↦ p.1
      | inr p ↦ absurd (true≢false (sym e ∙ p.0))
    ]

one_passes : (b : Bool) → Some (number_of b) ≡ Some 1 → b ≡ true
one_passes true e = refl
one_passes false e = absurd cc

pub all_taken : (w : World) (f g : Functions) (seat : Seat) (function scope passed : ℕ) → IsList f (list_named seat.device.config seat.interface.input) function → is_enabled seat.interface ≡ true → is_outside seat.interface.side ≡ false → IsSetOf g passed (λ h. InSet f scope h × (value_at f function (number h) ≡ Some 1)) → nat_eq passed scope ≡ true → (h : Header) → IsHeader h → InSet g scope h → moves_at w (Some seat) h ≡ moves_in w seat h
all_taken w f g seat function scope passed list enabled outside p same h v i =
    let j : InSet g passed h = subst (λ n. InSet g n h) (sym (same_number passed scope same)) i in
    let t : passes_list seat.device.config seat.interface.input h ≡ true = one_passes _ (sym (list.exact h v) ∙ ((p h v).0 j).1) in
    ap (λ b. cond (b && passes_list seat.device.config seat.interface.input h) (moves_in w seat (coming_in seat h)) (move.Drop ∷ [])) enabled
    ∙ (ap (λ b. cond b (moves_in w seat (coming_in seat h)) (move.Drop ∷ [])) t
    ∙ ap (λ b. moves_in w seat (cond b (from_outside seat.device.config.nat h) h)) outside)

pub base_ways : (fs : Functions) (s : WaySeat) (lists : List PlaceWays) (i : ℕ) (b : IsBase s.wiring.now fs s.scope lists s.seat.device.now (is_inside s.seat.interface.now.side) i) → AreWaysIn fs s b.ways.ways.items
base_ways fs s lists i b = record { given = b.given; moves = b.moves (seat_of s.seat) refl refl }

pub ways_in_kept : (f g : Functions) (s : WaySeat) (ways : List Way) → Keeps f g → s.scope < count_of f → AreWaysIn f s ways → AreWaysIn g s ways
ways_in_kept f g s ways k l a = record { given = given_kept f g ways k a.given; moves = moves_kept f g s.scope (moves_in s.wiring.now (seat_of s.seat)) ways k l a.given a.moves }

pub seat_base : (w : World) (fs : Functions) (scope : ℕ) (lists : List PlaceWays) (seat : Seat) (i : ℕ) → IsBase w fs scope lists seat.device (is_inside seat.interface.side) i → ((h : Header) → IsHeader h → InSet fs scope h → moves_at w (Some seat) h ≡ moves_in w seat h) → HasSeatWays w fs scope lists seat i
seat_base w fs scope lists seat i b e =
    record {
      ways = b.ways;
      there = b.there;
      given = b.given;
      moves = moves_same fs scope (moves_in w seat) (moves_at w (Some seat)) b.ways.ways.items (λ h v j. sym (e h v j)) (b.moves seat refl refl);
    }

pub no_bases : (w : World) (fs : Functions) (scope : ℕ) (lists : List PlaceWays) (d : NetDevice) → AreBases w fs scope lists d (record { inside = None; other = None })
no_bases w fs scope lists d true = tt
no_bases w fs scope lists d false = tt
