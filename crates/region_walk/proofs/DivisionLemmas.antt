-- Why a walk divides a region: the spots without a visit are those to which the walks of one number of moves lead.
use Rattle.std.proofs.Common.{◌≡◌, ℕ, ◌<◌, ◌≤◌, List, [], ◌∷◌, ◌++◌, Some, zero, suc, inl, inr, length, slice_get, sym, subst, ◌∙◌, arith}
use Rattle.std.specs.Prelude.{flat_map, Contains}
use Rattle.std.proofs.lemmas.Bool.{cases_lt}
use Rattle.std.proofs.lemmas.List.Elements.{Contains-get_or}
use Rattle.std.proofs.lemmas.Option.{slice_get_cases, slice_get_within, get_or_from_slice_get}
use Rattle.hdr_bits.specs.declared.header.Header.{Header}
use Rattle.hdr_bits.specs.declared.cube.Cube.{Cube}
use Rattle.hdr_bits.specs.HeaderBits.{number, IsHeader}
use Rattle.hdr_bits.specs.CubeBits.{IsIn}
use Rattle.hdr_bits.specs.Lists.{Extends}
use Rattle.cube_alg.specs.declared.stamp.Stamp.{Stamp}
use Rattle.cube_alg.specs.Stamps.{IsMadeFrom}
use Rattle.net_types.specs.declared.network.Place.{Place}
use Rattle.net_types.specs.World.{World}
use Rattle.net_types.specs.Walks.{state_at}
use Rattle.net_types.proofs.Members.{to_map, to_flat_map, to_filter_map}
use Rattle.net_types.proofs.Walking.{walk_from_states}
use Rattle.transfer_rel.specs.CubeMoves.{SameSet}
use Rattle.transfer_rel.specs.Entries.{TakeSameEntries, HasOtherEntries}
use Rattle.region_walk.specs.declared.spot.Spot.{Spot}
use Rattle.region_walk.specs.declared.visit.Visit.{Visit}
use Rattle.region_walk.specs.Lists.{AreOnce, AddsFrom, AreNumbersOf, items_at}
use Rattle.region_walk.specs.Spots.{stamp_of, state_of}
use Rattle.region_walk.specs.Visits.{next_numbers, next_spots, AreStates, AreFresh}
use Rattle.region_walk.specs.Divisions.{HasOtherEntriesAfter, DividesOnTheWay}
use Rattle.region_walk.specs.Seen.{IsVisitOf, FollowsVisit, AllVisited, HasOtherEntriesAtNew}
use Rattle.region_walk.proofs.NumberLemmas.{get_joined, get_before, get_last, longer, number_of}

-- ---- what was added

module _ {A : Type 0} where
  get_behind : (xs ys : List A) (i : ℕ) (x : A) → length xs ≤ i → slice_get (xs ++ ys) i ≡ Some x → Contains ys x
  get_behind [] ys i x l e = subst (Contains ys) (get_or_from_slice_get ys i x x e) (Contains-get_or ys i x (slice_get_within ys i x e))
  get_behind (y ∷ xs) ys zero x l e = absurd (omega (arith, l))
  get_behind (y ∷ xs) ys (suc i) x l e = get_behind xs ys i x (omega (arith, l)) e

  -- what was added has one of the numbers
  added_number : (items old new : List A) (ns : List ℕ) → AddsFrom items old new → AreNumbersOf new ns items → AreOnce old → (i : ℕ) → length old ≤ i → i < length new → Contains ns i
  added_number items old new ns adds numbers once i behind within = elim (slice_get_cases new i).1 [
    | inl h ↦
        let among : Contains items h.0 = adds.among h.0 (get_behind old adds.more i h.0 behind (subst (λ l. slice_get l i ≡ Some h.0) adds.added h.2)) in
        let n = number_of new ns items numbers h.0 among in
        subst (Contains ns) ((adds.once once).one n.0 i h.0 n.2 h.2) n.1
    | inr h ↦ absurd (omega (arith, within, h.0))
  ]

-- one more visit: the spots that it added follow it
pub follows_push : (w : World) (c : Cube) (g : Header) (seen : ℕ) (before : List Spot) (spot : Spot) (spots new : List Spot) (visits : List Visit) (v : Visit) → ((i : ℕ) → length before ≤ i → i < length spots → FollowsVisit seen (length before) visits i) → seen ≤ length visits → length visits < length before → AreOnce spots → IsVisitOf w c g spot spots new v → (i : ℕ) → length before ≤ i → i < length new → FollowsVisit seen (length before) (visits ++ (v ∷ [])) i
follows_push w c g seen before spot spots new visits v follows behind within once one i from below = elim (cases_lt i (length spots)) [
  | inl l ↦
      let f = follows i from l in
      record { position = f.position; behind = f.behind; before = f.before; visit = f.visit; stands = get_joined visits (v ∷ []) f.position f.visit f.stands; next = f.next }
  | inr l ↦
      record { position = length visits; behind = behind; before = within; visit = v; stands = get_last visits v; next = added_number (next_spots v) spots new v.next one.adds one.numbers once i l below }
]

-- ---- the spots without a visit

pub start_fresh : (spot : Spot) (old spots : List Spot) (visits : List Visit) (number : ℕ) (states : List ℕ) → old ≡ [] → AddsFrom (spot ∷ []) old spots → slice_get spots number ≡ Some spot → states ≡ number ∷ [] → AreFresh visits spots states
start_fresh spot old spots visits number states none adds e f i behind within =
    let one : AreNumbersOf spots (number ∷ []) (spot ∷ []) = λ j. e j ∷ [] in
    let once : AreOnce old = subst AreOnce (sym none) (record { one = λ j k x a b. cc }) in
    subst (λ ns. Contains ns i) (sym f) (added_number (spot ∷ []) old spots (number ∷ []) adds one once i (subst (λ l. length l ≤ i) (sym none) (omega arith)) within)

pub fresh_turn : (w : World) (c : Cube) (g : Header) (spots new : List Spot) (before visits : List Visit) (states next : List ℕ) → AreFresh before spots states → AllVisited w c g (length before) spots new visits → SameSet next (flat_map next_numbers (items_at visits states)) → AreFresh visits new next
fresh_turn w c g spots new before visits states next fresh all same i behind within =
    let f = all.added i (omega (arith, all.all, behind)) within in
    let among : Contains (items_at visits states) f.visit = to_filter_map (slice_get visits) states f.visit f.position (fresh f.position f.behind f.before) f.stands in
    (same i).1 (to_flat_map next_numbers (items_at visits states) i f.visit among f.next)

-- ---- the cause of a division

-- headers that the stamp makes of those of the cube take different entries
pub other_entries_after : (w : World) (p : Place) (s : Stamp) (c d : Cube) → ((g : Header) → IsHeader g → IsIn d (number g) → IsMadeFrom s c g) → HasOtherEntries w p d → HasOtherEntriesAfter w p s c
other_entries_after w p s c d made o =
    let a = made o.first o.first_valid o.first_in in
    let b = made o.second o.second_valid o.second_in in
    record {
      first = a.0;
      second = b.0;
      first_valid = a.1;
      second_valid = b.1;
      first_in = a.2;
      second_in = b.2;
      other = λ same. o.other (subst (λ g. TakeSameEntries w p g o.second) a.3 (subst (TakeSameEntries w p _) b.3 same));
    }

-- at a spot behind the visits that there were, of which some were visited since
pub new_divides : (w : World) (c : Cube) (spot : Spot) (before spots : List Spot) (seen visits : List Visit) → Extends before spots → Extends seen visits → length visits < length before → slice_get spots (length visits) ≡ Some spot → HasOtherEntriesAfter w spot.place (stamp_of spot) c → HasOtherEntriesAtNew w c (length seen) before
new_divides w c spot before spots seen visits more grown within stands other = record {
  position = length visits;
  behind = longer seen visits grown;
  spot = spot;
  stands = sym (get_before before more.more (length visits) within) ∙ subst (λ l. slice_get l (length visits) ≡ Some spot) more.added stands;
  other = other;
}

-- the walks of n moves lead to the spot
pub divides_on_the_way : (w : World) (c : Cube) (g : Header) (p : Place) (n : ℕ) (spots : List Spot) (visits : List Visit) (states : List ℕ) → n ≤ 254 → AreStates w c g p n spots states → AreFresh visits spots states → HasOtherEntriesAtNew w c (length visits) spots → DividesOnTheWay w p c
divides_on_the_way w c g p n spots visits states within after fresh o =
    let among : Contains (items_at spots states) o.spot = to_filter_map (slice_get spots) states o.spot o.position (fresh o.position o.behind (slice_get_within spots o.position o.spot o.stands)) o.stands in
    record {
      moves = n;
      within = within;
      place = o.spot.place;
      stamp = stamp_of o.spot;
      reached = λ h i m. walk_from_states w n (state_at p h) (state_of h o.spot) ((after.after.states h i m (state_of h o.spot)).1 (to_map (state_of h) (items_at spots states) o.spot among));
      other = o.other;
    }
