-- Moves told from the start of the walk.
use Rattle.std.proofs.Common.{◌≡◌, ℕ, ◌^◌, ◌<◌, Bool, true, false, List, [], ◌∷◌, Option, Some, None, map, refl, sym, subst, ◌∙◌, arith, ◌==◌, if◌then◌else◌, IfSome}
use Rattle.std.specs.Option.{unwrap_or, option_or}
use Rattle.std.specs.List.{AllByRecursion}
use Rattle.std.proofs.lemmas.Bool.Decides.{nat_tests}
use Rattle.hdr_bits.specs.declared.header.Header.{Header}
use Rattle.hdr_bits.specs.declared.cube.Cube.{Cube}
use Rattle.hdr_bits.specs.HeaderBits.{number, IsHeader}
use Rattle.hdr_bits.specs.CubeBits.{IsIn}
use Rattle.net_types.specs.declared.network.Move.TheVariants.{Exit, Go}
use Rattle.net_types.specs.World.{World}
use Rattle.net_types.specs.Moves.{moves}
use Rattle.net_types.proofs.Members.{in_filter_map}
use Rattle.cube_alg.specs.declared.stamp.Stamp.{Stamp}
use Rattle.cube_alg.specs.Stamps.{applied, unless_same, IsMadeFrom}
use Rattle.transfer_rel.specs.declared.moves.StampMove.{StampMove}
use Rattle.transfer_rel.specs.declared.moves.StampMove.TheVariants as stamped
use Rattle.transfer_rel.specs.CubeMoves.{SameSet, move_of, OfStamp, AlikeField, AlikeUnder, IsStamp, AreMovesOn}
use Rattle.region_walk.specs.declared.spot.Spot.{Spot}
use Rattle.region_walk.specs.declared.visit.Visit.{Visit}
use Rattle.region_walk.specs.Spots.{stamp_of, IsBase, FieldFits, StampFits, IsSpot, since_start, relative, next_spot}
use Rattle.region_walk.specs.Visits.{IsVisit, next_spots}
use Rattle.region_walk.proofs.SetLemmas.{all_at, all_from}

-- ---- a field that is written where all headers have one value

set_field : (x y v : ℕ) → y ≡ x → FieldFits x y (unless_same (Some v) x) × (unwrap_or (unless_same (Some v) x) y ≡ v)
set_field x y v e =
    (elim (v == x) as (λ b. (v == x) ≡ b → FieldFits x y (if b then None else Some v) × (unwrap_or (if b then None else Some v) y ≡ v)) [
      | true ↦ λ t. (refl, e ∙ sym (equal t))
      | false ↦ λ t. ((e, t), refl)
    ]) refl
  where
    equal : (v == x) ≡ true → v ≡ x
    equal t = grind (arith, nat_tests)

field_keeps : (x y : ℕ) (o m : Option ℕ) → FieldFits x y o → AlikeField m (unwrap_or o x) (unwrap_or o y) → FieldFits x y (unless_same (option_or m o) x) × (unwrap_or (unless_same (option_or m o) x) y ≡ unwrap_or m (unwrap_or o y))
field_keeps x y None None f a = (refl, refl)
field_keeps x y None (Some v) f a = set_field x y v (sym a)
field_keeps x y (Some u) None f a = set_field x y u f.0
field_keeps x y (Some u) (Some v) f a = set_field x y v f.0

stamp_keeps : (g h : Header) (s t : Stamp) → StampFits g h s → AlikeUnder (applied s g) (applied s h) t → StampFits g h (since_start g s t) × (applied (since_start g s t) h ≡ applied t (applied s h))
stamp_keeps g h s t f a =
    let a1 = field_keeps g.src h.src s.src t.src f.src a.src in
    let a2 = field_keeps g.dst h.dst s.dst t.dst f.dst a.dst in
    let a3 = field_keeps g.sport h.sport s.sport t.sport f.sport a.sport in
    let a4 = field_keeps g.dport h.dport s.dport t.dport f.dport a.dport in (
      record { src = a1.0; dst = a2.0; sport = a3.0; dport = a4.0 },
      λ i. record { dst = a2.1 i; src = a1.1 i; proto = h.proto; dport = a4.1 i; sport = a3.1 i; flags = h.flags },
    )

move_keeps : (g h : Header) (s : Stamp) (m : StampMove) → StampFits g h s → OfStamp (AlikeUnder (applied s g) (applied s h)) m → OfStamp (StampFits g h) (relative g s m) × (move_of h (relative g s m) ≡ move_of (applied s h) m)
move_keeps g h s stamped.Drop f a = (refl, refl)
move_keeps g h s (stamped.Local p) f a = (refl, refl)
move_keeps g h s stamped.Lost f a = (refl, refl)
move_keeps g h s (stamped.Exit p t) f a = let k = stamp_keeps g h s t f a in (k.0, λ i. Exit p (k.1 i))
move_keeps g h s (stamped.Go p t) f a = let k = stamp_keeps g h s t f a in (k.0, λ i. Go p (k.1 i))

moves_keep : (g h : Header) (s : Stamp) (ms : List StampMove) → StampFits g h s → AllByRecursion (OfStamp (AlikeUnder (applied s g) (applied s h))) ms → AllByRecursion (OfStamp (StampFits g h)) (map (relative g s) ms) × (map (move_of h) (map (relative g s) ms) ≡ map (move_of (applied s h)) ms)
moves_keep g h s [] f a = (tt, refl)
moves_keep g h s (m ∷ ms) f a =
    let k = move_keeps g h s m f a.0 in
    let r = moves_keep g h s ms f a.1 in
    ((k.0, r.0), λ i. k.1 i ∷ r.1 i)

-- ---- ranges

field_small : (x w : ℕ) (o m : Option ℕ) → IfSome o (λ v. v < 2 ^ w) → IfSome m (λ v. v < 2 ^ w) → IfSome (unless_same (option_or m o) x) (λ v. v < 2 ^ w)
field_small x w None None a b = tt
field_small x w None (Some v) a b = either (v == x) v b
  where
    either : (t : Bool) (v : ℕ) → v < 2 ^ w → IfSome (if t then None else Some v) (λ v. v < 2 ^ w)
    either true v l = tt
    either false v l = l
field_small x w (Some u) None a b = either (u == x) u a
  where
    either : (t : Bool) (v : ℕ) → v < 2 ^ w → IfSome (if t then None else Some v) (λ v. v < 2 ^ w)
    either true v l = tt
    either false v l = l
field_small x w (Some u) (Some v) a b = either (v == x) v b
  where
    either : (t : Bool) (v : ℕ) → v < 2 ^ w → IfSome (if t then None else Some v) (λ v. v < 2 ^ w)
    either true v l = tt
    either false v l = l

stamp_small : (g : Header) (s t : Stamp) → IsStamp s → IsStamp t → IsStamp (since_start g s t)
stamp_small g s t a b = record {
  src = field_small g.src 32 s.src t.src a.src b.src;
  dst = field_small g.dst 32 s.dst t.dst a.dst b.dst;
  sport = field_small g.sport 16 s.sport t.sport a.sport b.sport;
  dport = field_small g.dport 16 s.dport t.dport a.dport b.dport;
}

moves_small : (g : Header) (s : Stamp) (ms : List StampMove) → IsStamp s → AllByRecursion (OfStamp IsStamp) ms → AllByRecursion (OfStamp IsStamp) (map (relative g s) ms)
moves_small g s [] a all = tt
moves_small g s (m ∷ ms) a all = (one m all.0, moves_small g s ms a all.1)
  where
    one : (m : StampMove) → OfStamp IsStamp m → OfStamp IsStamp (relative g s m)
    one stamped.Drop b = refl
    one (stamped.Local p) b = refl
    one stamped.Lost b = refl
    one (stamped.Exit p t) b = stamp_small g s t a b
    one (stamped.Go p t) b = stamp_small g s t a b

put_small : (o : Option ℕ) (x w : ℕ) → IfSome o (λ v. v < 2 ^ w) → x < 2 ^ w → unwrap_or o x < 2 ^ w
put_small None x w s b = b
put_small (Some v) x w s b = s

pub applied_fits : (s : Stamp) (h : Header) → IsStamp s → IsHeader h → IsHeader (applied s h)
applied_fits s h a i = record {
  dst = put_small s.dst h.dst 32 a.dst i.dst;
  src = put_small s.src h.src 32 a.src i.src;
  proto = i.proto;
  dport = put_small s.dport h.dport 16 a.dport i.dport;
  sport = put_small s.sport h.sport 16 a.sport i.sport;
  flags = i.flags;
}

-- ---- visits

-- the moves on what a stamp makes of the region, told from the start, are those of a visit
pub visit_is : (w : World) (c d : Cube) (g : Header) (v : Visit) (ms : List StampMove) → IsBase c g → IsSpot c g v.spot → ((h : Header) → IsHeader h → IsMadeFrom (stamp_of v.spot) c h → IsIn d (number h)) → AreMovesOn w v.spot.place d ms → v.moves ≡ map (relative g (stamp_of v.spot)) ms → IsVisit w c g v
visit_is w c d g v ms base spot made on told =
    let s = stamp_of v.spot in
    let fit : (h : Header) → IsHeader h → IsHeader (applied s h) = λ h i. applied_fits s h spot.fits i in
    let inside : (h : Header) → IsHeader h → IsIn c (number h) → IsIn d (number (applied s h)) = λ h i m. made (applied s h) (fit h i) (h, i, m, refl) in
    record {
      serves = λ h i m.
          let k = moves_keep g h s ms (spot.stamp h i m) (on.fixes (applied s g) (applied s h) (fit g base.fits) (fit h i) (inside g base.fits base.inside) (inside h i m)) in
          record {
            moves = subst (λ l. SameSet (moves w v.spot.place (applied s h)) (map (move_of h) l)) (sym told) (subst (λ l. SameSet (moves w v.spot.place (applied s h)) l) (sym k.1) (on.moves (applied s h) (fit h i) (inside h i m)));
            stamps = subst (AllByRecursion (OfStamp (StampFits g h))) (sym told) k.0;
          };
      fits = subst (AllByRecursion (OfStamp IsStamp)) (sym told) (moves_small g s ms spot.fits on.fits);
    }

-- a fact of the stamp of a move that goes on
next_fact : (P : Stamp → Type 0) (m : StampMove) (x : Spot) → next_spot m ≡ Some x → OfStamp P m → P (stamp_of x)
next_fact P stamped.Drop x e f = cc
next_fact P (stamped.Local p) x e f = cc
next_fact P stamped.Lost x e f = cc
next_fact P (stamped.Exit p s) x e f = cc
next_fact P (stamped.Go p s) x e f =
    let same : s ≡ stamp_of x = λ i. stamp_or (e i) in
    subst P same f
  where
    stamp_or : Option Spot → Stamp
    stamp_or None = s
    stamp_or (Some y) = stamp_of y

-- where a visit goes on to
pub next_are_spots : (w : World) (c : Cube) (g : Header) (v : Visit) → IsVisit w c g v → AllByRecursion (IsSpot c g) (next_spots v)
next_are_spots w c g v a = all_from (IsSpot c g) (next_spots v) (λ x cx.
    let b = in_filter_map next_spot v.moves x cx in
    record {
      stamp = λ h i m. next_fact (StampFits g h) b.0 x b.2 (all_at (OfStamp (StampFits g h)) v.moves b.0 (a.serves h i m).stamps b.1);
      fits = next_fact IsStamp b.0 x b.2 (all_at (OfStamp IsStamp) v.moves b.0 a.fits b.1);
    })
