-- Two halves of a cube with the same entries have one answer; else two of their headers take different entries.
use Rattle.std.proofs.Common.{◌≡◌, ◌≢◌, ◌⊎◌, inl, inr, ◌<◌, ◌-◌, ◌^◌, ℕ, true, false, List, [], ◌∷◌, map, Option, Some, None, refl, sym, ap, ◌∙◌, subst, arith, ◌==◌, if◌then◌else◌}
use Rattle.std.specs.Prelude.{Contains, IfSome, slice_index_or}
use Rattle.std.specs.Option.{unwrap_or}
use Rattle.std.specs.List.{AllByRecursion}
use Rattle.std.proofs.lemmas.Bool.{cases_eq}
use Rattle.std.proofs.lemmas.Bool.Decides.{nat_tests}
use Rattle.std.proofs.lemmas.List.{get_or_default}
use Rattle.std.proofs.lemmas.List.Elements.{Contains-get_or}
use Rattle.std.proofs.lemmas.Nat.Bits.{bit_at-lt}
use Rattle.hdr_bits.specs.declared.header.Header.{Header}
use Rattle.hdr_bits.specs.declared.cube.Cube.{Cube}
use Rattle.hdr_bits.specs.HeaderBits.{number, IsHeader}
use Rattle.hdr_bits.specs.Bits.{bit_of}
use Rattle.hdr_bits.specs.CubeBits.{IsIn}
use Rattle.cube_alg.proofs.CutLemmas.{Halves, one_of}
use Rattle.cube_alg.specs.declared.on_cube.OnCube.{OnCube}
use Rattle.cube_alg.specs.declared.on_cube.OnCube.TheVariants as answer
use Rattle.cube_alg.specs.OnCubes.{IsOpen}
use Rattle.cube_alg.specs.declared.stamp.Stamp.{Stamp}
use Rattle.cube_alg.specs.Stamps.{applied, unless_same, changed_fields}
use Rattle.net_types.specs.declared.network.Move.{Move}
use Rattle.net_types.specs.declared.network.Move.TheVariants.{Local, Exit, Go}
use Rattle.net_types.specs.declared.network.Place.{Place}
use Rattle.net_types.specs.World.{World}
use Rattle.net_types.specs.Moves.{moves}
use Rattle.net_types.proofs.Members.{in_map, to_map}
use Rattle.transfer_rel.specs.declared.moves.StampMove.{StampMove}
use Rattle.transfer_rel.specs.declared.moves.StampMove.TheVariants as stamped
use Rattle.transfer_rel.specs.CubeMoves.{SameSet, move_of, OfStamp, AlikeField, AlikeUnder, IsStamp, AreMovesOn, OfCubeMoves}
use Rattle.transfer_rel.specs.Entries.{Entry, dropped, local, lost, exit, go, Rewrites, entry_of, rewrites, rewritten, entries, HasOtherEntries}
use Rattle.transfer_rel.specs.Halves.{HasEntry, HasEntries, IsJoined, entry_by, shortened}
use Rattle.transfer_rel.proofs.SetLemmas.{all_at, all_from}

-- ---- one field

-- replaced alike: both keep the value, or both replace the same one by the same one
alike_cases : (m n k l : ℕ) → rewritten m n ≡ rewritten k l → ((m ≡ n) × (k ≡ l)) ⊎ ((m ≢ n) × (m ≡ k) × (n ≡ l))
alike_cases m n k l e =
    (elim (m == n) as (λ b. (m == n) ≡ b → ((m ≡ n) × (k ≡ l)) ⊎ ((m ≢ n) × (m ≡ k) × (n ≡ l))) [
      | true ↦ λ t. grind (arith, nat_tests, e)
      | false ↦ λ t. grind (arith, nat_tests, e)
    ]) refl

unless_kept : (s : Option ℕ) (g : ℕ) → g ≡ unwrap_or s g → unless_same s g ≡ None
unless_kept None g e = refl
unless_kept (Some v) g e = grind (arith, nat_tests, e)

unless_changed : (s : Option ℕ) (g : ℕ) → g ≢ unwrap_or s g → unless_same s g ≡ Some (unwrap_or s g)
unless_changed None g e = absurd (e refl)
unless_changed (Some v) g e = grind (arith, nat_tests, e)

-- of a third value x, that is h where t replaces it: s without what leaves g as it is makes of x what t makes of it
abbrev FieldTwin : Option ℕ → Option ℕ → ℕ → ℕ → Type 0
FieldTwin u t g x = AlikeField u g x × (unwrap_or u x ≡ unwrap_or t x)

field_twin : (s t : Option ℕ) (g h x : ℕ) → rewritten h (unwrap_or t h) ≡ rewritten g (unwrap_or s g) → AlikeField t h x → FieldTwin (unless_same s g) t g x
field_twin s None g h x e a = elim (alike_cases h h g (unwrap_or s g) e) [
  | inl c ↦ subst (λ u. FieldTwin u None g x) (sym (unless_kept s g c.1)) (refl, refl)
  | inr c ↦ absurd (c.0 refl)
]
field_twin s (Some v) g h x e a = elim (alike_cases h v g (unwrap_or s g) e) [
  | inl c ↦ subst (λ u. FieldTwin u (Some v) g x) (sym (unless_kept s g c.1)) (refl, sym a ∙ c.0)
  | inr c ↦ subst (λ u. FieldTwin u (Some v) g x) (sym (unless_changed s g (λ i. c.0 (c.1 ∙ i ∙ sym c.2)))) (sym c.1 ∙ a, sym c.2)
]

-- ---- one move

stamp_twin : (s t : Stamp) (g h x : Header) → rewrites h (applied t h) ≡ rewrites g (applied s g) → AlikeUnder h x t → AlikeUnder g x (changed_fields s g) × (applied (changed_fields s g) x ≡ applied t x)
stamp_twin s t g h x e a =
    let a1 = field_twin s.src t.src g.src h.src x.src (ap (λ r. r.src) e) a.src in
    let a2 = field_twin s.dst t.dst g.dst h.dst x.dst (ap (λ r. r.dst) e) a.dst in
    let a3 = field_twin s.sport t.sport g.sport h.sport x.sport (ap (λ r. r.sport) e) a.sport in
    let a4 = field_twin s.dport t.dport g.dport h.dport x.dport (ap (λ r. r.dport) e) a.dport in (
      record { src = a1.0; dst = a2.0; sport = a3.0; dport = a4.0 },
      λ i. record { dst = a2.1 i; src = a1.1 i; proto = x.proto; dport = a4.1 i; sport = a3.1 i; flags = x.flags },
    )

exit_parts : (p q : Place) (r s : Rewrites) → exit p r ≡ exit q s → (p ≡ q) × (r ≡ s)
exit_parts p q r s e = (cc, cc)

go_parts : (p q : Place) (r s : Rewrites) → go p r ≡ go q s → (p ≡ q) × (r ≡ s)
go_parts p q r s e = (cc, cc)

local_part : (p q : Place) → local p ≡ local q → p ≡ q
local_part p q e = cc

abbrev kind : Entry → ℕ
kind dropped = 0
kind (local p) = 1
kind lost = 2
kind (exit p r) = 3
kind (go p r) = 4

-- u does with x what n does, and what it replaces x has as g
abbrev Twin : StampMove → StampMove → Header → Header → Type 0
Twin u n g x = OfStamp (AlikeUnder g x) u × (move_of x u ≡ move_of x n)

move_twin : (m n : StampMove) (g h x : Header) → entry_by h n ≡ entry_by g m → OfStamp (AlikeUnder h x) n → Twin (shortened g m) n g x
move_twin stamped.Drop stamped.Drop g h x e a = (refl, refl)
move_twin stamped.Lost stamped.Lost g h x e a = (refl, refl)
move_twin (stamped.Local p) (stamped.Local q) g h x e a = (refl, ap Local (sym (local_part q p e)))
move_twin (stamped.Exit p s) (stamped.Exit q t) g h x e a =
    let b = exit_parts q p (rewrites h (applied t h)) (rewrites g (applied s g)) e in
    let r = stamp_twin s t g h x b.1 a in
    let l = sym b.0 in
    (r.0, λ i. Exit (l i) (r.1 i))
move_twin (stamped.Go p s) (stamped.Go q t) g h x e a =
    let b = go_parts q p (rewrites h (applied t h)) (rewrites g (applied s g)) e in
    let r = stamp_twin s t g h x b.1 a in
    let l = sym b.0 in
    (r.0, λ i. Go (l i) (r.1 i))
move_twin m n g h x e a = absurd (let k : kind (entry_by h n) ≡ kind (entry_by g m) = ap kind e in omega (arith, k))

-- ---- the headers of a half

-- a header with whose moves and replaced values these moves agree
pub record IsMovedBy (w : World) (p : Place) (g : Header) (ms : List StampMove) (x : Header) : Type 0 where
  pub moves : SameSet (moves w p x) (map (move_of x) ms)
  pub alike : AllByRecursion (OfStamp (AlikeUnder g x)) ms

entry_there : (ns : List StampMove) (h : Header) (e : Entry) → HasEntry ns h e → (n : StampMove) × Contains ns n × (entry_by h n ≡ e)
unfolding HasEntry
entry_there ns h e (k, n, l, at, is) = (n, (k, l, at), is)

entries_there : (ms ns : List StampMove) (g h : Header) → HasEntries ms g ns h → (m : StampMove) → Contains ms m → (n : StampMove) × Contains ns n × (entry_by h n ≡ entry_by g m)
entries_there ms ns g h a m c = entry_there ns h (entry_by g m) (subst (λ i. HasEntry ns h (entry_by g i)) c.2 (a c.0 m c.1))

module _ (w : World) (p : Place) (d : Cube) (ms ns : List StampMove) (g h : Header) where
  pub moved : AreMovesOn w p d ns → IsHeader h → IsIn d (number h) → HasEntries ms g ns h → HasEntries ns h ms g → (x : Header) → IsHeader x → IsIn d (number x) → IsMovedBy w p g (map (shortened g) ms) x
  moved r v i a b x u j = record { moves = λ y. (there y, back y); alike = all_from (OfStamp (AlikeUnder g x)) (map (shortened g) ms) alike }
    where
      twin : (m n : StampMove) → Contains ns n → entry_by h n ≡ entry_by g m → Twin (shortened g m) n g x
      twin m n c e = move_twin m n g h x e (all_at (OfStamp (AlikeUnder h x)) ns n (r.fixes h x v u i j) c)

      there : (y : Move) → Contains (moves w p x) y → Contains (map (move_of x) (map (shortened g) ms)) y
      there y c =
          let n = in_map (move_of x) ns y ((r.moves x u j y).0 c) in
          let m = entries_there ns ms h g b n.0 n.1 in
          subst (Contains (map (move_of x) (map (shortened g) ms))) ((twin m.0 n.0 n.1 (sym m.2)).1 ∙ n.2) (to_map (move_of x) (map (shortened g) ms) (shortened g m.0) (to_map (shortened g) ms m.0 m.1))

      back : (y : Move) → Contains (map (move_of x) (map (shortened g) ms)) y → Contains (moves w p x) y
      back y c =
          let q = in_map (move_of x) (map (shortened g) ms) y c in
          let m = in_map (shortened g) ms q.0 q.1 in
          let n = entries_there ms ns g h a m.0 m.1 in
          (r.moves x u j y).1 (subst (Contains (map (move_of x) ns)) (sym (twin m.0 n.0 n.1 n.2).1 ∙ ap (move_of x) m.2 ∙ q.2) (to_map (move_of x) ns n.0 n.1))

      alike : (q : StampMove) → Contains (map (shortened g) ms) q → OfStamp (AlikeUnder g x) q
      alike q c =
          let m = in_map (shortened g) ms q c in
          let n = entries_there ms ns g h a m.0 m.1 in
          subst (OfStamp (AlikeUnder g x)) m.2 (twin m.0 n.0 n.1 n.2).0

-- a header's entries are its own
own_entries : (ms : List StampMove) (g : Header) → HasEntries ms g ms g
unfolding HasEntry
own_entries ms g k d l = (k, slice_index_or ms k d, l, get_or_default ms k (slice_index_or ms k d) d l, refl)

has_entry : (ns : List StampMove) (h : Header) (e : Entry) (n : StampMove) → Contains ns n → entry_by h n ≡ e → HasEntry ns h e
unfolding HasEntry
has_entry ns h e n c is = (c.0, n, c.1, c.2, is)

-- the moves of two headers of cubes, where the second header takes each entry of the first
module _ (w : World) (p : Place) (c d : Cube) (ms ns : List StampMove) (g h : Header) where
  pub shared : AreMovesOn w p c ms → AreMovesOn w p d ns → IsHeader g → IsHeader h → IsIn c (number g) → IsIn d (number h) → ((e : Entry) → Contains (entries w p g) e → Contains (entries w p h) e) → HasEntries ms g ns h
  shared a b u v i j f k o l =
      let m = slice_index_or ms k o in
      let here = (a.moves g u i (move_of g m)).1 (to_map (move_of g) ms m (Contains-get_or ms k o l)) in
      let y = in_map (entry_of h) (moves w p h) (entry_by g m) (f (entry_by g m) (to_map (entry_of g) (moves w p g) (move_of g m) here)) in
      let n = in_map (move_of h) ns y.0 ((b.moves h v j y.0).0 y.1) in
      has_entry ns h (entry_by g m) n.0 n.1 (ap (entry_of h) n.2 ∙ y.2)

-- ---- the whole

field_alike : (o : Option ℕ) (g x y : ℕ) → AlikeField o g x → AlikeField o g y → AlikeField o x y
field_alike None g x y a b = refl
field_alike (Some v) g x y a b = sym a ∙ b

fields_alike : (g x y : Header) (s : Stamp) → AlikeUnder g x s → AlikeUnder g y s → AlikeUnder x y s
fields_alike g x y s a b =
    record {
      src = field_alike s.src g.src x.src y.src a.src b.src;
      dst = field_alike s.dst g.dst x.dst y.dst a.dst b.dst;
      sport = field_alike s.sport g.sport x.sport y.sport a.sport b.sport;
      dport = field_alike s.dport g.dport x.dport y.dport a.dport b.dport;
    }

stamp_alike : (g x y : Header) (m : StampMove) → OfStamp (AlikeUnder g x) m → OfStamp (AlikeUnder g y) m → OfStamp (AlikeUnder x y) m
stamp_alike g x y stamped.Drop a b = a
stamp_alike g x y (stamped.Local p) a b = a
stamp_alike g x y stamped.Lost a b = a
stamp_alike g x y (stamped.Exit p s) a b = fields_alike g x y s a b
stamp_alike g x y (stamped.Go p s) a b = fields_alike g x y s a b

alike_both : (g x y : Header) (ms : List StampMove) → AllByRecursion (OfStamp (AlikeUnder g x)) ms → AllByRecursion (OfStamp (AlikeUnder g y)) ms → AllByRecursion (OfStamp (AlikeUnder x y)) ms
alike_both g x y [] a b = tt
alike_both g x y (m ∷ ms) a b = (stamp_alike g x y m a.0 b.0, alike_both g x y ms a.1 b.1)

field_small : (o : Option ℕ) (g n : ℕ) → IfSome o (λ v. v < n) → IfSome (unless_same o g) (λ v. v < n)
field_small None g n l = tt
field_small (Some v) g n l = elim (v == g) as (λ b. IfSome (if b then None else Some v) (λ v. v < n)) [ true ↦ tt | false ↦ l ]

stamp_small : (s : Stamp) (g : Header) → IsStamp s → IsStamp (changed_fields s g)
stamp_small s g a =
    record {
      src = field_small s.src g.src (2 ^ 32) a.src;
      dst = field_small s.dst g.dst (2 ^ 32) a.dst;
      sport = field_small s.sport g.sport (2 ^ 16) a.sport;
      dport = field_small s.dport g.dport (2 ^ 16) a.dport;
    }

small_moves : (g : Header) (ms : List StampMove) → AllByRecursion (OfStamp IsStamp) ms → AllByRecursion (OfStamp IsStamp) (map (shortened g) ms)
small_moves g [] a = tt
small_moves g (m ∷ ms) a = (small m a.0, small_moves g ms a.1)
  where
    small : (m : StampMove) → OfStamp IsStamp m → OfStamp IsStamp (shortened g m)
    small stamped.Drop a = refl
    small (stamped.Local p) a = refl
    small stamped.Lost a = refl
    small (stamped.Exit p s) a = stamp_small s g a
    small (stamped.Go p s) a = stamp_small s g a

-- each header of the cube is in one of its halves
by_half : (k : ℕ) (c low high : Cube) (n : ℕ) → Halves k c low high → IsIn c n → IsIn low n ⊎ IsIn high n
by_half k c low high n s m = elim (cases_eq (bit_of n k) 0) [
  | inl e ↦ inl ((s.zero_side n).1 (m, e))
  | inr e ↦ inr ((s.one_side n).1 (m, (let l = bit_at-lt n (111 - k) in one_of (bit_of n k) l e)))
]

-- two halves with their least headers and moves
pub record HaveMoves (w : World) (p : Place) (k : ℕ) (c low high : Cube) (g h : Header) (zeros ones : List StampMove) : Type 0 where
  pub halves : Halves k c low high
  pub first : IsHeader g
  pub second : IsHeader h
  pub first_in : IsIn low (number g)
  pub second_in : IsIn high (number h)
  pub low_moves : AreMovesOn w p low zeros
  pub high_moves : AreMovesOn w p high ones

module _ (w : World) (p : Place) (k : ℕ) (c low high : Cube) (g h : Header) (zeros ones : List StampMove) (s : HaveMoves w p k c low high g h zeros ones) where
  -- with the same entries
  pub joined : HasEntries zeros g ones h → HasEntries ones h zeros g → AreMovesOn w p c (map (shortened g) zeros)
  joined a b =
      record {
        moves = λ x u i. (all x u i).moves;
        fixes = λ x y u v i j. alike_both g x y (map (shortened g) zeros) (all x u i).alike (all y v j).alike;
        fits = small_moves g zeros s.low_moves.fits;
      }
    where
      all : (x : Header) → IsHeader x → IsIn c (number x) → IsMovedBy w p g (map (shortened g) zeros) x
      all x u i = elim (by_half k c low high (number x) s.halves i) [
        | inl j ↦ moved w p low zeros zeros g g s.low_moves s.first s.first_in (own_entries zeros g) (own_entries zeros g) x u j
        | inr j ↦ moved w p high zeros ones g h s.high_moves s.second s.second_in a b x u j
      ]

  -- with other entries
  pub apart : (HasEntries zeros g ones h → HasEntries ones h zeros g → ⊥) → HasOtherEntries w p c
  apart f =
      record {
        first = g;
        second = h;
        first_valid = s.first;
        second_valid = s.second;
        first_in = ((s.halves.zero_side (number g)).0 s.first_in).0;
        second_in = ((s.halves.one_side (number h)).0 s.second_in).0;
        other = λ e. f (shared w p low high zeros ones g h s.low_moves s.high_moves s.first s.second s.first_in s.second_in (λ x. (e x).0)) (shared w p high low ones zeros h g s.high_moves s.low_moves s.second s.first s.second_in s.first_in (λ x. (e x).1));
      }

  pub of_joined : IsOpen c k → (x : OnCube (List StampMove)) → IsJoined zeros g ones h k x → OfCubeMoves w p c x
  of_joined o (answer.All qs) (a, b, e) = subst (AreMovesOn w p c) (sym e) (joined a b)
  of_joined o (answer.Divides i) (f, e) = (subst (IsOpen c) (sym e) o, apart f)

-- the headers that divide a half divide the cube
pub wider : (w : World) (p : Place) (d c : Cube) (x : OnCube (List StampMove)) → ((n : ℕ) → IsIn d n → IsIn c n) → ((ms : List StampMove) → x ≡ answer.All ms → ⊥) → OfCubeMoves w p d x → HasOtherEntries w p c
wider w p d c (answer.All ms) f n o = absurd (n ms refl)
wider w p d c (answer.Divides k) f n o =
    let a = o.1 in
    record {
      first = a.first;
      second = a.second;
      first_valid = a.first_valid;
      second_valid = a.second_valid;
      first_in = f (number a.first) a.first_in;
      second_in = f (number a.second) a.second_in;
      other = a.other;
    }
