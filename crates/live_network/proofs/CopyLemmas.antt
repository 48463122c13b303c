-- Ways that are copied to another table are those of the same places.
use Rattle.std.proofs.Common.{ℕ, zero, suc, ◌≡◌, ◌<◌, ◌≤◌, ◌+◌, ◌++◌, ◌==◌, ◌↔◌, inl, inr, List, [], ◌∷◌, Option, Some, None, get_or, length, slice_get, take, refl, ap, sym, ◌∙◌, subst, arith}
use Rattle.std.specs.Prelude.{Contains}
use Rattle.std.specs.List.{AllZip}
use Rattle.std.proofs.lemmas.Bool.Decides.{eqb_tells}
use Rattle.std.proofs.lemmas.List.{take_more}
use Rattle.std.proofs.lemmas.List.Elements.{AllZip-push}
use Rattle.std.proofs.lemmas.Option.{slice_get_within}
use Rattle.indexmap.specs.IndexMap.{get}
use Rattle.hdr_bits.specs.declared.header.Header.{Header}
use Rattle.cube_diagram.specs.Functions.{Functions, Keeps, count_of}
use Rattle.net_types.specs.declared.network.Move.{Move}
use Rattle.net_types.specs.declared.network.Place.{Place}
use Rattle.net_types.specs.World.{World, same_place}
use Rattle.net_types.proofs.Members.{here, there, in_cons, in_none}
use Rattle.place_ways.specs.Adding.{AreGiven}
use Rattle.place_ways.specs.Places.{HasWays, IsPosition}
use Rattle.set_walk.specs.declared.net.PlaceWays.{PlaceWays}
use Rattle.set_walk.specs.declared.step.Way.{Way}
use Rattle.set_walk.specs.declared.step.Step.{Step}
use Rattle.set_walk.specs.Sets.{InSet}
use Rattle.set_walk.specs.Ways.{AreWaysAt, HasMove, IsGiven, IsStamp, OfStamp, move_of}
use Rattle.set_walk.proofs.SetLemmas.{keeps_same, kept_below, kept_set}
use Rattle.live_network.specs.declared.live.LiveWays.{LiveWays}
use Rattle.live_network.specs.Copied.{AreWayCopies, HasCopyAt, HaveCopies, IsSetCopy, IsWayCopy}
use Rattle.live_network.specs.Live.{IsLive}

-- ---- as the second table grows
pub set_kept : (s t u : Functions) (x y : ℕ) → Keeps t u → IsSetCopy s x t y → IsSetCopy s x u y
set_kept s t u x y k c =
    record {
      below = kept_below t u y k c.below;
      same = λ h. (λ i. (c.same h).0 ((kept_set t u y h k c.below).0 i), λ i. (kept_set t u y h k c.below).1 ((c.same h).1 i));
    }

way_kept : (s t u : Functions) (x y : Way) → Keeps t u → IsWayCopy s t x y → IsWayCopy s u x y
way_kept s t u x y k c = record { step = c.step; headers = set_kept s t u x.headers y.headers k c.headers }

pub ways_kept : (s t u : Functions) (xs ys : List Way) → Keeps t u → AreWayCopies s t xs ys → AreWayCopies s u xs ys
ways_kept s t u [] [] k a = tt
ways_kept s t u [] (y ∷ ys) k a = absurd a
ways_kept s t u (x ∷ xs) [] k a = absurd a
ways_kept s t u (x ∷ xs) (y ∷ ys) k a = (way_kept s t u x y k a.0, ways_kept s t u xs ys k a.1)

pub ways_more : (s t u : Functions) (xs : List Way) (i : ℕ) (x : Way) (ys : List Way) (y : Way) → Keeps t u → i < length xs → x ≡ get_or xs i x → AreWayCopies s t (take i xs) ys → IsWayCopy s u x y → AreWayCopies s u (take (i + 1) xs) (ys ++ y ∷ [])
ways_more s t u xs i x ys y k l e before one =
    let taken : take (i + 1) xs ≡ take i xs ++ x ∷ [] = take_more xs i x l ∙ ap (λ z. take i xs ++ z ∷ []) (sym e) in
    subst (λ zs. AreWayCopies s u zs (ys ++ y ∷ [])) (sym taken) (AllZip-push (IsWayCopy s u) (take i xs) ys x y (ways_kept s t u (take i xs) ys k before) one)

-- ---- list by list
get_left : {A : Type 0} (xs ys : List A) (i : ℕ) → i < length xs → slice_get (xs ++ ys) i ≡ slice_get xs i
get_left [] ys i l = absurd (omega (arith, l))
get_left (x ∷ xs) ys zero l = refl
get_left (x ∷ xs) ys (suc i) l = get_left xs ys i (omega (arith, l))

get_last : {A : Type 0} (xs : List A) (x : A) → slice_get (xs ++ x ∷ []) (length xs) ≡ Some x
get_last [] x = refl
get_last (y ∷ xs) x = get_last xs x

-- one of the first positions, and one of these
pub record IsEarly (used : List ℕ) (i j : ℕ) : Type 0 where
  pub early : j < i
  pub among : Contains used j

length_push : {A : Type 0} (xs : List A) (x : A) → length (xs ++ x ∷ []) ≡ length xs + 1
length_push [] x = refl
length_push (y ∷ xs) x = (let e = length_push xs x in omega (arith, e))

pub long_more : {A : Type 0} (xs ys : List A) (x : A) (i : ℕ) → ys ≡ xs ++ x ∷ [] → length xs ≡ i → length ys ≡ i + 1
long_more xs ys x i e l = ap length e ∙ (length_push xs x ∙ ap (λ n. n + 1) l)

pub none_copied : (s t : Functions) (old : List PlaceWays) (used : List ℕ) → HaveCopies s t old [] (IsEarly used 0)
none_copied s t old used j v p e = (let l = p.early in absurd (omega (arith, l)))

module _ (s t u : Functions) (old new : List PlaceWays) (used : List ℕ) (i : ℕ) (list : PlaceWays) (k : Keeps t u) (long : length new ≡ i)
    (before : HaveCopies s t old new (IsEarly used i)) (one : (v : PlaceWays) → Contains used i → slice_get old i ≡ Some v → AreWayCopies s u v.ways.items list.ways.items) where
  at_last : (j : ℕ) (v : PlaceWays) → j ≡ i → Contains used j → slice_get old j ≡ Some v → HasCopyAt s u (new ++ list ∷ []) j v
  at_last j v same c e =
      record {
        list = list;
        there = ap (slice_get (new ++ list ∷ [])) (same ∙ sym long) ∙ get_last new list;
        copies = one v (subst (Contains used) same c) (subst (λ n. slice_get old n ≡ Some v) same e);
      }

  at_first : (j : ℕ) (v : PlaceWays) → j < i → Contains used j → slice_get old j ≡ Some v → HasCopyAt s u (new ++ list ∷ []) j v
  at_first j v l c e =
      let b = before j v (record { early = l; among = c }) e in
      record {
        list = b.list;
        there = get_left new (list ∷ []) j (subst (λ n. j < n) (sym long) l) ∙ b.there;
        copies = ways_kept s t u v.ways.items b.list.ways.items k b.copies;
      }

  pub copied_more : HaveCopies s u old (new ++ list ∷ []) (IsEarly used (i + 1))
  copied_more j v p e =
      elim (eqb_tells j i) [
        | inl q ↦ at_last j v q.1 p.among e
        | inr q ↦ (let l = p.early in let d = q.1 in at_first j v (omega (arith, l, d)) p.among e)
      ]

pub all_copied : (s t : Functions) (old new : List PlaceWays) (used : List ℕ) (i : ℕ) → length old ≤ i → HaveCopies s t old new (IsEarly used i) → HaveCopies s t old new (Contains used)
all_copied s t old new used i past a j v c e =
    let l = slice_get_within old j v e in
    a j v (record { early = omega (arith, past, l); among = c }) e

-- ---- the moves by copies
module _ (s t : Functions) (h : Header) (m : Move) where
  way_there : (x y : Way) (ys : List Way) → IsWayCopy s t x y → InSet s x.headers h → move_of h x.step ≡ m → HasMove t (y ∷ ys) h m
  way_there x y ys c i e = record { way = y; among = here y ys; inside = (c.headers.same h).1 i; made = ap (move_of h) c.step ∙ e }

  move_later : (y : Way) (ys : List Way) → HasMove t ys h m → HasMove t (y ∷ ys) h m
  move_later y ys a = record { way = a.way; among = there y a.way ys a.among; inside = a.inside; made = a.made }

  to_copy : (xs ys : List Way) → AreWayCopies s t xs ys → (x : Way) → Contains xs x → InSet s x.headers h → move_of h x.step ≡ m → HasMove t ys h m
  to_copy [] ys a x c i e = absurd (in_none x c)
  to_copy (z ∷ xs) [] a x c i e = absurd a
  to_copy (z ∷ xs) (y ∷ ys) a x c i e = elim (in_cons z x xs c) [
    | inl q ↦ way_there z y ys a.0 (subst (λ (w : Way). InSet s w.headers h) (sym q) i) (ap (λ (w : Way). move_of h w.step) q ∙ e)
    | inr d ↦ move_later y ys (to_copy xs ys a.1 x d i e)
  ]

  way_from : (x y : Way) (xs : List Way) → IsWayCopy s t x y → InSet t y.headers h → move_of h y.step ≡ m → HasMove s (x ∷ xs) h m
  way_from x y xs c i e = record { way = x; among = here x xs; inside = (c.headers.same h).0 i; made = ap (move_of h) (sym c.step) ∙ e }

  move_before : (x : Way) (xs : List Way) → HasMove s xs h m → HasMove s (x ∷ xs) h m
  move_before x xs a = record { way = a.way; among = there x a.way xs a.among; inside = a.inside; made = a.made }

  from_copy : (xs ys : List Way) → AreWayCopies s t xs ys → (y : Way) → Contains ys y → InSet t y.headers h → move_of h y.step ≡ m → HasMove s xs h m
  from_copy xs [] a y c i e = absurd (in_none y c)
  from_copy [] (z ∷ ys) a y c i e = absurd a
  from_copy (x ∷ xs) (z ∷ ys) a y c i e = elim (in_cons z y ys c) [
    | inl q ↦ way_from x z xs a.0 (subst (λ (w : Way). InSet t w.headers h) (sym q) i) (ap (λ (w : Way). move_of h w.step) q ∙ e)
    | inr d ↦ move_before x xs (from_copy xs ys a.1 y d i e)
  ]

  same_moves : (xs ys : List Way) → AreWayCopies s t xs ys → HasMove s xs h m ↔ HasMove t ys h m
  same_moves xs ys a = (λ o. to_copy xs ys a o.way o.among o.inside o.made, λ o. from_copy xs ys a o.way o.among o.inside o.made)

copy_given : (s t : Functions) (xs ys : List Way) → AreWayCopies s t xs ys → AreGiven s xs → AreGiven t ys
copy_given s t xs [] a g y c = absurd (in_none y c)
copy_given s t [] (z ∷ ys) a g y c = absurd a
copy_given s t (x ∷ xs) (z ∷ ys) a g y c = elim (in_cons z y ys c) [
  | inl q ↦ subst (IsGiven t) q (record { below = a.0.headers.below; fits = subst (OfStamp IsStamp) (sym a.0.step) (g x (here x xs)).fits })
  | inr d ↦ copy_given s t xs ys a.1 (λ w e. g w (there x w xs e)) y d
]

ways_copied : (w : World) (p : Place) (s t : Functions) (scope copy : ℕ) (xs ys : List Way) → ((h : Header) → InSet s scope h) → AreWayCopies s t xs ys → AreWaysAt w p s scope xs → AreWaysAt w p t copy ys
ways_copied w p s t scope copy xs ys all a x =
    record {
      each = copy_given s t xs ys a x.each;
      exact = λ h v i m.
          let told = x.exact h v (all h) m in
          let same = same_moves s t h m xs ys a in
          (λ c. same.0 (told.0 c), λ o. told.1 (same.1 o));
    }

-- ---- the whole
module _ (w : World) (live copy : LiveWays) (used : List ℕ) (a : IsLive w live) (all : (p : Place) (i : ℕ) → get same_place live.ways.positions p ≡ Some i → i < length live.ways.lists.items → Contains used i)
    (scope : IsSetCopy live.tables.diagrams live.scope copy.tables.diagrams copy.scope) (copies : HaveCopies live.tables.diagrams copy.tables.diagrams live.ways.lists.items copy.ways.lists.items (Contains used))
    (positions : (p : Place) → get same_place copy.ways.positions p ≡ get same_place live.ways.positions p) where
  at_position : (p : Place) (i : ℕ) → get same_place live.ways.positions p ≡ Some i → HasWays w live.tables.diagrams live.scope live.ways.lists.items p i → HasWays w copy.tables.diagrams copy.scope copy.ways.lists.items p i
  at_position p i e b =
      let within = slice_get_within live.ways.lists.items i b.ways b.there in
      let c = copies i b.ways (all p i e within) b.there in
      record {
        ways = c.list;
        there = c.there;
        right = ways_copied w p live.tables.diagrams copy.tables.diagrams live.scope copy.scope b.ways.ways.items c.list.ways.items a.all c.copies b.right;
      }

  at_place : (p : Place) (o : Option ℕ) → get same_place live.ways.positions p ≡ o → IsPosition w live.tables.diagrams live.scope live.ways.lists.items p o → IsPosition w copy.tables.diagrams copy.scope copy.ways.lists.items p o
  at_place p None e b = b
  at_place p (Some i) e b = at_position p i e b

  pub copy_live : IsLive w copy
  copy_live =
      record {
        scope = scope.below;
        all = λ h. (scope.same h).1 (a.all h);
        ways = λ p. subst (IsPosition w copy.tables.diagrams copy.scope copy.ways.lists.items p) (sym (positions p)) (at_place p (get same_place live.ways.positions p) refl (a.ways p));
      }
