-- The headers whose moves an edit may change, and that all others walk as before.
use Rattle.std.proofs.Common.{ℕ, zero, suc, ◌≡◌, ◌<◌, ◌+◌, ◌++◌, ◌↔◌, inl, inr, ◌==◌, true, false, List, [], ◌∷◌, Option, Some, None, take, length, get_or, slice_get, Result, Ok, Err, IfOk, refl, ap, sym, ◌∙◌, subst, arith, eq-eqb, Bor}
use Rattle.std.specs.Option.{option_copied}
use Rattle.std.specs.Prelude.{Contains, IfSome, option_and_then}
use Rattle.std.specs.List.{list_any}
use Rattle.std.proofs.lemmas.Bool.{cases_Bool}
use Rattle.std.proofs.lemmas.Bool.Decides.{nat_tests}
use Rattle.std.proofs.lemmas.List.{take_more}
use Rattle.std.proofs.lemmas.List.Elements.{Contains-append_right, Contains-push_cases}
use Rattle.hdr_bits.specs.declared.header.Header.{Header}
use Rattle.hdr_bits.specs.HeaderBits.{IsHeader}
use Rattle.indexmap.specs.IndexMap.{get}
use Rattle.cube_diagram.specs.Functions.{Functions, Keeps, count_of}
use Rattle.net_types.specs.declared.network.Move.{Move}
use Rattle.net_types.specs.declared.network.Move.TheVariants as move
use Rattle.net_types.specs.declared.network.Place.{Place}
use Rattle.net_types.specs.declared.network.State.{State}
use Rattle.net_types.specs.Edits.{DiffersOnlyAt}
use Rattle.net_types.specs.Moves.{moves}
use Rattle.net_types.specs.SameWalks.{MovesAgree, SameWalksUnder}
use Rattle.net_types.specs.Walks.{IsWalk, state_at}
use Rattle.net_types.specs.World.{World, same_place}
use Rattle.net_types.proofs.Members.{here, in_none, to_any, from_any}
use Rattle.net_types.proofs.Unvisited.{moves_same}
use Rattle.net_types.proofs.Walking.{walk_from_states, states_from_walk}
use Rattle.place_ways.specs.Adding.{AreGiven}
use Rattle.place_ways.specs.Devices.{place_of}
use Rattle.place_ways.specs.Places.{ArePlaceWays}
use Rattle.place_ways.proofs.AddLemmas.{given_kept, given_move}
use Rattle.set_walk.specs.declared.net.PlaceWays.{PlaceWays}
use Rattle.set_walk.specs.declared.step.Way.{Way}
use Rattle.set_walk.specs.Nets.{AreWays}
use Rattle.set_walk.specs.Sets.{InSet}
use Rattle.set_walk.specs.Ways.{HasMove, move_of}
use Rattle.set_walk.proofs.SetLemmas.{kept_set}
use Rattle.incr_review.specs.declared.changed.WaysChange.{WaysChange}
use Rattle.incr_review.specs.Changed.{AgreeAtNumbers, AgreeOutside, HasMoveIn, HasOther, HaveOthers, IsKnownNumber, IsWider, after_at, before_at}
use Rattle.incr_review.specs.Live.{AreWaysGiven, PassesOn}

-- what is so by two things that are said of a value
pub ok_both : {T E : Type 0} (r : Result T E) (P Q R : T → Type 0) → ((x : T) → P x → Q x → R x) → IfOk r P → IfOk r Q → IfOk r R
ok_both (Ok x) P Q R f p q = f x p q
ok_both (Err e) P Q R f p q = tt

-- ---- sets that grow
pub wider_same : (f : Functions) (set : ℕ) → IsWider f set f set
wider_same f set h v i = i

pub wider_then : (e f g : Functions) (a b c : ℕ) → IsWider e a f b → IsWider f b g c → IsWider e a g c
wider_then e f g a b c x y h v i = y h v (x h v i)

pub wider_kept : (f g : Functions) (set : ℕ) → Keeps f g → set < count_of f → IsWider f set g set
wider_kept f g set k l h v i = (kept_set f g set h k l).1 i

-- ---- ways with the same steps
pub others_none : (f g : Functions) (set : ℕ) (others : List Way) → HaveOthers f g set [] others
others_none f g set others h v n x c = absurd (in_none x c)

other_kept : (f e : Functions) (others : List Way) (h : Header) (x : Way) → Keeps f e → AreGiven f others → HasOther e others h x → HasOther f others h x
other_kept f e others h x k given o = record { way = o.way; among = o.among; inside = (kept_set f e o.way.headers h k (given o.way o.among).below).0 o.inside; step = o.step }

pub others_wider : (f e g : Functions) (set all : ℕ) (ways others : List Way) → IsWider e set g all → HaveOthers f e set ways others → HaveOthers f g all ways others
others_wider f e g set all ways others w a h v n x c i = a h v (λ j. n (w h v j)) x c i

pub others_from : (f e g : Functions) (all : ℕ) (ways others : List Way) → Keeps f e → AreGiven f ways → AreGiven f others → HaveOthers e g all ways others → HaveOthers f g all ways others
others_from f e g all ways others k gw go a h v n x c i = other_kept f e others h x k go (a h v n x c ((kept_set f e x.headers h k (gw x c).below).1 i))

pub others_more : (f e g : Functions) (set all : ℕ) (ways others : List Way) (i : ℕ) (x : Way) → Keeps f e → AreGiven f ways → AreGiven f others → i < length ways → x ≡ get_or ways i x → IsWider e set g all → HaveOthers f e set (take i ways) others → ((h : Header) → IsHeader h → (InSet g all h → ⊥) → InSet e x.headers h → HasOther e others h x) → HaveOthers f g all (take (i + 1) ways) others
others_more f e g set all ways others i x k gw go l is w before one h v n y c j =
    let taken : take (i + 1) ways ≡ take i ways ++ x ∷ [] = take_more ways i x l ∙ ap (λ z. take i ways ++ z ∷ []) (sym is) in
    elim (Contains-push_cases (take i ways) x y (subst (λ zs. Contains zs y) taken c)) [
      | inl m ↦ before h v (λ a. n (w h v a)) y m j
      | inr m ↦ (
          let at : Contains ways x = (i, l, sym is) in
          let inside : InSet e x.headers h = (kept_set f e x.headers h k (gw x at).below).1 (subst (λ (z : Way). InSet f z.headers h) (sym m) j) in
          subst (HasOther f others h) m (other_kept f e others h x k go (one h v n inside)))
    ]

move_from : (f g : Functions) (set : ℕ) (xs ys : List Way) → HaveOthers f g set xs ys → (h : Header) → IsHeader h → (InSet g set h → ⊥) → (m : Move) → HasMove f xs h m → HasMove f ys h m
move_from f g set xs ys a h v n m t =
    let o = a h v n t.way t.among t.inside in
    record { way = o.way; among = o.among; inside = o.inside; made = ap (move_of h) o.step ∙ t.made }

pub agree_by_others : (f g : Functions) (set : ℕ) (x y : PlaceWays) → HaveOthers f g set x.ways.items y.ways.items → HaveOthers f g set y.ways.items x.ways.items → AgreeOutside f g set (Some x) (Some y)
agree_by_others f g set x y a b h v n m = (move_from f g set x.ways.items y.ways.items a h v n m, move_from f g set y.ways.items x.ways.items b h v n m)

-- ---- number by number
pub agree_wider : (f e g : Functions) (set all : ℕ) (x y : Option PlaceWays) → IsWider e set g all → AgreeOutside f e set x y → AgreeOutside f g all x y
agree_wider f e g set all x y w a h v n m = a h v (λ i. n (w h v i)) m

move_in_kept : (f e : Functions) (x : Option PlaceWays) (h : Header) (m : Move) → Keeps f e → ((u : PlaceWays) → x ≡ Some u → AreGiven f u.ways.items) → HasMoveIn e x h m ↔ HasMoveIn f x h m
move_in_kept f e None h m k given = (λ a. a, λ a. a)
move_in_kept f e (Some u) h m k given = given_move f e u.ways.items h m k (given u refl)

pub agree_from : (f e g : Functions) (set : ℕ) (x y : Option PlaceWays) → Keeps f e → ((u : PlaceWays) → x ≡ Some u → AreGiven f u.ways.items) → ((u : PlaceWays) → y ≡ Some u → AreGiven f u.ways.items) → AgreeOutside e g set x y → AgreeOutside f g set x y
agree_from f e g set x y k gx gy a h v n m =
    let b = a h v n m in
    let p = move_in_kept f e x h m k gx in
    let q = move_in_kept f e y h m k gy in
    (λ t. q.0 (b.0 (p.1 t)), λ t. p.0 (b.1 (q.1 t)))

pub given_later : (f g : Functions) (lists : List PlaceWays) (at : Place → Option ℕ) → Keeps f g → AreWaysGiven f lists at → AreWaysGiven g lists at
given_later f g lists at k a p v e = given_kept f g v.ways.items k (a p v e)

module _ (f e g : Functions) (c : WaysChange) (numbers : List ℕ) (i n set all : ℕ) (l : i < length numbers) (is : n ≡ get_or numbers i n)
    (w : IsWider e set g all) (before : AgreeAtNumbers f e set c (Contains (take i numbers))) where
  taken : take (i + 1) numbers ≡ take i numbers ++ n ∷ []
  taken = take_more numbers i n l ∙ ap (λ z. take i numbers ++ z ∷ []) (sym is)

  pub numbers_more : AgreeOutside f g all (before_at c (place_of c.device.now n)) (after_at c (place_of c.device.now n)) → AgreeAtNumbers f g all c (Contains (take (i + 1) numbers))
  numbers_more one m in_more = elim (Contains-push_cases (take i numbers) n m (subst (λ ys. Contains ys m) taken in_more)) [
    | inl t ↦ agree_wider f e g set all (before_at c (place_of c.device.now m)) (after_at c (place_of c.device.now m)) w (before m t)
    | inr t ↦ subst (λ k. AgreeOutside f g all (before_at c (place_of c.device.now k)) (after_at c (place_of c.device.now k))) t one
  ]

pub earlier_there : (xs : List ℕ) (i j x : ℕ) → i ≡ j + 1 → j < length xs → x ≡ get_or xs j x → Contains (take i xs) x
earlier_there xs i j x e l is =
    let taken : take i xs ≡ take j xs ++ x ∷ [] = ap (λ k. take k xs) e ∙ (take_more xs j x l ∙ ap (λ z. take j xs ++ z ∷ []) (sym is)) in
    subst (λ ys. Contains ys x) (sym taken) (Contains-append_right (take j xs) (x ∷ []) x (here x []))

-- a number whose place has the positions of an earlier one's
pub known_more : (f e : Functions) (c : WaysChange) (numbers : List ℕ) (i n set : ℕ) → i < length numbers → n ≡ get_or numbers i n → slice_get numbers i ≡ Some n → IsKnownNumber c numbers i → AgreeAtNumbers f e set c (Contains (take i numbers)) → AgreeAtNumbers f e set c (Contains (take (i + 1) numbers))
known_more f e c numbers i n set l is there known before =
    let old = before known.number known.earlier in
    let first = subst (λ o. AgreeOutside f e set (option_and_then (slice_get c.lists.now) o) (after_at c (place_of c.device.now known.number))) (known.before n there) old in
    let one = subst (λ o. AgreeOutside f e set (before_at c (place_of c.device.now n)) (option_and_then (slice_get c.lists.now) o)) (known.after n there) first in
    numbers_more f e e c numbers i n set set l is (wider_same e set) before one

pub no_agreement : (f e : Functions) (set : ℕ) (c : WaysChange) → AgreeAtNumbers f e set c (Contains [])
no_agreement f e set c n t = absurd (in_none n t)

-- ---- the moves of a network by its ways
pub told : (w : World) (f : Functions) (scope : ℕ) (ways : Place → Option PlaceWays) → AreWays w f scope ways → (p : Place) (h : Header) → IsHeader h → InSet f scope h → (m : Move) → Contains (moves w p h) m ↔ HasMoveIn f (ways p) h m
told w f scope ways a p h v i m = by (ways p) refl
  where
    by : (o : Option PlaceWays) → ways p ≡ o → Contains (moves w p h) m ↔ HasMoveIn f o h m
    by None e = a.missing p e h v i m
    by (Some u) e = (a.right p u e).exact h v i m

-- ---- walks of headers of which each move is as before
module _ (w0 w1 : World) (h : Header) (passes : PassesOn w0) (agree : (p : Place) → MovesAgree w0 w1 p h) where
  same_header : (n : ℕ) (p : Place) (u : State) → IsWalk w0 n (state_at p h) u → u.header ≡ h
  same_header zero p u e = ap (λ (s : State). s.header) (sym e)
  same_header (suc n) p u e = passes e.0.place u.place e.0.header u.header e.2 ∙ same_header n p e.0 e.1

  agree_there : (u : State) → u.header ≡ h → MovesAgree w0 w1 u.place u.header
  agree_there u e = subst (MovesAgree w0 w1 u.place) (sym e) (agree u.place)

  to_new : (n : ℕ) (p : Place) (u : State) → IsWalk w0 n (state_at p h) u → IsWalk w1 n (state_at p h) u
  to_new zero p u e = e
  to_new (suc n) p u e = (e.0, to_new n p e.0 e.1, (agree_there e.0 (same_header n p e.0 e.1) (move.Go u.place u.header)).0 e.2)

  to_old : (n : ℕ) (p : Place) (u : State) → IsWalk w1 n (state_at p h) u → IsWalk w0 n (state_at p h) u
  to_old zero p u e = e
  to_old (suc n) p u e =
      let b = to_old n p e.0 e.1 in
      (e.0, b, (agree_there e.0 (same_header n p e.0 b) (move.Go u.place u.header)).1 e.2)

  pub walks_same : (t : ℕ) (p : Place) → SameWalksUnder w0 w1 t p h
  walks_same t p =
      let s = state_at p h in
      record {
        states = λ k l u. (
          λ m. states_from_walk w1 k s u (to_new k p u (walk_from_states w0 k s u m)),
          λ m. states_from_walk w0 k s u (to_old k p u (walk_from_states w1 k s u m)),
        );
        moves = λ k l u m. agree_there u (same_header k p u (walk_from_states w0 k s u m));
      }

-- ---- at every place
module _ (w0 w1 : World) (f g : Functions) (scope set : ℕ) (c : WaysChange)
    (all : (h : Header) → InSet f scope h)
    (old : ArePlaceWays w0 f scope c.lists.now (get same_place c.before.now))
    (new : ArePlaceWays w1 f scope c.lists.now (get same_place c.after.now))
    (differs : DiffersOnlyAt w0 w1 c.device.now.name)
    (others : (p : Place) (h : Header) → p.device ≡ c.device.now.name → (Contains c.device.now.numbers p.interface → ⊥) → moves w0 p h ≡ moves w1 p h)
    (agree : AgreeAtNumbers f g set c (Contains c.device.now.numbers)) where
  by_ways : (p : Place) (h : Header) → IsHeader h → ((m : Move) → HasMoveIn f (before_at c p) h m ↔ HasMoveIn f (after_at c p) h m) → MovesAgree w0 w1 p h
  by_ways p h v a m =
      let x = told w0 f scope (before_at c) old p h v (all h) m in
      let y = told w1 f scope (after_at c) new p h v (all h) m in
      let b = a m in
      (λ t. y.1 (b.0 (x.0 t)), λ t. x.1 (b.1 (y.0 t)))

  at_device : (p : Place) (h : Header) → IsHeader h → (InSet g set h → ⊥) → p.device ≡ c.device.now.name → MovesAgree w0 w1 p h
  at_device p h v n e = elim (cases_Bool (list_any (λ k. k == p.interface) c.device.now.numbers)) [
    | inl t ↦ (
        let a = from_any (λ k. k == p.interface) c.device.now.numbers t in
        let named : a.0 ≡ p.interface = (let q = a.2 in grind (arith, nat_tests, q)) in
        let there : Contains c.device.now.numbers p.interface = subst (Contains c.device.now.numbers) named a.1 in
        let is : place_of c.device.now p.interface ≡ p = λ i. record { device = sym e i; interface = p.interface } in
        by_ways p h v (subst (λ q. (m : Move) → HasMoveIn f (before_at c q) h m ↔ HasMoveIn f (after_at c q) h m) is (agree p.interface there h v n)))
    | inr t ↦ (
        let none : Contains c.device.now.numbers p.interface → ⊥ = λ i. (let s = to_any (λ k. k == p.interface) c.device.now.numbers p.interface i (eq-eqb p.interface p.interface refl) in let both : false ≡ true = sym t ∙ s in absurd cc) in
        let same = others p h e none in
        λ m. (subst (λ ms. Contains ms m) same, subst (λ ms. Contains ms m) (sym same)))
  ]

  agree_at : (p : Place) (h : Header) → IsHeader h → (InSet g set h → ⊥) → MovesAgree w0 w1 p h
  agree_at p h v n = elim (cases_Bool (p.device == c.device.now.name)) [
    | inl t ↦ at_device p h v n (grind (arith, nat_tests, t))
    | inr t ↦ (
        let other : p.device ≡ c.device.now.name → ⊥ = λ e. (let s : (p.device == c.device.now.name) ≡ true = eq-eqb p.device c.device.now.name e in let both : false ≡ true = sym t ∙ s in absurd cc) in
        let same = moves_same w0 w1 c.device.now.name differs p h other in
        λ m. (subst (λ ms. Contains ms m) same, subst (λ ms. Contains ms m) (sym same)))
  ]

  pub outside_same : PassesOn w0 → (p : Place) (h : Header) → IsHeader h → (InSet g set h → ⊥) → (t : ℕ) → SameWalksUnder w0 w1 t p h
  outside_same passes p h v n t = walks_same w0 w1 h passes (λ q. agree_at q h v n) t p

pub some_number : (x y : ℕ) → Some x ≡ Some y → x ≡ y
some_number x y e = cc

-- what stands at a position is given
pub copied_given : (f : Functions) (o : Option (Bor PlaceWays)) (u : Option PlaceWays) → option_copied o ≡ u → ((v : PlaceWays) → u ≡ Some v → AreGiven f v.ways.items) → IfSome o (λ v. AreGiven f v.now.ways.items)
copied_given f None u e given = tt
copied_given f (Some b) u e given = given b.now (sym e)
