-- Arrival: the stages as ways.
use Rattle.std.proofs.Common.{ℕ, ◌≡◌, ◌<◌, ◌+◌, ◌^◌, ◌↔◌, inl, inr, Bool, true, false, if◌then◌else◌, List, [], ◌∷◌, ◌++◌, take, length, get_or, Option, Some, None, ap, sym, ◌∙◌, subst}
use Rattle.std.specs.Prelude.{Contains, ◌&&◌}
use Rattle.std.proofs.lemmas.List.{take_more}
use Rattle.hdr_bits.specs.declared.header.Header.{Header}
use Rattle.hdr_bits.specs.HeaderBits.{number, IsHeader}
use Rattle.hdr_bits.proofs.Numbers.{number-below}
use Rattle.cube_alg.specs.declared.stamp.Stamp.{Stamp}
use Rattle.cube_alg.specs.Stamps.{applied}
use Rattle.cube_diagram.specs.Functions.{Functions, Keeps, count_of, value_at}
use Rattle.net_forms.specs.Forms.{IsList}
use Rattle.net_types.specs.declared.config.AccessList.{AccessList}
use Rattle.net_types.specs.declared.network.Move.{Move}
use Rattle.net_types.specs.declared.network.Move.TheVariants as move
use Rattle.net_types.specs.AccessLists.{passes, verdict}
use Rattle.net_types.proofs.Members.{here, in_one, in_none}
use Rattle.set_walk.specs.declared.step.Step.{Step}
use Rattle.set_walk.specs.declared.step.Step.TheVariants as step
use Rattle.set_walk.specs.declared.step.Way.{Way}
use Rattle.set_walk.specs.Sets.{InSet, IsSetOf}
use Rattle.set_walk.specs.Told.{since}
use Rattle.set_walk.specs.Ways.{HasMove, IsStamp, move_of}
use Rattle.set_walk.proofs.StampLemmas.{since_move}
use Rattle.set_walk.proofs.ToldLemmas.{move_more}
use Rattle.place_ways.specs.declared.parts.Part.{Part}
use Rattle.place_ways.specs.Adding.{AddsWays, AreGiven, HasMoves, Makes, MakesAny, MakesBehind}
use Rattle.place_ways.specs.Parts.{AreParts, MakesBehindOne}
use Rattle.place_ways.proofs.SetLemmas.{kept_set, keeps_then, keeps_same, no_header}
use Rattle.place_ways.proofs.AddLemmas.{adds_then, adds_same, adds_from, given_move, nothing_added, told_list, told_any}
use Rattle.place_ways.proofs.PartLemmas.{become_headers, by_parts}
use Rattle.place_ways.proofs.LeaveLemmas.{split_choice}

-- ---- behind ways of headers that came in
pub behind_none : (f : Functions) (given : ℕ) (s : Stamp) (ways : List Way) → AreGiven f ways → AddsWays f f (MakesBehind f given s []) ways ways
behind_none f given s ways b = nothing_added f f _ ways (keeps_same f) b (λ h v m x. nowhere x.1.way x.1.among)
  where
    nowhere : (w : Way) → Contains [] w → ⊥
    nowhere w c = in_none w c

pub behind_more : (f g0 g1 g2 : Functions) (given before set : ℕ) (s : Stamp) (base : List Way) (i : ℕ) (w : Way) (one : Step) (a b c : List Way) → IsStamp s → Keeps f g0 → Keeps g0 g1 → Keeps g1 g2 → given < count_of f → w.headers < count_of f → i < length base → w ≡ get_or base i w → one ≡ since s w.step → IsSetOf g1 before (λ h. InSet g0 w.headers (applied s h)) → IsSetOf g2 set (λ h. InSet g1 before h × InSet g1 given h) → AddsWays f g0 (MakesBehind f given s (take i base)) a b → AddsWays g2 g2 (Makes g2 set (λ h. move_of h one)) b c → AddsWays f g2 (MakesBehind f given s (take (i + 1) base)) a c
behind_more f g0 g1 g2 given before set s base i w one a b c fits k0 k1 k2 lg lw l e t p q x y =
    adds_same f g2 _ _ a c (λ h v m.
    let gs = kept_set f g1 given h (keeps_then f g0 g1 k0 k1) lg in
    let ws = kept_set f g0 w.headers (applied s h) k0 lw in
    let mv : move_of h one ≡ move_of (applied s h) w.step = ap (move_of h) t ∙ since_move s h w.step in
    let more = move_more f (take i base) w (applied s h) m in
    let taken : take (i + 1) base ≡ take i base ++ w ∷ [] = take_more base i w l ∙ ap (λ z. take i base ++ z ∷ []) (sym e) in (
      λ u. elim u [
        | inl z ↦ (z.0, subst (λ bs. HasMove f bs (applied s h) m) (sym taken) (more.1 (inl z.1)))
        | inr z ↦ let j = (q h v).0 z.0 in (gs.0 j.1, subst (λ bs. HasMove f bs (applied s h) m) (sym taken) (more.1 (inr (ws.0 ((p h v).0 j.0), sym mv ∙ z.1))))
      ],
      λ u. elim (more.0 (subst (λ bs. HasMove f bs (applied s h) m) taken u.1)) [
        | inl z ↦ inl (u.0, z)
        | inr z ↦ inr ((q h v).1 ((p h v).1 (ws.1 z.0), gs.1 u.0), mv ∙ z.1)
      ],
    )) (adds_then f g0 g2 _ _ a b c x (adds_from g0 g2 g2 _ b c (keeps_then g0 g1 g2 k1 k2) x.given y))

-- the same once the table has grown
pub behind_kept : (f g : Functions) (set : ℕ) (s : Stamp) (base : List Way) (h : Header) (m : Move) → Keeps f g → set < count_of f → AreGiven f base → MakesBehind g set s base h m ↔ MakesBehind f set s base h m
behind_kept f g set s base h m k l b =
    let z = kept_set f g set h k l in
    let w = given_move f g base (applied s h) m k b in
    (λ x. (z.0 x.0, w.0 x.1), λ x. (z.1 x.0, w.1 x.1))

-- headers that become headers of the scope, in parts
pub arrived : (f g k : Functions) (given scope : ℕ) (becomes : Header → Header) (parts : List Part) (base : List Way) (moves : Header → List Move) (a b : List Way) → Keeps f g → AreGiven f a → AreParts g (InSet f given) becomes parts → HasMoves moves g scope base → ((h : Header) → IsHeader h → InSet f given h → InSet g scope (becomes h)) → AddsWays g k (MakesBehindOne g parts base) a b → AddsWays f k (MakesAny f given (λ h. moves (becomes h))) a b
arrived f g k given scope becomes parts base moves a b e t ps has inside p =
    adds_same f k _ _ a b (λ h v m. (
      λ x. (x.0, (has (becomes h) (become_headers becomes g (InSet f given) parts ps h v x.0) (inside h v x.0) m).1 x.1),
      λ x. (x.0, (has (becomes h) (become_headers becomes g (InSet f given) parts ps h v x.0) (inside h v x.0) m).0 x.1),
    )) (by_parts becomes f g k given parts (λ h q m. HasMove g base q m) a b e t ps p)

pub nothing_behind : (f : Functions) (given : ℕ) (s : Stamp) (base ways : List Way) → AreGiven f ways → ((n : ℕ) → n < 2 ^ 112 → value_at f given n ≡ None) → AddsWays f f (MakesBehind f given s base) ways ways
nothing_behind f given s base ways b n = nothing_added f f _ ways (keeps_same f) b (λ h v m x. no_header f given h n (number-below h v) x.0)

-- ---- the input list
pub let_in_added : (d0 d1 d2 d3 : Functions) (list : Option AccessList) (function all passed denied : ℕ) (xs : Header → List Move) (w0 w1 w2 : List Way) → IsList d0 list function → all < count_of d0 → passed < count_of d1 → AreGiven d0 w0 → Keeps d0 d1 → Keeps d1 d2 → IsSetOf d1 passed (λ h. InSet d0 all h × (value_at d0 function (number h) ≡ Some 1)) → IsSetOf d2 denied (λ h. InSet d1 all h × (InSet d1 passed h → ⊥)) → AddsWays d2 d2 (Makes d2 denied (λ h. move.Drop)) w0 w1 → AddsWays d2 d3 (MakesAny d2 passed xs) w1 w2 → AddsWays d0 d3 (MakesAny d0 all (λ h. if passes (verdict list h) then xs h else move.Drop ∷ [])) w0 w2
let_in_added d0 d1 d2 d3 list function all passed denied xs w0 w1 w2 x la lp b k0 k1 p l a c =
    adds_same d0 d3 _ _ w0 w2 (λ h v m.
    let ps = kept_set d1 d2 passed h k1 lp in
    let ga = kept_set d0 d1 all h k0 la in
    let ls : InSet d2 denied h ↔ (InSet d0 all h × (InSet d1 passed h → ⊥)) = (λ i. (ga.0 ((l h v).0 i).0, ((l h v).0 i).1), λ i. (l h v).1 (ga.1 i.0, i.1)) in
    let z = split_choice (InSet d0 all h) (InSet d1 passed h) (InSet d2 denied h) (value_at d0 function (number h)) (passes (verdict list h)) (λ t. Contains (if t then xs h else move.Drop ∷ []) m) (x.exact h v) (p h v) ls in (
      λ u. z.0 (elim u [ inl y ↦ inl (y.0, subst (λ t. Contains (move.Drop ∷ []) t) y.1 (here move.Drop [])) | inr y ↦ inr (ps.0 y.0, y.1) ]),
      λ u. elim (z.1 u) [ inl y ↦ inl (y.0, in_one move.Drop m y.1) | inr y ↦ inr (ps.1 y.0, y.1) ],
    )) (adds_from d0 d2 d3 _ w0 w2 (keeps_then d0 d1 d2 k0 k1) b (adds_then d2 d2 d3 _ _ w0 w1 w2 a c))

pub shut_added : (f : Functions) (set : ℕ) (xs : Header → List Move) (a b : List Way) → ((h : Header) → xs h ≡ move.Drop ∷ []) → AddsWays f f (Makes f set (λ h. move_of h step.Drop)) a b → AddsWays f f (MakesAny f set xs) a b
shut_added f set xs a b e p = told_list f f set (λ h. move.Drop) xs a b (λ h v i. e h) p

pub opened : (a b : Bool) (xs ys : List Move) → a ≡ true → (if a && b then xs else ys) ≡ (if b then xs else ys)
opened a b xs ys e = ap (λ t. if t && b then xs else ys) e

pub closed : (a b : Bool) (xs ys : List Move) → a ≡ false → (if a && b then xs else ys) ≡ ys
closed a b xs ys e = ap (λ t. if t && b then xs else ys) e

same_any : (xs ys : List Move) (m : Move) → xs ≡ ys → Contains xs m ↔ Contains ys m
same_any xs ys m e = (λ c. subst (λ l. Contains l m) e c, λ c. subst (λ l. Contains l m) (sym e) c)

pub same_lists : (f g : Functions) (set : ℕ) (xs ys : Header → List Move) (a b : List Way) → ((h : Header) → xs h ≡ ys h) → AddsWays f g (MakesAny f set xs) a b → AddsWays f g (MakesAny f set ys) a b
same_lists f g set xs ys a b e p = told_any f g set xs ys a b (λ h v i m. same_any _ _ m (e h)) p
