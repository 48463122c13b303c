-- From one number of moves to the next, and the label of all headers.
use Rattle.std.proofs.Common.{◌≡◌, ℕ, zero, suc, ◌+◌, ◌≤◌, Bool, true, false, List, [], ◌∷◌, ◌++◌, Option, Some, None, map, refl, sym, ap, subst, ◌∙◌, arith, ◌==◌}
use Rattle.std.specs.Prelude.{filter_map, flat_map, Contains}
use Rattle.std.specs.Option.{unwrap_or}
use Rattle.std.specs.List.{AllByRecursion, cons_option}
use Rattle.std.proofs.lemmas.Bool.Decides.{nat_tests}
use Rattle.hdr_bits.specs.declared.header.Header.{Header}
use Rattle.hdr_bits.specs.declared.cube.Cube.{Cube}
use Rattle.hdr_bits.specs.HeaderBits.{number, IsHeader}
use Rattle.hdr_bits.specs.CubeBits.{IsIn}
use Rattle.net_types.specs.declared.label.Outcome.{Outcome}
use Rattle.net_types.specs.declared.label.Outcome.TheVariants as outcome
use Rattle.net_types.specs.declared.network.Place.{Place}
use Rattle.net_types.specs.declared.network.State.{State}
use Rattle.net_types.specs.World.{World}
use Rattle.net_types.specs.Moves.{moves}
use Rattle.net_types.specs.Order.{in_order, outcome_cmp}
use Rattle.net_types.specs.Walks.{End, states_after, next_states, next_state, changed, end_of, outcome_of, state_at, label}
use Rattle.net_types.proofs.Members.{in_map}
use Rattle.net_types.proofs.EndLaws.{label_some}
use Rattle.cube_alg.specs.Stamps.{applied}
use Rattle.transfer_rel.specs.declared.moves.StampMove.{StampMove}
use Rattle.transfer_rel.specs.declared.moves.StampMove.TheVariants as stamped
use Rattle.transfer_rel.specs.CubeMoves.{SameSet, move_of, OfStamp}
use Rattle.region_walk.specs.declared.spot.Spot.{Spot}
use Rattle.region_walk.specs.declared.visit.Visit.{Visit}
use Rattle.region_walk.specs.Traces.{Step, state_of_step, IsTrace, step_ends, trace_ends_below}
use Rattle.region_walk.specs.Spots.{stamp_of, state_of, FieldFits, StampFits, IsBase, spot_at, next_spot, outcome_of_move}
use Rattle.region_walk.specs.Visits.{IsVisit, spot_of, next_spots, AreAfter, IsLevel, AreLevels, visit_outcomes, outcomes_below}
use Rattle.region_walk.proofs.SetLemmas.{same_sym, same_trans, same_if, same_map, same_filter_map, same_flat_map, map_joined, map_twice, map_flat, all_at}
use Rattle.region_walk.proofs.TraceLemmas.{label_from_trace, same_order_of}

-- ---- what leads on

next_one : (h : Header) (m : StampMove) (rest : List Spot) (more : List State) → map (state_of h) rest ≡ more → cons_option (next_state (move_of h m)) more ≡ map (state_of h) (cons_option (next_spot m) rest)
next_one h stamped.Drop rest more e = sym e
next_one h (stamped.Local p) rest more e = sym e
next_one h stamped.Lost rest more e = sym e
next_one h (stamped.Exit p s) rest more e = sym e
next_one h (stamped.Go p s) rest more e = λ i. state_of h (spot_at p s) ∷ sym e i

next_same : (h : Header) (ms : List StampMove) → filter_map next_state (map (move_of h) ms) ≡ map (state_of h) (filter_map next_spot ms)
next_same h [] = refl
next_same h (m ∷ ms) = next_one h m (filter_map next_spot ms) (filter_map next_state (map (move_of h) ms)) (sym (next_same h ms))

pub next_after : (w : World) (c : Cube) (g : Header) (p : Place) (n : ℕ) (vs : List Visit) (spots : List Spot) → IsLevel w c g p n vs → SameSet spots (flat_map next_spots vs) → AreAfter w c g p (suc n) spots
next_after w c g p n vs spots l same = record {
  states = λ h i m.
      let on : Visit → State = λ v. state_of h v.spot in
      let before : SameSet (states_after w n (state_at p h)) (map on vs) = subst (SameSet (states_after w n (state_at p h))) (map_twice (state_of h) spot_of vs) (l.after.states h i m) in
      let each : (v : Visit) → Contains vs v → SameSet (next_states w (on v)) (map (state_of h) (next_spots v)) =
      λ v cv. subst (SameSet (next_states w (on v))) (next_same h v.moves) (same_filter_map next_state (moves w v.spot.place (applied (stamp_of v.spot) h)) (map (move_of h) v.moves) ((all_at (IsVisit w c g) vs v l.each cv).serves h i m).moves) in
      let flat : SameSet (states_after w (suc n) (state_at p h)) (flat_map (λ (v : Visit). map (state_of h) (next_spots v)) vs) =
      same_flat_map (next_states w) (λ (v : Visit). map (state_of h) (next_spots v)) on (states_after w n (state_at p h)) vs before each in
      same_trans (states_after w (suc n) (state_at p h)) (map (state_of h) (flat_map next_spots vs)) (map (state_of h) spots)
      (subst (SameSet (states_after w (suc n) (state_at p h))) (map_flat (state_of h) next_spots vs) flat)
      (same_map (state_of h) (flat_map next_spots vs) spots (same_sym spots (flat_map next_spots vs) same));
}

-- ---- the label of every header

abbrev step_of : Header → Visit → Step
step_of h v = record { state = state_of h v.spot; moves = map (move_of h) v.moves }

abbrev trace_of : (ℕ → List Visit) → Header → ℕ → List Step
trace_of visits h n = map (step_of h) (visits n)

levels_trace : (w : World) (c : Cube) (g : Header) (p : Place) (limit : ℕ) (visits : ℕ → List Visit) → AreLevels w c g p limit visits → (h : Header) → IsHeader h → IsIn c (number h) → IsTrace w (state_at p h) limit (trace_of visits h)
levels_trace w c g p limit visits a h i m = record {
  states = λ n l. subst (SameSet (states_after w n (state_at p h))) (map_twice (state_of h) spot_of (visits n) ∙ sym (map_twice state_of_step (step_of h) (visits n))) ((a.each n l).after.states h i m);
  moves = λ n l x cx.
      let b = in_map (step_of h) (visits n) x cx in
      subst (λ (y : Step). SameSet (moves w y.state.place y.state.header) y.moves) b.2 ((all_at (IsVisit w c g) (visits n) b.0 (a.each n l).each b.1).serves h i m).moves;
}

changed_fits : (x y : ℕ) (o : Option ℕ) → FieldFits x y o → changed y (unwrap_or o y) ≡ o
changed_fits x y None f = let e : (y == y) ≡ true = grind (arith, nat_tests) in rw e
changed_fits x y (Some v) f =
    let a = f.0 in
    let b = f.1 in
    let e : (y == v) ≡ false = grind (arith, nat_tests, a, b) in
    rw e

abbrev told : Header → Option End → Option Outcome
told h None = None
told h (Some e) = Some (outcome_of h e)

outcome_same : (b : Bool) (g h : Header) (m : StampMove) → OfStamp (StampFits g h) m → told h (end_of b (move_of h m)) ≡ outcome_of_move b m
outcome_same true g h stamped.Drop f = refl
outcome_same true g h (stamped.Local p) f = refl
outcome_same true g h stamped.Lost f = refl
outcome_same true g h (stamped.Exit p s) f = refl
outcome_same true g h (stamped.Go p s) f = refl
outcome_same false g h stamped.Drop f = refl
outcome_same false g h (stamped.Local p) f = refl
outcome_same false g h stamped.Lost f = refl
outcome_same false g h (stamped.Exit p s) f =
    λ i. Some (outcome.Exit p (changed_fits g.src h.src s.src f.src i) (changed_fits g.dst h.dst s.dst f.dst i) (changed_fits g.sport h.sport s.sport f.sport i) (changed_fits g.dport h.dport s.dport f.dport i))
outcome_same false g h (stamped.Go p s) f = refl

told_cons : (h : Header) (o : Option End) (es : List End) → map (outcome_of h) (cons_option o es) ≡ cons_option (told h o) (map (outcome_of h) es)
told_cons h None es = refl
told_cons h (Some e) es = refl

moves_same : (b : Bool) (g h : Header) (ms : List StampMove) → AllByRecursion (OfStamp (StampFits g h)) ms → map (outcome_of h) (filter_map (end_of b) (map (move_of h) ms)) ≡ filter_map (outcome_of_move b) ms
moves_same b g h [] f = refl
moves_same b g h (m ∷ ms) f = told_cons h (end_of b (move_of h m)) (filter_map (end_of b) (map (move_of h) ms)) ∙ (λ i. cons_option (outcome_same b g h m f.0 i) (moves_same b g h ms f.1 i))

visits_same : (w : World) (c : Cube) (g : Header) (b : Bool) (h : Header) → IsHeader h → IsIn c (number h) → (vs : List Visit) → AllByRecursion (IsVisit w c g) vs → map (outcome_of h) (flat_map (step_ends b) (map (step_of h) vs)) ≡ flat_map (visit_outcomes b) vs
visits_same w c g b h i m [] a = refl
visits_same w c g b h i m (v ∷ vs) a =
    map_joined (outcome_of h) (step_ends b (step_of h v)) (flat_map (step_ends b) (map (step_of h) vs)) ∙ (λ j. moves_same b g h v.moves (a.0.serves h i m).stamps j ++ visits_same w c g b h i m vs a.1 j)

below_same : (w : World) (c : Cube) (g : Header) (p : Place) (limit : ℕ) (visits : ℕ → List Visit) → AreLevels w c g p limit visits → (h : Header) → IsHeader h → IsIn c (number h) → (t n : ℕ) → n ≤ limit → map (outcome_of h) (trace_ends_below t (trace_of visits h) n) ≡ outcomes_below t visits n
below_same w c g p limit visits a h i m t zero l = refl
below_same w c g p limit visits a h i m t (suc n) l =
    map_joined (outcome_of h) (trace_ends_below t (trace_of visits h) n) (flat_map (step_ends (n + 1 == t)) (trace_of visits h n)) ∙ (λ j. below_same w c g p limit visits a h i m t n (omega (arith, l)) j ++ visits_same w c g (n + 1 == t) h i m (visits n) (a.each n (omega (arith, l))).each j)

pub levels_label : (w : World) (c : Cube) (g : Header) (p : Place) (limit : ℕ) (visits : ℕ → List Visit) → AreLevels w c g p limit visits → (t : ℕ) → t ≤ limit → (h : Header) → IsHeader h → IsIn c (number h) → in_order outcome_cmp (outcomes_below t visits t) ≡ label w t p h
levels_label w c g p limit visits a t l h i m =
    label_from_trace w p h limit (trace_of visits h) (levels_trace w c g p limit visits a h i m) t l (outcomes_below t visits t)
    (same_if (outcomes_below t visits t) (map (outcome_of h) (trace_ends_below t (trace_of visits h) t)) (sym (below_same w c g p limit visits a h i m t t l)))

-- outcomes that are those of the levels, as a set
pub label_is : (w : World) (c : Cube) (g : Header) (p : Place) (limit : ℕ) (visits : ℕ → List Visit) → AreLevels w c g p limit visits → (t : ℕ) → t ≤ limit → (outs : List Outcome) → SameSet outs (outcomes_below t visits t) → (h : Header) → IsHeader h → IsIn c (number h) → in_order outcome_cmp outs ≡ label w t p h
label_is w c g p limit visits a t l outs same h i m = same_order_of outs (outcomes_below t visits t) same ∙ levels_label w c g p limit visits a t l h i m

pub some_outcomes : (w : World) (c : Cube) (g : Header) (p : Place) (limit : ℕ) (visits : ℕ → List Visit) → IsBase c g → AreLevels w c g p limit visits → (t : ℕ) → 1 ≤ t → t ≤ limit → (outs : List Outcome) → SameSet outs (outcomes_below t visits t) → outs ≡ [] → ⊥
some_outcomes w c g p limit visits base a t l k outs same none =
    label_some w t p g l (sym (label_is w c g p limit visits a t k outs same g base.fits base.inside) ∙ ap (in_order outcome_cmp) none)
