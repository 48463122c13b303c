use Rattle.std.proofs.Common.{◌≡◌, ◌≤◌, ◌<◌, ℕ, ◌∷◌, [], Some, length, slice_get, sym, ap, subst, ◌∙◌, arith}
use Rattle.std.proofs.lemmas.List.{length-append}
use Rattle.net_forms.specs.Worlds.{world_in}
use Rattle.region_walk.specs.Visits.{AreVisited}
use Rattle.region_walk.specs.Seen.{OfSeen, FollowsVisit}
use Rattle.region_walk.proofs.NumberLemmas.{extends_then, longer}
use Rattle.region_walk.proofs.DivisionLemmas.{follows_push, new_divides}
use Rattle.region_walk.proofs.Turns.{visited_push}
use Rattle.region_walk.proofs.walk.visit_new.Goals as goal

pub loop-number-preserved : goal.loop-number-preserved
loop-number-preserved c =
    let w = world_in c.args.prepared.now c.args.version in
    let k = c.args.cube.now in
    let g = c.args.first.now in
    let spots = c.loop-number.spots.keys in
    let new = c.visit_at.new.spots.keys in
    let visits = c.loop-number.visits.items in
    let v = c.in-All.visit in
    let s = c.in-Some.spot.now in
    let pushed = c.in_ok-push-in-All.ensures.items in
    let at : c.len.result ≡ length visits = omega (arith, c.len.ensures, c.loop-number.visits.ok.0) in
    let there : slice_get spots (length visits) ≡ Some s = subst (λ n. slice_get spots n ≡ Some s) at (sym c.in-Some.ensures.key) in
    let one = subst (OfSeen w k g s spots new) c.in-All.is c.in_ok-bit.ensures.seen in
    let grows = c.in_ok-bit.ensures.grows in
    let within : length visits < length c.args.spots.now.keys = omega (arith, c.loop-number.invariant.count, c.loop-number-test.true, c.len-number-end.ensures.len) in
    record {
      count = ap length pushed ∙ length-append visits (v ∷ []) ∙ omega (arith, c.loop-number.invariant.count);
      right = subst (AreVisited w k g new) (sym pushed) (visited_push w k g s spots new visits v c.loop-number.invariant.right there one grows);
      spots = extends_then c.args.spots.now.keys spots new c.loop-number.invariant.spots grows.extends;
      added = subst (λ vs. (i : ℕ) → length c.args.spots.now.keys ≤ i → i < length new → FollowsVisit (length c.args.visits.now.items) (length c.args.spots.now.keys) vs i) (sym pushed)
          (follows_push w k g (length c.args.visits.now.items) c.args.spots.now.keys s spots new visits v c.loop-number.invariant.added (longer c.args.visits.now.items visits c.loop-number.invariant.visits) within c.loop-number.invariant.right.once one);
      visits = extends_then c.args.visits.now.items visits c.push.new.self.items c.loop-number.invariant.visits (record { more = v ∷ []; added = pushed });
    }

pub returns-in-Divides-clause-sweep : goal.returns-in-Divides-clause-sweep
returns-in-Divides-clause-sweep c =
    let w = world_in c.args.prepared.now c.args.version in
    let k = c.args.cube.now in
    let g = c.args.first.now in
    let spots = c.loop-number.spots.keys in
    let new = c.visit_at.new.spots.keys in
    let visits = c.loop-number.visits.items in
    let s = c.in-Some.spot.now in
    let at : c.len.result ≡ length visits = omega (arith, c.len.ensures, c.loop-number.visits.ok.0) in
    let there : slice_get spots (length visits) ≡ Some s = subst (λ n. slice_get spots n ≡ Some s) at (sym c.in-Some.ensures.key) in
    let one = subst (OfSeen w k g s spots new) c.in-Divides.is c.in_ok-bit.ensures.seen in
    let within : length visits < length c.args.spots.now.keys = omega (arith, c.loop-number.invariant.count, c.loop-number-test.true, c.len-number-end.ensures.len) in
    (one.0, new_divides w k s c.args.spots.now.keys spots c.args.visits.now.items visits c.loop-number.invariant.spots c.loop-number.invariant.visits within there one.1)
