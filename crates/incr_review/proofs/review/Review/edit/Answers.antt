use Rattle.std.proofs.Common.{◌≡◌, ◌∙◌, ap, sym, subst, List, Ok, count_by, filter}
use Rattle.indexmap.specs.IndexMap.{get}
use Rattle.live_network.specs.declared.live.LiveWays.{LiveWays}
use Rattle.net_types.specs.declared.network.Network.{Network}
use Rattle.net_types.specs.World.{same_place}
use Rattle.net_view.specs.Borrowed.{world_of}
use Rattle.set_walk.proofs.SetLemmas.{kept_below}
use Rattle.incr_review.specs.declared.regions.Region.{Region}
use Rattle.incr_review.specs.Edited.{device_of}
use Rattle.incr_review.specs.Regions.{stays, StartsWith}
use Rattle.incr_review.specs.Reviews.{IsKept, IsReview, ReviewState, edited_world}
use Rattle.incr_review.proofs.GroupLemmas.{reviewed_disjoint}
use Rattle.incr_review.proofs.KeptLemmas.{IsMade, back_again, given_before, kept_after, kept_later, live_after, review_after, review_later, starts, walked_later, x_named}
use Rattle.incr_review.proofs.ReviewLemmas.{reviewed_kept}
use Rattle.incr_review.proofs.review.Review.edit.Goals as goal
use Rattle.incr_review.proofs.review.Review.edit.Goals.{After-swap_device-old}

-- the edited device is put in the place of the device
made : (c : After-swap_device-old) → IsMade c.self.inside.edited c.swap_device-old.new.network c.args.edit.now c.in_ok-changed.changed.position c.swap_device-old.result.device c.in_ok-changed.changed.device
made c =
    record {
      first = c.in_ok-changed.ensures.first;
      there = c.swap_device-old.ensures.device;
      device = c.in_ok-changed.ensures.device c.swap_device-old.result.device c.swap_device-old.ensures.device;
      ok = c.in_ok-changed.ensures.ok ∙ ap (λ (n : Network). Ok n) (sym c.swap_device-old.ensures.network);
      after_is = c.swap_device-old.ensures.network;
    }

-- ---- without memory for the device
pub invariant_of-self : goal.invariant_of-self
invariant_of-self c =
    let s = c.self.inside in
    let v = world_of s.baseline in
    let back = back_again s.edited c.swap_device-old.new.network c.swap_device.new.network c.in_ok-changed.changed.position c.swap_device-old.result.position c.swap_device-old.result.device c.in_ok-changed.changed.device c.swap_device-old.ensures.network c.swap_device-old.ensures.position c.swap_device.ensures.network c.swap_device-old.ensures.device in
    subst (λ (n : Network). IsKept v n s.ttl c.replace_at.new.live s.plain s.regions.items) (sym back)
    (kept_later v s.edited s.ttl s.live c.replace_at.new.live s.plain s.regions.items c.in_default.ensures.renewed c.in_default.ensures.as_before c.self.invariant)

pub returns-in_default-clause-reviewed : goal.returns-in_default-clause-reviewed
returns-in_default-clause-reviewed c =
    let s = c.self.inside in
    let v = world_of s.baseline in
    let back = back_again s.edited c.swap_device-old.new.network c.swap_device.new.network c.in_ok-changed.changed.position c.swap_device-old.result.position c.swap_device-old.result.device c.in_ok-changed.changed.device c.swap_device-old.ensures.network c.swap_device-old.ensures.position c.swap_device.ensures.network c.swap_device-old.ensures.device in
    let g = c.replace_at.new.live.tables.diagrams in
    subst (λ (n : Network). IsReview (record { baseline = v; edited = n; ttl = s.ttl; table = g; regions = s.regions.items })) (sym back)
    (review_later v s.edited s.ttl s.live.tables.diagrams g s.regions.items c.in_default.ensures.renewed.kept c.self.invariant.review)

pub returns-in_default-clause-as_before : goal.returns-in_default-clause-as_before
returns-in_default-clause-as_before c =
    let s = c.self.inside in
    let v = world_of s.baseline in
    let back = back_again s.edited c.swap_device-old.new.network c.swap_device.new.network c.in_ok-changed.changed.position c.swap_device-old.result.position c.swap_device-old.result.device c.in_ok-changed.changed.device c.swap_device-old.ensures.network c.swap_device-old.ensures.position c.swap_device.ensures.network c.swap_device-old.ensures.device in
    let g = c.replace_at.new.live.tables.diagrams in
    let first : ◌≡◌ {A = ReviewState} (record { baseline = v; edited = c.swap_device.new.network; ttl = s.ttl; table = g; regions = s.regions.items }) (record { baseline = v; edited = s.edited; ttl = s.ttl; table = g; regions = s.regions.items }) = λ i. record { baseline = v; edited = back i; ttl = s.ttl; table = g; regions = s.regions.items } in
    first ∙ ap (λ (z : ReviewState). record z { table = g }) c.self.view_is

-- ---- walked again
pub walk_live-requires-clause-live : goal.walk_live-requires-clause-live
walk_live-requires-clause-live c =
    let s = c.self.inside in
    let v = world_of s.baseline in
    let m = made (goal.at.walk_live-requires-clause-live c).After-swap_device-old in
    let live = live_after v m c.swap_device-old.ensures.position c.in-Ok.ensures.live c.self.invariant.live_is in
    live

pub walk_live-requires-clause-before : goal.walk_live-requires-clause-before
walk_live-requires-clause-before c =
    let s = c.self.inside in
    let v = world_of s.baseline in
    let m = made (goal.at.walk_live-requires-clause-before c).After-swap_device-old in
    let live = live_after v m c.swap_device-old.ensures.position c.in-Ok.ensures.live c.self.invariant.live_is in
    given_before v m c.self.invariant.live_is live c.in-Ok.ensures.renewed s.ttl s.plain c.self.invariant.plain_is (get same_place c.in-Ok.before) s.regions.items c.in-Ok.ensures.before

pub walk_live-requires-clause-placed : goal.walk_live-requires-clause-placed
walk_live-requires-clause-placed c r m =
    let s = c.self.inside in
    let v = world_of s.baseline in
    let reviewed = c.self.invariant.review.reviewed in
    (reviewed.right.placed r m, kept_below s.live.tables.diagrams c.replace_at.new.live.tables.diagrams r.headers c.in-Ok.ensures.renewed.kept (reviewed.right.below r m))

pub walk_live-requires-clause-disjoint : goal.walk_live-requires-clause-disjoint
walk_live-requires-clause-disjoint c =
    let s = c.self.inside in
    let v = world_of s.baseline in
    let w = edited_world (record { baseline = v; edited = s.edited; ttl = s.ttl; table = s.live.tables.diagrams; regions = s.regions.items }) in
    reviewed_disjoint v w s.ttl v.links.ingress c.replace_at.new.live.tables.diagrams s.regions.items
    (reviewed_kept v w s.ttl v.links.ingress s.live.tables.diagrams c.replace_at.new.live.tables.diagrams s.regions.items c.in-Ok.ensures.renewed.kept c.self.invariant.review.reviewed)

pub invariant_of-self-in-Ok-walk_live : goal.invariant_of-self-in-Ok-walk_live
invariant_of-self-in-Ok-walk_live c =
    let s = c.self.inside in
    let v = world_of s.baseline in
    let m = made (goal.at.invariant_of-self-in-Ok-walk_live c).After-swap_device-old in
    let live = live_after v m c.swap_device-old.ensures.position c.in-Ok.ensures.live c.self.invariant.live_is in
    kept_after v m c.self.invariant.live_is live c.in-Ok.ensures.renewed s.ttl s.plain c.self.invariant.plain_is (get same_place c.in-Ok.before) s.regions.items c.in-Ok.ensures.before c.self.invariant.review c.in-Ok-walk_live.ensures.walked c.in-Ok-walk_live.ensures.again

pub returns-in-Ok-walk_live-clause-reviewed : goal.returns-in-Ok-walk_live-clause-reviewed
returns-in-Ok-walk_live-clause-reviewed c =
    let s = c.self.inside in
    let v = world_of s.baseline in
    let m = made (goal.at.returns-in-Ok-walk_live-clause-reviewed c).After-swap_device-old in
    let live = live_after v m c.swap_device-old.ensures.position c.in-Ok.ensures.live c.self.invariant.live_is in
    review_after v m c.self.invariant.live_is live c.in-Ok.ensures.renewed s.ttl s.plain c.self.invariant.plain_is (get same_place c.in-Ok.before) s.regions.items c.in-Ok.ensures.before c.self.invariant.review c.in-Ok-walk_live.ensures.walked c.in-Ok-walk_live.ensures.again

pub returns-in-Ok-walk_live-clause-first : goal.returns-in-Ok-walk_live-clause-first
returns-in-Ok-walk_live-clause-first c =
    let s = c.self.inside in
    let v = world_of s.baseline in
    let m = made (goal.at.returns-in-Ok-walk_live-clause-first c).After-swap_device-old in
    let live = live_after v m c.swap_device-old.ensures.position c.in-Ok.ensures.live c.self.invariant.live_is in
    subst (λ (xs : List Region). StartsWith (filter (stays (device_of c.args.edit.now)) xs) c.walk_live.new.regions.items) (ap (λ (z : ReviewState). z.regions) c.self.view_is)
    (starts v m c.self.invariant.live_is live c.in-Ok.ensures.renewed s.ttl s.plain c.self.invariant.plain_is (get same_place c.in-Ok.before) s.regions.items c.in-Ok.ensures.before c.self.invariant.review c.in-Ok-walk_live.ensures.walked c.in-Ok-walk_live.ensures.again)

pub returns-in-Ok-walk_live-clause-kept : goal.returns-in-Ok-walk_live-clause-kept
returns-in-Ok-walk_live-clause-kept c =
    let s = c.self.inside in
    let v = world_of s.baseline in
    let m = made (goal.at.returns-in-Ok-walk_live-clause-kept c).After-swap_device-old in
    c.in-Ok-walk_live.ensures.stay
    ∙ (ap (λ n. count_by (stays n) s.regions.items) (x_named v m)
    ∙ ap (λ (z : ReviewState). count_by (stays (device_of c.args.edit.now)) z.regions) c.self.view_is)

-- ---- without memory for the walk
pub invariant_of-self-in-Err : goal.invariant_of-self-in-Err
invariant_of-self-in-Err c =
    let s = c.self.inside in
    let v = world_of s.baseline in
    let back = back_again s.edited c.swap_device-old.new.network c.swap_device-in-Err.new.network c.in_ok-changed.changed.position c.swap_device-old.result.position c.swap_device-old.result.device c.in_ok-changed.changed.device c.swap_device-old.ensures.network c.swap_device-old.ensures.position c.swap_device-in-Err.ensures.network c.swap_device-old.ensures.device in
    let z = walked_later s.live c.replace_at.new.live c.walk_live.new.live c.in-Ok.ensures.renewed c.in-Err.ensures.walked in
    let n = c.walk_live.new.live in
    let last : LiveWays = record n { ways = record n.ways { positions = c.in-Ok.before } } in
    subst (λ (m : Network). IsKept v m s.ttl last s.plain c.walk_live.new.regions.items) (sym back)
    (subst (λ (rs : List Region). IsKept v s.edited s.ttl last s.plain rs) (sym c.in-Err.ensures.as_before)
    (kept_later v s.edited s.ttl s.live last s.plain s.regions.items (record { scope = z.scope; lists = z.lists; kept = z.kept }) c.in-Ok.ensures.before c.self.invariant))

pub returns-in-Err-clause-reviewed : goal.returns-in-Err-clause-reviewed
returns-in-Err-clause-reviewed c =
    let s = c.self.inside in
    let v = world_of s.baseline in
    let back = back_again s.edited c.swap_device-old.new.network c.swap_device-in-Err.new.network c.in_ok-changed.changed.position c.swap_device-old.result.position c.swap_device-old.result.device c.in_ok-changed.changed.device c.swap_device-old.ensures.network c.swap_device-old.ensures.position c.swap_device-in-Err.ensures.network c.swap_device-old.ensures.device in
    let z = walked_later s.live c.replace_at.new.live c.walk_live.new.live c.in-Ok.ensures.renewed c.in-Err.ensures.walked in
    let g = c.walk_live.new.live.tables.diagrams in
    subst (λ (n : Network). IsReview (record { baseline = v; edited = n; ttl = s.ttl; table = g; regions = c.walk_live.new.regions.items })) (sym back)
    (subst (λ (rs : List Region). IsReview (record { baseline = v; edited = s.edited; ttl = s.ttl; table = g; regions = rs })) (sym c.in-Err.ensures.as_before)
    (review_later v s.edited s.ttl s.live.tables.diagrams g s.regions.items z.kept c.self.invariant.review))

pub returns-in-Err-clause-as_before : goal.returns-in-Err-clause-as_before
returns-in-Err-clause-as_before c =
    let s = c.self.inside in
    let v = world_of s.baseline in
    let back = back_again s.edited c.swap_device-old.new.network c.swap_device-in-Err.new.network c.in_ok-changed.changed.position c.swap_device-old.result.position c.swap_device-old.result.device c.in_ok-changed.changed.device c.swap_device-old.ensures.network c.swap_device-old.ensures.position c.swap_device-in-Err.ensures.network c.swap_device-old.ensures.device in
    let g = c.walk_live.new.live.tables.diagrams in
    let first : ◌≡◌ {A = ReviewState} (record { baseline = v; edited = c.swap_device-in-Err.new.network; ttl = s.ttl; table = g; regions = c.walk_live.new.regions.items }) (record { baseline = v; edited = s.edited; ttl = s.ttl; table = g; regions = s.regions.items }) = λ i. record { baseline = v; edited = back i; ttl = s.ttl; table = g; regions = c.in-Err.ensures.as_before i } in
    first ∙ ap (λ (z : ReviewState). record z { table = g }) c.self.view_is
