use Rattle.std.proofs.Common.{◌≡◌, ◌∙◌, ◌++◌, ◌∷◌, [], List, All, length, take, drop, ap, sym, subst, refl, arith}
use Rattle.crossbeam_deque.specs.Handles.{worker_view, IsPassOf}
use Rattle.steal_pool.specs.declared.rule.View.{View}
use Rattle.steal_pool.specs.Paths.{Path, levels, extensions}
use Rattle.steal_pool.specs.Seats.{OwnerSeat, port_paths, singles}
use Rattle.steal_pool.proofs.Steps.{begins_so}
use Rattle.steal_pool.proofs.Bundles.{IsSpare, many, one_port, counted, no_left, closed, own_ends, path_before_end, spares_add}
use Rattle.steal_pool.proofs.ends.lane.Goals as goal

abbrev first_ends : List Path
first_ends = extensions levels []

all_ends : length first_ends ≡ 64
all_ends = many levels []

pub fifo_as-requires : goal.fifo_as-requires
fifo_as-requires c = begins_so levels

pub loop-init : goal.loop-init
loop-init c = let none = c.new-rest.ensures.items in let f = c.in_ok-worker.ensures.4 in let p = c.port-pass.ensures in let long = all_ends in let len = c.new-rest.ensures.len in
    let paths : (worker_view c.in_ok-worker.worker).paths ≡ first_ends = ap (λ (v : View). v.paths) f in let q = c.port-pass.result in let after = c.port-pass.new.self.paths in (
      refl,
      λ k d less. absurd (let e = ap (λ l. length l) none in omega (arith, less, e)),
      ap (λ l. port_paths (q ∷ l) ++ singles after) none ∙ one_port [] q first_ends after first_ends (omega (arith, long)) (ap (λ (v : View). v.paths) p.port.1 ∙ ap (take 1) paths) (ap (λ (o : OwnerSeat). o.paths) p.rest ∙ ap (drop 1) paths) refl,
      omega (arith, len),
    )

pub loop-preserved : goal.loop-preserved
loop-preserved c = let i = c.loop.invariant in let p = c.port-port.ensures in let r = p.rest in let q = c.port-port.result in let items = c.in_ok-push.ensures.items in let after = c.port-port.new.self.paths in
    let n = counted (c.port-pass.result ∷ c.loop.rest.items) c.loop.owner.paths first_ends i.2 in let long = all_ends in let ok = c.loop.rest.ok in let len = c.in_ok-push.ensures.len in let more = c.loop-test.true in let count = i.3 in
    let lane = ap (λ (o : OwnerSeat). o.lane) i.0 in
    let same_lane = ap (λ (o : OwnerSeat). o.lane) r ∙ lane in
    let capacity = ap (λ (o : OwnerSeat). o.capacity) r ∙ ap (λ (o : OwnerSeat). o.capacity) i.0 in
    let pushed = ap (λ (o : OwnerSeat). o.pushed) r ∙ ap (λ (o : OwnerSeat). o.pushed) i.0 in
    let taken = ap (λ (o : OwnerSeat). o.taken) r ∙ ap (λ (o : OwnerSeat). o.taken) i.0 in (
      λ j. record { lane = same_lane j; capacity = capacity j; pushed = pushed j; taken = taken j; paths = after },
      spares_add c.port-pass.new.self.lane c.loop.rest.items c.push.new.self.items q items i.1 (subst (λ d. IsPassOf d q) lane p.port.0, ap (λ (v : View). v.taken) p.port.1),
      ap (λ l. port_paths (c.port-pass.result ∷ l) ++ singles after) items
          ∙ one_port (c.port-pass.result ∷ c.loop.rest.items) q c.loop.owner.paths after first_ends (omega (arith, n, long, ok, more, count)) (ap (λ (v : View). v.paths) p.port.1) (ap (λ (o : OwnerSeat). o.paths) r) i.2,
      omega (arith, len, count),
    )

pub invariant_of-result : goal.invariant_of-result
invariant_of-result c = let i = c.loop.invariant in let s = c.in_ok-stealer.ensures in let w = c.in_ok-worker.ensures in let p = c.port-pass.ensures in
    let lane = ap (λ (o : OwnerSeat). o.lane) p.rest ∙ sym s.0 in let ports = c.port-pass.result ∷ c.loop.rest.items in
    let n = counted ports c.loop.owner.paths first_ends i.2 in let long = all_ends in let ok = c.loop.rest.ok in let count = i.3 in
    let none : c.loop.owner.paths ≡ [] = no_left c.loop.owner.paths (let full = c.loop-test.false in omega (arith, n, long, ok.0, count, full)) in
    (s.1 ∙ w.1, subst (λ d. IsPassOf d c.port-pass.result) (sym s.0) p.port.0, subst (λ d. All (IsSpare d) c.loop.rest.items) lane i.1, own_ends levels [] _ _ (closed ports c.loop.owner.paths first_ends none i.2))

pub returns : goal.returns
returns c = let i = c.loop.invariant in let s = c.in_ok-stealer.ensures in let f = c.in_ok-worker.ensures.4 in let p = c.port-pass.ensures in
    let ports = c.port-pass.result ∷ c.loop.rest.items in
    let n = counted ports c.loop.owner.paths first_ends i.2 in let long = all_ends in let ok = c.loop.rest.ok in let count = i.3 in
    let none : c.loop.owner.paths ≡ [] = no_left c.loop.owner.paths (let full = c.loop-test.false in omega (arith, n, long, ok.0, count, full)) in
    let lane = ap (λ (o : OwnerSeat). o.lane) i.0 ∙ ap (λ (o : OwnerSeat). o.lane) p.rest ∙ sym s.0 in
    let capacity = ap (λ (o : OwnerSeat). o.capacity) i.0 ∙ ap (λ (o : OwnerSeat). o.capacity) p.rest in
    let pushed = ap (λ (o : OwnerSeat). o.pushed) i.0 ∙ ap (λ (o : OwnerSeat). o.pushed) p.rest ∙ ap (λ (v : View). v.pushed) f in
    let taken = ap (λ (o : OwnerSeat). o.taken) i.0 ∙ ap (λ (o : OwnerSeat). o.taken) p.rest ∙ ap (λ (v : View). v.taken) f in
    let mine = ap (λ (v : View). v.taken) p.port.1 in
    let path = path_before_end levels [] _ _ (closed ports c.loop.owner.paths first_ends none i.2) in record {
      owner = λ j. record { lane = lane j; capacity = capacity j; pushed = pushed j; taken = taken j; paths = none j };
      thief = (mine, path);
    }
