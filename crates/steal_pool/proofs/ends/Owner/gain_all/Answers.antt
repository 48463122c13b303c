use Rattle.std.proofs.Common.{◌≡◌, ◌-◌, ◌∙◌, ◌++◌, vec_len, ap, arith, append-nil}
use Rattle.crossbeam_deque.specs.Handles.{view}
use Rattle.steal_pool.specs.Paths.{begins, total}
use Rattle.steal_pool.specs.Seats.{OwnerSeat}
use Rattle.steal_pool.proofs.PathLemmas.{total_append}
use Rattle.steal_pool.proofs.Bundles.{last_port, last_spare, spares_front, no_ports}
use Rattle.steal_pool.proofs.ends.Owner.gain_all.Goals as goal

pub loop-spare-preserved : goal.loop-spare-preserved
loop-spare-preserved c = let i = c.loop-spare.invariant in let items = c.in-Some.ensures.items in let g = c.gain.ensures in let old = c.loop-spare.self in
    let spare = last_spare c.args.self.now.lane c.pop.new.self.items c.loop-spare.spares.items c.in-Some.spare items i.1 in
    let lane = ap (λ (o : OwnerSeat). o.lane) (g) ∙ ap (λ (o : OwnerSeat). o.lane) i.0 in
    let capacity = ap (λ (o : OwnerSeat). o.capacity) g ∙ ap (λ (o : OwnerSeat). o.capacity) i.0 in
    let pushed = ap (λ (o : OwnerSeat). o.pushed) g ∙ ap (λ (o : OwnerSeat). o.pushed) i.0 in
    let taken = ap (λ (o : OwnerSeat). o.taken) g ∙ ap (λ l. old.taken ++ l) spare.1 ∙ append-nil old.taken ∙ ap (λ (o : OwnerSeat). o.taken) i.0 in (
      λ j. record { lane = lane j; capacity = capacity j; pushed = pushed j; taken = taken j; paths = c.gain.new.self.paths },
      spares_front c.args.self.now.lane (vec_len c.loop-spare.spares - 1) c.loop-spare.spares.items c.pop.new.self.items c.in-Some.ensures.rest i.1,
      λ w. let l = last_port w c.pop.new.self.items c.loop-spare.spares.items c.in-Some.spare items in let g' : total (begins w) c.gain.new.self.paths ≡ total (begins w) (old.paths ++ (view c.in-Some.spare).paths) = ap (λ (o : OwnerSeat). total (begins w) o.paths) g in
          let a = total_append (begins w) old.paths (view c.in-Some.spare).paths in let b = i.2 w in omega (arith, l, g', a, b),
    )

pub returns-clause-paths : goal.returns-clause-paths
returns-clause-paths c w = let i = c.loop-spare.invariant.2 w in let none = c.in_default.ensures.cases.0 in let ok = c.loop-spare.spares.ok in
    let z = no_ports w c.loop-spare.spares.items (omega (arith, none, ok)) in omega (arith, i, z)
