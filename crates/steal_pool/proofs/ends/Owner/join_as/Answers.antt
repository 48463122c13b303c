use Rattle.std.proofs.Common.{◌∙◌, ◌++◌, ◌∷◌, [], ap, sym}
use Rattle.crossbeam_deque.specs.Handles.{worker_view}
use Rattle.steal_pool.specs.Paths.{begins, total}
use Rattle.steal_pool.specs.Seats.{OwnerSeat, ThiefSeat}
use Rattle.steal_pool.proofs.Steps.{merges}
use Rattle.steal_pool.proofs.Bundles.{all_ports}
use Rattle.steal_pool.proofs.ends.Owner.join_as.Goals as goal

pub absorb-requires-clause-rule : goal.absorb-requires-clause-rule
absorb-requires-clause-rule g c = let port = c.self.invariant.1 in let s = c.thief.inside in let old = c.args.self.now.paths in
    rw port (merges _ _ _ _ (λ w. ap (total (begins w)) (c.requires.paths ∙ ap (λ (t : ThiefSeat). old ++ t.path ∷ []) (sym c.thief.view_is))
    ∙ all_ports w s.levels old (worker_view c.self.inside.worker).paths s.pass s.rest.items c.thief.invariant.3 (ap (λ (o : OwnerSeat). total (begins w) o.paths) c.self.view_is ∙ c.gain_all.ensures.paths w)))
