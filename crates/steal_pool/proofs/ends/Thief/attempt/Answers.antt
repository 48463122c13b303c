use Rattle.std.proofs.Common.{◌≡◌, List, ◌∷◌, ◌∙◌, sym, subst, refl}
use Rattle.crossbeam_deque.specs.Handles.{stealer_deque, view, taken}
use Rattle.steal_pool.specs.Seats.{port_paths, singles, path_before}
use Rattle.steal_pool.specs.Paths.{Path, extensions}
use Rattle.steal_pool.proofs.Steps.{takes}
use Rattle.steal_pool.proofs.Bundles.{live}
use Rattle.steal_pool.proofs.Seen.{stole, kept}
use Rattle.steal_pool.proofs.ends.Thief.attempt.Goals as goal

pub steal_as-requires-clause-takes : goal.steal_as-requires-clause-takes
steal_as-requires-clause-takes c = let s = c.self.inside in takes _ _ (λ _. live _ _ _ _ c.self.invariant.3)

pub invariant_of-self : goal.invariant_of-self
invariant_of-self c = let s = c.self.inside in let i = c.self.invariant in let e = c.steal_as.ensures.same in
    let paths = kept (view s.pass) (view c.steal_as.new.pass) _ c.steal_as.result c.steal_as.ensures.rule in
    (i.0, (e.0 ∙ i.1.0, e.1 ∙ i.1.1, e.3, e.4), i.2, subst (λ (q : List Path). q ∷ port_paths s.rest.items ≡ singles (extensions s.levels (path_before s.levels q))) (sym paths) i.3)

pub returns : goal.returns
returns c = let e = c.self.view_is in let s = c.self.inside in rw (← e) (record { lane = refl; rule = stole (stealer_deque s.stealer) s.levels (taken s.pass) (taken c.steal_as.new.pass) (view s.pass) (view c.steal_as.new.pass) c.steal_as.result c.steal_as.ensures.rule })
