use Rattle.std.proofs.Common.{◌≡◌, ◌++◌, ◌∷◌, [], rules}
use Rattle.rib_build.proofs.Spread.{spread_start, spread_skip, spread_more, spread_end}
use Rattle.rib_build.proofs.valid.valid_prefixes.Goals as goal

pub loop-turn-init : goal.loop-turn-init
loop-turn-init c = spread_start c.args.interfaces.now c.args.routes.now c.in_ok-found.found c.in_ok-pending.pending.items c.in_ok-found.ensures c.in_ok-pending.ensures

pub returns-in_default : goal.returns-in_default
returns-in_default c =
    let e : c.loop-turn.pending.items ≡ [] = search rules in
    spread_end c.args.interfaces.now c.args.routes.now c.loop-turn.found c.loop-turn.pending.items e c.loop-turn.invariant

pub loop-turn-preserved-then-has : goal.loop-turn-preserved-then-has
loop-turn-preserved-then-has c =
    let e : c.loop-turn.pending.items ≡ c.pop.new.self.items ++ c.in-Some.prefix ∷ [] = search rules in
    spread_skip c.args.interfaces.now c.args.routes.now c.loop-turn.found c.loop-turn.pending.items c.pop.new.self.items c.in-Some.prefix c.has.result e c.has.ensures c.if-has.true c.loop-turn.invariant

pub loop-turn-preserved : goal.loop-turn-preserved
loop-turn-preserved c =
    let e : c.loop-turn.pending.items ≡ c.pop.new.self.items ++ c.in-Some.prefix ∷ [] = search rules in
    spread_more c.args.interfaces.now c.args.routes.now c.loop-turn.found _ c.loop-turn.pending.items c.pop.new.self.items _ c.in-Some.prefix c.in_ok-waiting.waiting.items e c.in_ok-add.ensures c.in_ok-waiting.ensures.routes (rw c.as_slice.ensures.value at c.in_ok-add_held.ensures) c.loop-turn.invariant
