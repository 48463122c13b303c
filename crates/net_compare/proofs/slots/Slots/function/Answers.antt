use Rattle.std.proofs.Common.{ℕ, Option, sym, subst}
use Rattle.pair_rows.specs.Functions.{IsFunctionOf}
use Rattle.pair_rows.specs.Pairs.{Pair}
use Rattle.net_compare.proofs.WalkableLemmas.{walkable_kept}
use Rattle.net_compare.proofs.slots.Slots.function.Goals as goal

pub function-requires : goal.function-requires
function-requires g c = walkable_kept g.K.Base.base c.args.table.now c.self.inside.compared.now c.requires c.self.invariant.0

pub returns-clause-given : goal.returns-clause-given
returns-clause-given g c =
    subst (λ (f : ℕ → ℕ → Option Pair). IsFunctionOf (f c.args.slot) c.in_ok-given.given) (sym c.self.invariant.1) c.in_ok-given.ensures.given
