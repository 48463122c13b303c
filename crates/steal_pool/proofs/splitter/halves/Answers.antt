use Rattle.std.proofs.Common.{refl, sym, subst}
use Rattle.steal_pool.specs.Work.{Divide}
use Rattle.steal_pool.proofs.HalfLemmas.{halves_divide}
use Rattle.steal_pool.proofs.splitter.halves.Goals as goal

pub returns : goal.returns
returns c =
    let s = c.split.ensures in
    subst (Divide c.args.region.now) (sym c.in_ok-parts.ensures.items)
    (halves_divide c.args.region.now _ _ c.args.bit c.requires.within c.requires.star refl refl s.low s.high s.low_bits s.high_bits)
