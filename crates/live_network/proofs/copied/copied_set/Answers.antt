use Rattle.std.proofs.Common.{subst, sym}
use Rattle.std.specs.Prelude.{IsSome}
use Rattle.hdr_bits.specs.HeaderBits.{number}
use Rattle.live_network.proofs.copied.copied_set.Goals as goal

pub returns-clause-set : goal.returns-clause-set
returns-clause-set c =
    let o = c.in_ok-copy.ensures in
    record { below = o.below; same = λ h. (λ i. subst IsSome (o.exact (number h)) i, λ i. subst IsSome (sym (o.exact (number h))) i) }
