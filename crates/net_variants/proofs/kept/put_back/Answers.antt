use Rattle.std.proofs.Common.{◌∙◌, ap, sym}
use Rattle.net_types.specs.declared.network.Network.{Network}
use Rattle.net_variants.specs.Kept.{back}
use Rattle.net_variants.proofs.KeptLemmas.{back_last}
use Rattle.net_variants.proofs.kept.put_back.Goals as goal

pub loop-one-preserved : goal.loop-one-preserved
loop-one-preserved c =
    let l = c.loop-one in
    let one = c.in-Some.one in
    let rest = c.pop.new.self.items in
    record {
      network = ap (λ (n : Network). back n rest) c.put.ensures ∙ (sym (back_last l.kept.network rest one) ∙ (ap (back l.kept.network) (sym c.in-Some.ensures.items) ∙ l.invariant.network));
      live = l.invariant.live;
    }
