use Rattle.std.proofs.Common.{◌∙◌, ap, subst, sym}
use Rattle.net_view.specs.Borrowed.{world_of}
use Rattle.live_network.proofs.LiveLemmas.{live_later}
use Rattle.live_network.specs.Live.{IsRenewed}
use Rattle.live_network.specs.declared.live.LiveWays.{LiveWays}
use Rattle.net_variants.specs.Kept.{back}
use Rattle.net_variants.proofs.comparing.compare_kept.Goals as goal

pub returns-clause-kept : goal.returns-clause-kept
returns-clause-kept g c =
    let old = c.args.kept.now in
    let after = c.compare_from-sections.new.kept in
    let r = c.compare_from-sections.ensures.renewed in
    let put = c.put_back.ensures in
    let new : LiveWays = record c.put_back.new.kept.live { ways = record c.put_back.new.kept.live.ways { positions = c.in_ok-before.before } } in
    let renewed = subst (λ (n : LiveWays). IsRenewed old.live n) (sym put.live) r in
    record {
      network = put.network ∙ (c.compare_from-sections.ensures.back ∙ (ap (back old.network) c.requires.kept.none ∙ c.requires.kept.network));
      none = put.none;
      live = live_later (world_of c.args.world) old.live new (record { scope = renewed.scope; lists = renewed.lists; kept = renewed.kept }) c.in_ok-before.ensures c.requires.kept.live;
    }
