use Rattle.std.proofs.Common.{◌≡◌, ◌∙◌, ◌+◌, ◌∷◌, ap, drop, refl, subst, sym}
use Rattle.std.proofs.lemmas.List.{drop_all, drop_more}
use Rattle.net_types.specs.declared.network.Network.{Network}
use Rattle.live_network.specs.Live.{IsLive}
use Rattle.live_network.proofs.LiveLemmas.{renewed_itself, renewed_then}
use Rattle.net_variants.specs.Variants.{variant}
use Rattle.net_variants.proofs.kept.replace_all.Goals as goal

pub loop-change-init : goal.loop-change-init
loop-change-init c = record { network = refl; live = c.requires; back = refl; renewed = renewed_itself c.args.kept.now.live }

pub loop-change-preserved : goal.loop-change-preserved
loop-change-preserved c =
    let l = c.loop-change in
    let i = l.change-index in
    let changes = c.args.changes.now in
    let d = c.change-item.result in
    let o = c.in_ok-replace.ensures in
    let here : drop i changes ≡ d ∷ drop (i + 1) changes = drop_more changes i d c.loop-change-test.true ∙ ap (λ y. y ∷ drop (i + 1) changes) (sym c.change-item.is) in
    record {
      network = ap (λ (n : Network). variant n (drop (i + 1) changes)) o.network ∙ ap (variant l.kept.network) (sym here) ∙ l.invariant.network;
      live = subst (λ (n : Network). IsLive (record { network = n; links = c.args.links.now }) c.replace.new.kept.live) (sym o.network) o.live;
      back = o.back ∙ l.invariant.back;
      renewed = renewed_then c.args.kept.now.live l.kept.live c.replace.new.kept.live l.invariant.renewed o.renewed;
    }

pub returns-in_err-replace-clause-renewed : goal.returns-in_err-replace-clause-renewed
returns-in_err-replace-clause-renewed c = renewed_then c.args.kept.now.live c.loop-change.kept.live c.replace.new.kept.live c.loop-change.invariant.renewed c.in_err-replace.ensures.renewed

pub returns-clause-network : goal.returns-clause-network
returns-clause-network c =
    let l = c.loop-change in
    ap (variant l.kept.network) (sym (drop_all l.change-index c.args.changes.now c.loop-change-test.false)) ∙ l.invariant.network

pub returns-clause-live : goal.returns-clause-live
returns-clause-live c =
    let l = c.loop-change in
    let is = ap (variant l.kept.network) (sym (drop_all l.change-index c.args.changes.now c.loop-change-test.false)) ∙ l.invariant.network in
    subst (λ (n : Network). IsLive (record { network = n; links = c.args.links.now }) l.kept.live) is l.invariant.live
