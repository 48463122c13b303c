use Rattle.std.proofs.Common.{◌≡◌, ◌+◌, take, take_all, get_or, subst, sym, ap, ◌∙◌, ℕ}
use Rattle.std.specs.Prelude.{Contains}
use Rattle.std.proofs.lemmas.List.{get_or_default}
use Rattle.std.proofs.lemmas.List.Elements.{Contains-get_or}
use Rattle.indexmap.specs.IndexMap.{get}
use Rattle.link_sends.specs.Sending.{SendAlike}
use Rattle.net_types.specs.declared.network.Place.{Place}
use Rattle.net_types.specs.World.{same_place}
use Rattle.net_view.specs.Borrowed.{world_of}
use Rattle.live_network.specs.Putting.{PutsNamed}
use Rattle.live_network.proofs.LiveLemmas.{all_later, renewed_itself, renewed_then, scope_later}
use Rattle.live_network.proofs.PutLemmas.{puts_more, puts_none}
use Rattle.live_network.proofs.replace.put_each.Goals as goal

pub loop-name-init : goal.loop-name-init
loop-name-init c =
    let n = c.args.live.now in
    record { put = puts_none (world_of c.args.world) n.tables.diagrams n.scope n.ways.lists.items (get same_place n.ways.positions); renewed = renewed_itself n }

pub put_named-requires-clause-scope : goal.put_named-requires-clause-scope
put_named-requires-clause-scope c = scope_later c.args.live.now c.loop-name.live c.loop-name.invariant.renewed c.requires.scope

pub put_named-requires-clause-all : goal.put_named-requires-clause-all
put_named-requires-clause-all c = all_later c.args.live.now c.loop-name.live c.loop-name.invariant.renewed c.requires.scope c.requires.all

pub loop-name-preserved : goal.loop-name-preserved
loop-name-preserved c =
    let first = c.args.live.now in
    let l = c.loop-name in
    let last = c.put_named.new.live in
    let o = c.in_ok-put_named.ensures in
    let w = world_of c.args.world in
    let u = c.args.wiring.now in
    let names = c.args.names.now in
    let n = get_or names l.name-index 0 in
    let is = get_or_default names l.name-index 0 n c.loop-name-test.true in
    let s : l.live.scope ≡ first.scope = l.invariant.renewed.scope in
    let sends : (e : Place) → e.device ≡ n → SendAlike u w e = λ e q. c.requires.sends e (subst (Contains names) (sym q) (Contains-get_or names l.name-index 0 c.loop-name-test.true)) in
    let before = subst (λ m. PutsNamed w l.live.tables.diagrams m l.live.ways.lists.items (take l.name-index names) (get same_place first.ways.positions) (get same_place l.live.ways.positions)) (sym s) l.invariant.put in
    let after = puts_more u w l.live.tables.diagrams last.tables.diagrams l.live.scope l.live.ways.lists.items last.ways.lists.items o.renewed.kept (scope_later first l.live l.invariant.renewed c.requires.scope) o.renewed.lists names l.name-index n c.loop-name-test.true is (get same_place first.ways.positions) (get same_place l.live.ways.positions) (get same_place last.ways.positions) sends before o.put in
    record {
      put = subst (λ m. PutsNamed w last.tables.diagrams m last.ways.lists.items (take (l.name-index + 1) names) (get same_place first.ways.positions) (get same_place last.ways.positions)) s after;
      renewed = renewed_then first l.live last l.invariant.renewed o.renewed;
    }

pub returns-clause-put : goal.returns-clause-put
returns-clause-put c =
    let first = c.args.live.now in
    let l = c.loop-name in
    subst (λ ns. PutsNamed (world_of c.args.world) l.live.tables.diagrams first.scope l.live.ways.lists.items ns (get same_place first.ways.positions) (get same_place l.live.ways.positions)) (take_all l.name-index c.args.names.now c.loop-name-test.false) l.invariant.put
