use Rattle.std.proofs.Common.{List, ℕ, sym, subst, ◌∙◌, ap, ◌≡◌, ◌<◌, length}
use Rattle.std.specs.Prelude.{Some, Contains}
use Rattle.indexmap.specs.IndexMap.{get}
use Rattle.cube_diagram.specs.Functions.{Functions}
use Rattle.difference_reach.specs.Reaches.{AreGivenAt}
use Rattle.difference_reach.proofs.ReachLemmas.{used_given}
use Rattle.net_types.specs.World.{same_place}
use Rattle.net_view.specs.Borrowed.{world_of}
use Rattle.set_walk.specs.declared.net.PlaceWays.{PlaceWays}
use Rattle.live_network.specs.Copied.{HaveCopies, IsSetCopy}
use Rattle.live_network.proofs.CopyLemmas.{copy_live, set_kept}
use Rattle.live_network.proofs.copied.copied.Goals as goal

pub copied_lists-requires-clause-used : goal.copied_lists-requires-clause-used
copied_lists-requires-clause-used c =
    let f = c.args.live.now.tables.diagrams in
    let net = c.net_of-net.result in
    let given = used_given f net c.in_ok-used.used.keys c.net_of-net.ensures.net c.in_ok-used.ensures in
    subst (λ (ls : List PlaceWays). AreGivenAt f ls c.in_ok-used.used.keys) (c.net_of-net.ensures.lists ∙ sym c.deref.ensures.value) given

pub returns : goal.returns
returns c =
    let live = c.args.live.now in
    let f = live.tables.diagrams in
    let g = c.copied_lists.new.into.table in
    let used = c.in_ok-used.used.keys in
    let net = c.net_of-net.ensures in
    let scope = set_kept f c.copied_set.new.into.table g live.scope c.in_ok-scope.scope c.in_ok-lists.ensures.kept c.in_ok-scope.ensures.set in
    let copies = subst (λ (ls : List PlaceWays). HaveCopies f g ls c.in_ok-lists.lists.items (Contains used)) c.deref.ensures.value c.in_ok-lists.ensures.copies in
    copy_live (world_of c.args.world) live
    (record { tables = record { diagrams = g; fates = c.in_ok-diagrams.field-0.fates }; scope = c.in_ok-scope.scope; ways = record { lists = c.in_ok-lists.lists; positions = c.in_ok-positions.positions }; made = c.size_of-made.result })
    used c.requires (λ p i e l. c.in_ok-used.ensures.all p i (ap (λ m. get same_place m p) net.places ∙ e) (subst (λ (ls : List PlaceWays). i < length ls) (sym net.lists) l)) scope copies c.in_ok-positions.ensures
