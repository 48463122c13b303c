use Rattle.std.proofs.Common.{◌≡◌, ◌∙◌, ◌==◌, ap, get_or, slice_get, subst, sym}
use Rattle.std.specs.Prelude.{Contains, Some}
use Rattle.std.proofs.lemmas.Option.{slice_get-get_or}
use Rattle.net_types.proofs.Members.{from_any}
use Rattle.set_walk.specs.declared.net.PlaceWays.{PlaceWays}
use Rattle.live_network.specs.Copied.{AreWayCopies}
use Rattle.live_network.proofs.ReplaceLemmas.{same_name}
use Rattle.live_network.proofs.copied.copied_list.Goals as goal

same_list : (a b : PlaceWays) → Some a ≡ Some b → a ≡ b
same_list a b e = cc

pub copied_ways-requires-clause-ways : goal.copied_ways-requires-clause-ways
copied_ways-requires-clause-ways c x m =
    let used = c.args.used.now.keys in
    let i = c.args.position in
    let lists = c.args.lists.now in
    let r = from_any (λ k. i == k) used (sym c.contains.ensures ∙ c.if-not-contains.false) in
    let at = c.requires.used i (subst (Contains used) (sym (same_name i r.0 r.2)) r.1) in
    at.each (get_or lists i c.index-lists-position.result) (slice_get-get_or lists i c.index-lists-position.result c.requires.position) x (subst (λ ws. Contains ws x) c.deref.ensures.value m)

pub returns-clause-list : goal.returns-clause-list
returns-clause-list c v among e =
    let lists = c.args.lists.now in
    let i = c.args.position in
    let w = get_or lists i c.index-lists-position.result in
    let same = same_list w v (sym (slice_get-get_or lists i c.index-lists-position.result c.requires.position) ∙ e) in
    subst (λ ws. AreWayCopies c.args.source.now c.copied_ways.new.into.table ws c.in_ok-ways.ways.items) (c.deref.ensures.value ∙ ap (λ (z : PlaceWays). z.ways.items) same) c.in_ok-ways.ensures.copies
