use Rattle.std.proofs.Common.{subst, sym}
use Rattle.indexmap.specs.IndexMap.{get}
use Rattle.net_types.specs.World.{same_place}
use Rattle.set_walk.specs.Sets.{InSet, IsSetOf}
use Rattle.set_walk.proofs.SetLemmas.{kept_set, kept_below}
use Rattle.difference_reach.specs.Reaches.{MayMeet}
use Rattle.difference_reach.proofs.ReachLemmas.{same_walks, untouched}
use Rattle.difference_reach.proofs.reach.Reach.headers_at.Goals as goal

pub both-requires-clause-first : goal.both-requires-clause-first
both-requires-clause-first c = kept_below c.args.table.now c.headers_at.new.table c.args.self.now.scope c.in_ok-meeting.ensures.kept c.requires.scope

pub returns-clause-within : goal.returns-clause-within
returns-clause-within c old new scope a h v i =
    let r = c.args.self.now in
    let f = c.args.table.now in
    let d = c.headers_at.new.table in
    let g = c.both.new.table in
    let l = c.requires.scope in
    let there = (kept_set d g r.scope h c.in_ok-set.ensures.kept (kept_below f d r.scope c.in_ok-meeting.ensures.kept l)).1 ((c.in_ok-set.ensures.set.exact h v).0 i).0 in
    subst (λ s. InSet g s h) a.told_for there

pub returns-clause-walks : goal.returns-clause-walks
returns-clause-walks c old new scope a beyond h v n t =
    let r = c.args.self.now in
    let f = c.args.table.now in
    let d = c.headers_at.new.table in
    let own = get same_place r.own in
    let at = get same_place r.places.now in
    let exact = subst (λ l. IsSetOf d c.in_ok-meeting.meeting (λ h. MayMeet f own at l c.args.place h)) c.deref.ensures.value c.in_ok-meeting.ensures.set.exact in
    let mine = λ (i : InSet f scope h). (kept_set f d r.scope h c.in_ok-meeting.ensures.kept c.requires.scope).1 (subst (λ s. InSet f s h) (sym a.told_for) i) in
    same_walks old new f scope own at r.back.items a.closed beyond a.headers c.args.place h v (λ i m. n ((c.in_ok-set.ensures.set.exact h v).1 (mine i, (exact h v).1 m))) t

pub returns-clause-equal : goal.returns-clause-equal
returns-clause-equal c old new scope a beyond h v n t =
    let r = c.args.self.now in
    let f = c.args.table.now in
    let d = c.headers_at.new.table in
    let own = get same_place r.own in
    let at = get same_place r.places.now in
    let exact = subst (λ l. IsSetOf d c.in_ok-meeting.meeting (λ h. MayMeet f own at l c.args.place h)) c.deref.ensures.value c.in_ok-meeting.ensures.set.exact in
    let mine = λ (i : InSet f scope h). (kept_set f d r.scope h c.in_ok-meeting.ensures.kept c.requires.scope).1 (subst (λ s. InSet f s h) (sym a.told_for) i) in
    untouched old new f scope own at r.back.items a.closed beyond a.headers c.args.place h v (λ i m. n ((c.in_ok-set.ensures.set.exact h v).1 (mine i, (exact h v).1 m))) t
