use Rattle.std.proofs.Common.{◌+◌, subst, sym, List}
use Rattle.set_walk.specs.declared.net.PlaceWays.{PlaceWays}
use Rattle.set_walk.proofs.SetLemmas.{keeps_then}
use Rattle.live_network.specs.Copied.{HaveCopies}
use Rattle.live_network.proofs.CopyLemmas.{IsEarly, all_copied, copied_more, long_more}
use Rattle.live_network.proofs.copied.copied_lists.Goals as goal

pub loop-i-preserved : goal.loop-i-preserved
loop-i-preserved c =
    let l = c.loop-i in
    let s = c.args.source.now in
    let u = c.copied_list.new.into.table in
    let o = c.in_ok-list.ensures in
    let used = c.args.used.now.keys in
    record {
      copies = subst (λ (ls : List PlaceWays). HaveCopies s u c.args.lists.now ls (IsEarly used (l.i + 1))) (sym c.in_ok-push.ensures.items) (copied_more s l.into.table u c.args.lists.now l.all.items used l.i c.in_ok-list.list o.kept l.invariant.long l.invariant.copies o.list);
      long = long_more l.all.items c.push.new.self.items c.in_ok-list.list l.i c.in_ok-push.ensures.items l.invariant.long;
      known = o.known;
      kept = keeps_then c.args.into.now.table l.into.table u l.invariant.kept o.kept;
    }

pub returns-clause-copies : goal.returns-clause-copies
returns-clause-copies c =
    let l = c.loop-i in
    all_copied c.args.source.now l.into.table c.args.lists.now l.all.items c.args.used.now.keys l.i c.loop-i-test.false l.invariant.copies
