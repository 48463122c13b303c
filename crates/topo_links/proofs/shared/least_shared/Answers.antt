use Rattle.std.proofs.Common.{ℕ, arith, Vec, Global}
use Rattle.topo_links.proofs.LeastShared.{noted, lowered, all_lists}
use Rattle.topo_links.proofs.shared.least_shared.Goals as goal

pub loop-i-preserved : goal.loop-i-preserved
loop-i-preserved c =
    let items = λ (v : Vec ℕ Global). v.items in
    record {
      within = omega arith;
      seen = noted items c.args.lists.now c.loop-i.i c.index-lists-i-in-loop-i.result c.deref-in-loop-i.result.now (omega arith) c.loop-i.invariant.within c.index-lists-i-in-loop-i.is c.deref-in-loop-i.ensures.value c.loop-i.seen.keys c.note.new.seen.keys c.loop-i.invariant.seen c.in_ok-note.ensures;
      least = lowered items c.args.lists.now c.loop-i.i c.index-lists-i.result c.deref.result.now (omega arith) c.loop-i.invariant.within c.index-lists-i.is c.deref.ensures.value c.loop-i.seen.keys c.loop-i.least c.least_seen-least.result c.loop-i.invariant.seen c.loop-i.invariant.least c.least_seen-least.ensures;
    }

pub returns : goal.returns
returns c = all_lists (λ (v : Vec ℕ Global). v.items) c.args.lists.now c.loop-i.i c.loop-i.least c.loop-i-test.false c.loop-i.invariant.least
