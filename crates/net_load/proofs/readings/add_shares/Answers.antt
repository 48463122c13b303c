use Rattle.std.proofs.Common.{subst}
use Rattle.net_load.specs.Texts.{IsShareOf}
use Rattle.net_load.proofs.ReadingLemmas.{front_items, last_item}
use Rattle.net_load.proofs.readings.add_shares.Goals as goal

pub loop-share-preserved-in-Some-share : goal.loop-share-preserved-in-Some-share
loop-share-preserved-in-Some-share c =
    let i = c.loop-share.invariant in
    let items = c.in-Some.ensures.items in
    record {
      rest = λ texts all. front_items (IsShareOf texts) c.loop-share.shares.items c.pop.new.self.items c.in-Some.share items (i.rest texts all);
      known = λ texts all before. c.add_share.ensures texts (subst (IsShareOf texts) c.in-Some-share.is (last_item (IsShareOf texts) c.loop-share.shares.items c.pop.new.self.items c.in-Some.share items (i.rest texts all))) (i.known texts all before);
    }

pub loop-share-preserved : goal.loop-share-preserved
loop-share-preserved c =
    let i = c.loop-share.invariant in
    record {
      rest = λ texts all. front_items (IsShareOf texts) c.loop-share.shares.items c.pop.new.self.items c.in-Some.share c.in-Some.ensures.items (i.rest texts all);
      known = i.known;
    }
