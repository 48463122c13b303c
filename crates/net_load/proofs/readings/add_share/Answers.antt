use Rattle.net_load.specs.Texts.{IsReadAt}
use Rattle.net_load.proofs.ReadingLemmas.{front_items, last_item}
use Rattle.net_load.proofs.readings.add_share.Goals as goal

pub loop-read-preserved : goal.loop-read-preserved
loop-read-preserved c =
    let i = c.loop-read.invariant in
    let items = c.in-Some.ensures.items in
    record {
      rest = λ texts all. front_items (IsReadAt texts) c.loop-read.share.items c.pop.new.self.items c.in-Some.read items (i.rest texts all);
      known = λ texts all before. c.put.ensures texts (last_item (IsReadAt texts) c.loop-read.share.items c.pop.new.self.items c.in-Some.read items (i.rest texts all)) (i.known texts all before);
    }
