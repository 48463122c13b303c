use Rattle.cube_diagram.proofs.CombineLemmas.{put_known, widened_known}
use Rattle.cube_diagram.proofs.memo.Memo.remember.Goals as goal

pub returns-then-slots-min : goal.returns-then-slots-min
returns-then-slots-min c =
    widened_known c.args.self.now.slots.items _ c.widen.new.self.slots.items c.args.known (put_known c.args.self.now.slots.items c.put.new.slots c.args.self.now.slots.len c.put.ensures.0 c.args.known c.args.self.now.slots.ok.0 (rw c.deref_mut.ensures.value at c.put.ensures.1)) c.widen.ensures

pub returns-else-self-slots : goal.returns-else-self-slots
returns-else-self-slots c =
    put_known c.args.self.now.slots.items c.put.new.slots c.args.self.now.slots.len c.put.ensures.0 c.args.known c.args.self.now.slots.ok.0 (rw c.deref_mut.ensures.value at c.put.ensures.1)
