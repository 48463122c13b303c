use Rattle.std.proofs.Common.{arith}
use Rattle.ios_lists.proofs.Leads.{ports_next, count_next}
use Rattle.ios_lists.proofs.endpoints.more_ports.Goals as goal

pub loop-word-preserved : goal.loop-word-preserved
loop-word-preserved c = record {
  at = omega arith;
  most = omega arith;
  ports = ports_next c.args.proto c.args.words.now c.loop-word.word-index c.loop-word.count c.in-Some.value c.word-item.result c.loop-word.ports.items c.push.new.self.items _ (omega arith) c.word-item.is (omega arith) (cc) c.in_ok-push.ensures.items c.loop-word.invariant.ports;
  count = count_next c.args.proto c.args.words.now c.loop-word.word-index c.loop-word.count c.in-Some.value _ c.word-item.result (omega arith) c.word-item.is (omega arith) (cc) c.loop-word.invariant.count;
}
