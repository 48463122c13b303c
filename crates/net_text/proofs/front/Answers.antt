use Rattle.std.proofs.Common.{sym, arith}
use Rattle.std.proofs.lemmas.List.{take_all}
use Rattle.net_text.proofs.front.Goals as goal

pub returns-then-bytes-le-WORD_LIMIT : goal.returns-then-bytes-le-WORD_LIMIT
returns-then-bytes-le-WORD_LIMIT c = sym (take_all 64 c.args.bytes.now (omega arith))
