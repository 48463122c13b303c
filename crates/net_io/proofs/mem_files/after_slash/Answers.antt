use Rattle.std.proofs.Common.{arith}
use Rattle.std.proofs.lemmas.Str.Pattern.{strip_prefix_char}
use Rattle.net_io.proofs.Names.{slash_is}
use Rattle.net_io.proofs.mem_files.after_slash.Goals as goal

pub returns : goal.returns
returns c = slash_is _ _ (strip_prefix_char 47 _ _ c.strip_prefix.ensures.cases (omega arith))
