use Rattle.std.proofs.Common.{◌∙◌}
use Rattle.review_args.proofs.Asked.{any_empty}
use Rattle.review_args.proofs.reader.has_empty.Goals as goal

pub returns : goal.returns
returns c = c.any_is_empty-found.ensures ∙ any_empty c.args.words.now
