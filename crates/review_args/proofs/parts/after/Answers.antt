use Rattle.review_args.proofs.Prefixes.{after_is}
use Rattle.review_args.proofs.parts.after.Goals as goal

pub returns : goal.returns
returns c = after_is _ _ _ c.strip_prefix.ensures.cases
