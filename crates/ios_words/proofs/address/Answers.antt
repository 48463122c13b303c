use Rattle.std.proofs.Common.{◌∙◌}
use Rattle.ios_words.proofs.Addresses.{steps_same}
use Rattle.ios_words.proofs.address.Goals as goal

pub returns : goal.returns
returns c = c.address_by_dots-found.ensures ∙ steps_same c.args.word.now
