use Rattle.acl_match.proofs.diagram.add_list.Goals as goal
use Rattle.std.proofs.Common.{◌∙◌, ap, Some}
use Rattle.std.specs.Option.{option_copied}
use Rattle.hdr_bits.specs.HeaderBits.{number}
use Rattle.acl_match.specs.Lists.{number_of}
use Rattle.acl_match.proofs.NumberLemmas.{of_list}

pub returns-clause-exact : goal.returns-clause-exact
returns-clause-exact c h fits =
    c.in_ok-function.ensures.exact (number h) ∙ ap (λ b. Some (number_of b)) (of_list (option_copied c.args.list) c.entries_of.result.now h c.entries_of.ensures fits)
