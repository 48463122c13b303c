use Rattle.std.proofs.Common.{ap, ◌∙◌}
use Rattle.net_types.specs.Routes.{prefix_number}
use Rattle.config_checks.specs.Held.{has_key}
use Rattle.config_checks.proofs.Lengths.{any_at}
use Rattle.config_checks.proofs.held.Held.has.Goals as goal

pub returns : goal.returns
returns c = λ routes of.
    let l = c.args.length in
    let a = c.args.address in
    c.contains.ensures ∙ ap (λ n. has_key c.args.self.now n l) c.first_bits.ensures ∙ of (prefix_number l a) l ∙ any_at l a routes
