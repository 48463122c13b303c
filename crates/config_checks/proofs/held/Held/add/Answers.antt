use Rattle.std.proofs.Common.{◌∙◌}
use Rattle.std.proofs.lemmas.List.Folds.{list_any-append}
use Rattle.rib_build.proofs.Lookups.{prefix_added}
use Rattle.config_checks.proofs.Lengths.{itself}
use Rattle.config_checks.proofs.held.Held.add.Goals as goal

pub returns : goal.returns
returns c = λ routes of number length.
    rw list_any-append (c.in_ok-insert.ensures.updates.0 (number, length) ∙ prefix_added number length c.first_bits-number.result c.args.route.now.prefix c.args.route.now routes _ (itself c.args.route.now) c.first_bits-number.ensures (of number length))
