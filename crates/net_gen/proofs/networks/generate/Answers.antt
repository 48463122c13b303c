use Rattle.net_gen.proofs.Counts.{few_names}
use Rattle.net_gen.proofs.networks.generate.Goals as goal

pub number_all-requires : goal.number_all-requires
number_all-requires c = rw (c.in_ok-old.ensures, c.in_ok-new.ensures, c.in_ok-table.ensures) (few_names c.args.number c.args.size c.requires.1)
