use Rattle.test_network.proofs.asking.ask_parts.Goals as goal

pub ask_forms-requires : goal.ask_forms-requires
ask_forms-requires c = record { old = c.requires.parts.old; new = c.requires.parts.new; like = c.requires.parts.like }
