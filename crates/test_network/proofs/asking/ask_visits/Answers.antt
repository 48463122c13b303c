use Rattle.test_network.proofs.asking.ask_visits.Goals as goal

pub labels_and_visitors-requires-clause-domain : goal.labels_and_visitors-requires-clause-domain
labels_and_visitors-requires-clause-domain c = c.requires.below

pub labels_and_visitors-requires-clause-within : goal.labels_and_visitors-requires-clause-within
labels_and_visitors-requires-clause-within c h v i = i
