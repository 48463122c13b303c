use Rattle.net_compare.specs.Walkable.{gives_of}
use Rattle.net_compare.proofs.known.sections_at.Given as goal

abbrev pub ghosts-sections_named-K-Pairing : goal.ghosts-sections_named-K-Pairing
ghosts-sections_named-K-Pairing g a = record { gives = gives_of a.compared.now }

abbrev pub ghosts-sections_named-K-Base : goal.ghosts-sections_named-K-Base
ghosts-sections_named-K-Base g a = record { base = a.table }
