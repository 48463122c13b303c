use Rattle.steal_pool.proofs.workers.run.Given as goal

abbrev pub ghosts-run_as-K-Call : goal.ghosts-run_as-K-Call
ghosts-run_as-K-Call g a = record { gives = g.S.Meaning.gives a.splitter; roots = a.roots.now }

abbrev pub ghosts-run_as-P-Ledger : goal.ghosts-run_as-P-Ledger
ghosts-run_as-P-Ledger g a = record { name = a.puts.name; parts = a.puts.parts }

abbrev pub ghosts-run_as-T-Ledger : goal.ghosts-run_as-T-Ledger
ghosts-run_as-T-Ledger g a = record { name = a.turns.name; parts = a.turns.parts }
