use Rattle.acl_audit.proofs.taken.+add_taken_by.Given as goal

abbrev pub decreases-add_taken_by : goal.decreases-add_taken_by
decreases-add_taken_by l = l.block.level
