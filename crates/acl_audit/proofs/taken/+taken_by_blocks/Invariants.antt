use Rattle.acl_audit.proofs.taken.+taken_by_blocks.Given as goal

abbrev pub decreases-taken_by_blocks : goal.decreases-taken_by_blocks
decreases-taken_by_blocks l = l.count
