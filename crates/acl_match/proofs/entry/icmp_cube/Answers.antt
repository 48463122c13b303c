use Rattle.acl_match.proofs.entry.icmp_cube.Goals as goal
use Rattle.acl_match.proofs.TestLemmas.{all_test}

pub returns-in-Any : goal.returns-in-Any
returns-in-Any c h = rw c.in-Any.is (all_test c.all.result h c.all.ensures)
