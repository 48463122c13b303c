use Rattle.acl_match.proofs.entry.proto_cube.Goals as goal
use Rattle.acl_match.proofs.TestLemmas.{all_test}

pub returns-in-None : goal.returns-in-None
returns-in-None c h = rw c.in-None.is (all_test c.all.result h c.all.ensures)
