use Rattle.std.proofs.Common.{ℕ, ◌≡◌, ◌∙◌}
use Rattle.std.proofs.lemmas.Result.{IfOk-weaker}
use Rattle.hdr_bits.specs.CubeBits.{is_in}
use Rattle.net_types.specs.AccessLists.{meets_port}
use Rattle.acl_match.specs.Cubes.{field, any_in}
use Rattle.acl_match.proofs.TestLemmas.{all_test}
use Rattle.acl_match.proofs.ports.port_cubes.Goals as goal

pub returns-in-Any : goal.returns-in-Any
returns-in-Any c =
    IfOk-weaker c.one.result (λ r. (h : ℕ) → any_in r.items h ≡ is_in c.all.result h) (λ r. (h : ℕ) → any_in r.items h ≡ meets_port c.args.test.now (field c.args.shift 16 h)) (λ r f h. f h ∙ (rw c.in-Any.is (all_test c.all.result h c.all.ensures))) c.one.ensures
