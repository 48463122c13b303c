use Rattle.std.proofs.Common.{◌^◌, ◌/◌, ◌∙◌, arith}
use Rattle.acl_match.proofs.entry.address_cube.Goals as goal
use Rattle.std.proofs.lemmas.Nat.{mod_below}
use Rattle.acl_match.specs.Cubes.{field}
use Rattle.acl_match.proofs.TestLemmas.{masked_test}

pub returns : goal.returns
returns c h =
    let m = c.args.m.now in
    c.field_cube.ensures h ∙ masked_test (field c.args.shift 32 h) m.value m.wild (mod_below (h / 2 ^ c.args.shift) (2 ^ 32) (omega arith)) (omega arith) (omega arith)
