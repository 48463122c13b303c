use Rattle.std.proofs.Common.{◌∙◌}
use Rattle.acl_match.proofs.entry.all_flags.Goals as goal
use Rattle.acl_match.specs.Cubes.{field}
use Rattle.acl_match.proofs.TestLemmas.{flags_test, no_flags}

pub returns-then-set-clear-ne0 : goal.returns-then-set-clear-ne0
returns-then-set-clear-ne0 c h = no_flags (field 0 8 h) c.args.set c.args.clear c.if-set-clear-ne0.true

pub returns : goal.returns
returns c h =
    let e = c.field_cube.ensures h in
    (rw (c.from.ensures, c.from-2.ensures) at e) ∙ flags_test (field 0 8 h) c.args.set c.args.clear c.if-set-clear-ne0.false
