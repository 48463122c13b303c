use Rattle.std.proofs.Common.{◌≡◌, ◌*◌, ◌/◌, ◌%◌, ◌^◌, ◌∙◌, arith}
use Rattle.std.proofs.lemmas.Nat.{one_shl, mod_below}
use Rattle.acl_match.proofs.FieldLemmas.{block_test, positive}
use Rattle.acl_match.proofs.fields.block_cube.Goals as goal

pub returns : goal.returns
returns c h =
    let b = c.args.block.now in
    let s : 1 * 2 ^ b.width % 2 ^ 32 ≡ 2 ^ b.width = one_shl b.width 32 (omega (arith, b.width_small)) in
    let p = positive b.width in
    let e = c.field_cube.ensures h in
    (rw s at e) ∙ block_test (h / 2 ^ c.args.shift % 2 ^ 16) b.first b.width (mod_below (h / 2 ^ c.args.shift) (2 ^ 16) (omega arith)) (omega (arith, b.below, p)) b.width_small b.aligned
