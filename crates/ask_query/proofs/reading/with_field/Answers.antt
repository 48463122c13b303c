use Rattle.std.proofs.lemmas.Nat.{or_lt}
use Rattle.cube_alg.proofs.MaskLemmas.{both_digits}
use Rattle.ask_query.proofs.reading.with_field.Goals as goal

pub invariant_of-result : goal.invariant_of-result
invariant_of-result c =
    let a = c.args.filter.now in
    let b = c.field_cube-cube.result in
    record { below = or_lt 112 a.fixed b.fixed a.below b.below; digits = both_digits a b }
