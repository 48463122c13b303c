use Rattle.std.proofs.Common.{rules, ◌≡◌, min, arith}
use Rattle.cube_diagram.proofs.EntryLemmas.{alike_more, alike_all}
use Rattle.cube_diagram.proofs.entry.shared_bits.Goals as goal

pub loop-c-preserved : goal.loop-c-preserved
loop-c-preserved c =
    let v = c.loop-c.invariant in
    let m : c.min-shared.result ≡ min c.loop-c.shared c.alike_bits.result = search rules in
    let w = v.within in
    record {
      within = omega (arith, m, w);
      alike = alike_more c.args.first.now c.args.cubes.now c.loop-c.c-index c.loop-c.shared c.alike_bits.result c.min-shared.result c.c-item.result c.loop-c-test.true c.c-item.is m v.alike c.alike_bits.ensures.alike;
    }

pub returns-clause-alike : goal.returns-clause-alike
returns-clause-alike c = alike_all c.args.first.now c.args.cubes.now c.loop-c.c-index c.loop-c.shared (λ l. let m = c.loop-c-test.false in omega (arith, l, m)) c.loop-c.invariant.alike
