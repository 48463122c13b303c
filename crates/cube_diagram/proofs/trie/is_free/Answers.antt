use Rattle.std.proofs.Common.{◌≤◌, ◌+◌, arith}
use Rattle.std.specs.Int.Count.{count_trailing_zeros}
use Rattle.std.proofs.lemmas.Bool.Decides.{nat_tests}
use Rattle.cube_diagram.proofs.TrieLemmas.{free_from}
use Rattle.cube_diagram.proofs.trie.is_free.Goals as goal

pub returns-clause-free : goal.returns-clause-free
returns-clause-free c t i l m =
    let e : 112 ≤ c.args.bit + count_trailing_zeros 128 c.args.fixed = grind (arith, nat_tests) in
    free_from c.args.fixed c.args.bit i c.ranges.fixed.fits e l m
