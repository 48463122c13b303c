use Rattle.std.proofs.Common.{arith, ◌-◌, ◌/◌, ◌^◌, ◌≤◌, subst}
use Rattle.std.specs.Int.Count.{count_trailing_zeros}
use Rattle.cube_diagram.proofs.EntryLemmas.{open_behind}
use Rattle.cube_diagram.proofs.entry.behind_last_fixed.Goals as goal

pub returns-clause-open : goal.returns-clause-open
returns-clause-open c i l m =
    let least = c.min-open.ensures in
    let all : c.min-open.result ≤ count_trailing_zeros 128 (c.args.fixed / 2 ^ (112 - c.from.result)) = omega (arith, least) in
    let at = subst (λ k. c.min-open.result ≤ count_trailing_zeros 128 (c.args.fixed / 2 ^ (112 - k))) c.from.ensures all in
    open_behind c.args.fixed c.args.to c.min-open.result i c.ranges.fixed.fits c.requires.within at l m
