use Rattle.std.proofs.Common.{◌<◌, ◌∙◌, length, subst, sym, arith}
use Rattle.std.proofs.lemmas.Option.{slice_get_within}
use Rattle.set_walk.specs.declared.net.PlaceWays.{PlaceWays}
use Rattle.set_walk.proofs.ToldLemmas.{get_is}
use Rattle.place_ways.specs.Seats.{AreWaysIn}
use Rattle.place_ways.proofs.BaseLemmas.{base_ways}
use Rattle.place_ways.proofs.base.add_own.Goals as goal

pub index-requires : goal.index-requires
index-requires c =
    let l : c.args.base < length c.args.lists.now.items = slice_get_within c.args.lists.now.items c.args.base c.requires.base.ways c.requires.base.there in
    omega (arith, l)

pub ways_by-requires-clause-base : goal.ways_by-requires-clause-base
ways_by-requires-clause-base c =
    let s = c.args.at in
    let b = c.requires.base in
    let same = c.index.ensures ∙ get_is c.args.lists.now.items c.args.base b.ways c.index.result.now b.there in
    subst (AreWaysIn c.args.table.now s) (sym c.deref.ensures.value) (subst (λ (x : PlaceWays). AreWaysIn c.args.table.now s x.ways.items) (sym same) (base_ways c.args.table.now s c.args.lists.now.items c.args.base b))

pub returns-clause-ways : goal.returns-clause-ways
returns-clause-ways c =
    record { ways = record { ways = c.in_ok-ways.ways }; there = c.in_ok-position.ensures.there; given = c.in_ok-ways.ensures.given; moves = c.in_ok-ways.ensures.moves }
