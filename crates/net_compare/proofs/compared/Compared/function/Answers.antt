use Rattle.std.proofs.Common.{List, length, Option, refl, sym, ap, subst}
use Rattle.std.proofs.lemmas.Option.{slice_get_past, slice_get_read}
use Rattle.net_types.specs.declared.network.Place.{Place}
use Rattle.net_view.specs.Borrowed.{world_of}
use Rattle.pair_rows.specs.Functions.{IsFunctionOf}
use Rattle.net_compare.specs.Slots.{affected_at}
use Rattle.net_compare.specs.Walkable.{gives_of}
use Rattle.net_compare.proofs.compared.Compared.function.Goals as goal

pub returns-in_ok-none-in-None-clause-given : goal.returns-in_ok-none-in-None-clause-given
returns-in_ok-none-in-None-clause-given c =
    let self = c.args.self.now in
    let past = slice_get_past self.ingress.now c.args.slot c.in-None.ensures.lookup.3 in
    c.in_ok-none-in-None.ensures (gives_of self c.args.slot)
    (λ h l. ap (λ (o : Option Place). affected_at (world_of self.old.now.world) (world_of self.new.now.world) self.ttl o h) past)

pub returns-in_ok-given-in-Some-clause-given : goal.returns-in_ok-given-in-Some-clause-given
returns-in_ok-given-in-Some-clause-given c =
    let self = c.args.self.now in
    let place = c.in-Some.place.now in
    let ingress : List Place = self.ingress.now in
    let there = slice_get_read ingress (length ingress) c.args.slot place refl c.in-Some.ensures.lookup.3.0 (c.in-Some.ensures.lookup.3.1 place) in
    subst (λ (o : Option Place). IsFunctionOf (affected_at (world_of self.old.now.world) (world_of self.new.now.world) self.ttl o) c.in_ok-given-in-Some.given) (sym there) c.in_ok-given-in-Some.ensures.given
