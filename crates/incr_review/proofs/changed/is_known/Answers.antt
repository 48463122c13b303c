use Rattle.std.proofs.Common.{◌-◌, ap, get_or, sym, ◌∙◌, arith}
use Rattle.std.proofs.lemmas.List.{get_or_default}
use Rattle.indexmap.specs.IndexMap.{get}
use Rattle.net_types.specs.World.{same_place}
use Rattle.place_ways.specs.Devices.{place_of}
use Rattle.incr_review.proofs.FirstLemmas.{at_index}
use Rattle.incr_review.proofs.ChangedLemmas.{earlier_there, some_number}
use Rattle.incr_review.proofs.changed.is_known.Goals as goal

pub returns : goal.returns
returns c t =
    let numbers = c.args.numbers.now in
    let i = c.args.i in
    let j = i - 1 in
    let x = get_or numbers j 0 in
    let y = get_or numbers i 0 in
    let some = c.if-i-eq0.false in
    let l = c.requires in
    let there = at_index numbers i y l (get_or_default numbers i 0 y l) in
    record {
      number = x;
      earlier = earlier_there numbers i j x (omega (arith, some)) (omega (arith, l)) (get_or_default numbers j 0 x (omega (arith, l)));
      before = λ n e. c.have_one_list.ensures.before t ∙ ap (λ m. get same_place c.args.change.before.now (place_of c.args.change.device.now m)) (some_number y n (sym there ∙ e));
      after = λ n e. c.have_one_list.ensures.after t ∙ ap (λ m. get same_place c.args.change.after.now (place_of c.args.change.device.now m)) (some_number y n (sym there ∙ e));
    }
