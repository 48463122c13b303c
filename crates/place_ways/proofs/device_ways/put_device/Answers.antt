use Rattle.std.proofs.Common.{take, take_all, get_or, subst, sym, ◌+◌}
use Rattle.std.specs.Prelude.{Contains}
use Rattle.std.proofs.lemmas.List.{get_or_default}
use Rattle.hdr_bits.proofs.ListLemmas.{extends_none, extends_then}
use Rattle.indexmap.specs.IndexMap.{get}
use Rattle.net_types.specs.World.{same_place}
use Rattle.place_ways.specs.Devices.{HaveSeatPositions}
use Rattle.place_ways.proofs.SetLemmas.{keeps_same, keeps_then, kept_below}
use Rattle.place_ways.proofs.BaseLemmas.{no_bases}
use Rattle.place_ways.proofs.DeviceLemmas.{device_put, no_numbers, others_same, others_then, positions_more, put_others, wired_kept}
use Rattle.place_ways.proofs.device_ways.put_device.Goals as goal

pub loop-number-init : goal.loop-number-init
loop-number-init c =
    let x = c.args.at in
    let lists = c.args.ways.now.lists.items in
    record {
      kept = keeps_same c.args.table.now;
      lists = extends_none lists;
      bases = no_bases x.wiring.now c.args.table.now x.scope lists x.device.now;
      seats = no_numbers x.wiring.now c.args.table.now x.scope lists x.device.now (get same_place c.args.ways.now.positions);
      others = others_same x.device.now (get same_place c.args.ways.now.positions);
    }

pub put_seat-requires-clause-at : goal.put_seat-requires-clause-at
put_seat-requires-clause-at c = wired_kept c.args.table.now c.loop-number.table c.args.at c.loop-number.invariant.kept c.requires

pub put_seat-requires-clause-bases : goal.put_seat-requires-clause-bases
put_seat-requires-clause-bases c = c.loop-number.invariant.bases

pub loop-number-preserved : goal.loop-number-preserved
loop-number-preserved c =
    let x = c.args.at in
    let w = x.wiring.now in
    let d = x.device.now in
    let l = c.loop-number in
    let i = l.invariant in
    let o = c.in_ok-put_seat.ensures in
    let f = c.args.table.now in
    let g = c.put_seat.new.table in
    let xs = c.as_slice-number-items.result.now in
    let same = c.as_slice-number-items.ensures in
    let n = get_or xs l.number-index 0 in
    let lists = l.ways.lists.items in
    let more = c.put_seat.new.ways.lists.items in
    let at = get same_place l.ways.positions in
    let new = get same_place c.put_seat.new.ways.positions in
    let before = subst (λ ys. HaveSeatPositions w l.table x.scope lists d (Contains (take l.number-index ys)) at) (sym same) i.seats in
    let after = positions_more w l.table g x.scope lists more d xs l.number-index n at new o.kept (kept_below f l.table x.scope i.kept c.requires.scope) o.lists c.loop-number-test.true (get_or_default xs l.number-index 0 n c.loop-number-test.true) o.put before in
    record {
      kept = keeps_then f l.table g i.kept o.kept;
      lists = extends_then c.args.ways.now.lists.items lists more i.lists o.lists;
      bases = o.bases;
      seats = subst (λ ys. HaveSeatPositions w g x.scope more d (Contains (take (l.number-index + 1) ys)) new) same after;
      others = others_then d (get same_place c.args.ways.now.positions) at new i.others (put_others w g x.scope more d n at new o.put);
    }

pub returns-clause-put : goal.returns-clause-put
returns-clause-put c =
    let x = c.args.at in
    let w = x.wiring.now in
    let l = c.loop-number in
    let d = x.device.now in
    let at = get same_place l.ways.positions in
    let lists = l.ways.lists.items in
    let xs = c.as_slice-number-items.result.now in
    let same = c.as_slice-number-items.ensures in
    let whole = take_all l.number-index xs c.loop-number-test.false in
    let some = subst (λ ys. HaveSeatPositions w l.table x.scope lists d (Contains (take l.number-index ys)) at) (sym same) l.invariant.seats in
    let all = subst (λ ys. HaveSeatPositions w l.table x.scope lists d (Contains ys) at) same (subst (λ ys. HaveSeatPositions w l.table x.scope lists d (Contains ys) at) whole some) in
    device_put w l.table x.scope lists d (get same_place c.args.ways.now.positions) at all l.invariant.others
