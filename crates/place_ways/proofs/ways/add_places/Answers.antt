use Rattle.std.proofs.Common.{take_all, get_or, subst}
use Rattle.std.proofs.lemmas.List.{get_or_default}
use Rattle.hdr_bits.proofs.ListLemmas.{extends_none, extends_then}
use Rattle.indexmap.specs.IndexMap.{get}
use Rattle.net_types.specs.World.{same_place}
use Rattle.net_view.specs.Borrowed.{world_of}
use Rattle.place_ways.specs.Places.{AreDone, IsNumbered}
use Rattle.place_ways.proofs.SetLemmas.{keeps_same, keeps_then}
use Rattle.place_ways.proofs.BaseLemmas.{no_bases}
use Rattle.place_ways.proofs.PlaceLemmas.{done_more, none_done, scoped_kept}
use Rattle.place_ways.proofs.ways.add_places.Goals as goal

pub loop-number-init : goal.loop-number-init
loop-number-init c =
    let w = world_of c.args.network.form.now.world in
    record {
      kept = keeps_same c.args.table.now;
      lists = extends_none c.args.ways.now.lists.items;
      right = c.requires.right;
      done = none_done w c.args.name (get same_place c.args.ways.now.positions);
      losing = λ p e. e;
      bases = λ d e. no_bases w c.args.table.now c.args.network.scope c.args.ways.now.lists.items d;
    }

pub add_place-requires-clause-network : goal.add_place-requires-clause-network
add_place-requires-clause-network c = scoped_kept c.args.table.now c.loop-number.table c.args.network c.loop-number.invariant.kept c.requires.network

pub add_place-requires-clause-bases : goal.add_place-requires-clause-bases
add_place-requires-clause-bases c = c.loop-number.invariant.bases

pub add_place-requires-clause-right : goal.add_place-requires-clause-right
add_place-requires-clause-right c = c.loop-number.invariant.right

pub loop-number-preserved : goal.loop-number-preserved
loop-number-preserved c =
    let w = world_of c.args.network.form.now.world in
    let l = c.loop-number in
    let i = l.invariant in
    let o = c.in_ok-add_place.ensures in
    let xs = c.args.numbers.now in
    let n = get_or xs l.number-index 0 in
    record {
      kept = keeps_then c.args.table.now l.table c.add_place.new.table i.kept o.kept;
      lists = extends_then c.args.ways.now.lists.items l.ways.lists.items c.add_place.new.ways.lists.items i.lists o.lists;
      right = o.right;
      done = done_more w c.args.name xs l.number-index n (get same_place l.ways.positions) (get same_place c.add_place.new.ways.positions) c.loop-number-test.true (get_or_default xs l.number-index 0 n c.loop-number-test.true) o.losing o.done i.done;
      losing = λ p e. i.losing p (o.losing p e);
      bases = o.bases;
    }

pub returns-clause-right : goal.returns-clause-right
returns-clause-right c = c.loop-number.invariant.right

pub returns-clause-done : goal.returns-clause-done
returns-clause-done c =
    let l = c.loop-number in
    subst (λ xs. AreDone (world_of c.args.network.form.now.world) (get same_place l.ways.positions) (IsNumbered c.args.name xs)) (take_all l.number-index c.args.numbers.now c.loop-number-test.false) l.invariant.done
