use Rattle.std.proofs.Common.{subst, sym, ◌≡◌, ◌≤◌, ◌<◌, ◌-◌, ◌∙◌, length, ap, arith, Some, slice_get}
use Rattle.loop_search.specs.declared.search.Level.{Level}
use Rattle.loop_search.specs.Looping.{AreLevels}
use Rattle.loop_search.proofs.WayLemmas.{length_more, at_position}
use Rattle.loop_search.proofs.LoopLemmas.{round_more}
use Rattle.loop_search.proofs.search.with_rounds.Goals as goal

pub loop-n-preserved : goal.loop-n-preserved
loop-n-preserved c =
    let n = c.loop-n.n in
    let xs = c.loop-n.all.items in
    let old = c.args.levels.items in
    let x : Level = c.index.result.now in
    let l : Level = record { groups = c.in_ok-groups.groups } in
    let before : length old ≤ n = c.loop-n.invariant.before in
    let count = c.loop-n.invariant.count in
    let round : c.from.result ≡ c.args.round = c.from.ensures in
    let less : n - c.from.result < length xs = omega (arith, round, count, before, c.requires.before, c.requires.round) in
    let at = subst (λ r. slice_get xs (n - r) ≡ Some x) round (at_position xs (n - c.from.result) x less c.index.ensures) in
    let same = c.in_ok-groups.ensures ∙ c.deref.ensures.value in
    record {
      count = ap length c.in_ok-push.ensures.items ∙ length_more xs l n count;
      before = omega (arith, before);
      levels = λ w start fs domain p all again. subst (λ ls. AreLevels w start domain p fs ls) (sym c.in_ok-push.ensures.items) (round_more w start fs domain p (length old) c.args.round n xs x l count before c.requires.before again at same (c.loop-n.invariant.levels w start fs domain p all again));
    }
