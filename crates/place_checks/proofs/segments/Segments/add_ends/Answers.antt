use Rattle.std.proofs.Common.{◌++◌, ◌∷◌, [], map, take, subst, ap, ◌∙◌, arith}
use Rattle.place_checks.specs.Homes.{numbered}
use Rattle.place_checks.specs.Index.{AreEnds}
use Rattle.place_checks.proofs.Firsts.{push_map}
use Rattle.place_checks.proofs.segments.Segments.add_ends.Goals as goal

pub loop-end-preserved : goal.loop-end-preserved
loop-end-preserved c =
    let n = numbered c.args.line in
    let i = c.loop-end.end-index in
    let xs = c.args.ends.now in
    record {
      table = c.in_ok-add.ensures.table ∙ c.loop-end.invariant.table;
      ends = λ ps h.
          (let more = c.in_ok-add.ensures.ends (ps ++ map n (take i xs)) (c.loop-end.invariant.ends ps h) in
          subst (AreEnds c.add.new.self) (ap (λ e. (ps ++ map n (take i xs)) ++ n e ∷ []) c.place_at.ensures ∙ push_map ps xs i c.end-item.result (omega arith) c.end-item.is n) more);
    }
