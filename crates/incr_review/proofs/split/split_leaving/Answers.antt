use Rattle.std.proofs.Common.{sym, subst, List, take}
use Rattle.std.specs.Prelude.{filter}
use Rattle.set_walk.proofs.SetLemmas.{keeps_same, keeps_then, kept_below}
use Rattle.incr_review.specs.declared.regions.Region.{Region}
use Rattle.incr_review.specs.Again.{leaves}
use Rattle.incr_review.specs.Split.{ArePieces, is_in, is_out}
use Rattle.incr_review.proofs.RegionLemmas.{step_kept, step_left}
use Rattle.incr_review.proofs.SplitLemmas.{in_exact, no_pieces, out_exact, pieces_more}
use Rattle.incr_review.proofs.split.split_leaving.Goals as goal
use Rattle.incr_review.proofs.split.split_leaving.Goals.{then-not-stays+in_ok-split_region, else-not-stays}

pub loop-region-init : goal.loop-region-init
loop-region-init c =
    let f = c.args.table.now in
    rw (c.new.ensures.items, c.new-2.ensures.items) record { outside = no_pieces f (is_out f c.args.set); inside = no_pieces f (is_in f c.args.set); kept = keeps_same f }

pub split_region-requires-clause-region : goal.split_region-requires-clause-region
split_region-requires-clause-region c =
    kept_below c.args.table.now c.loop-region.table c.region-item.result.headers c.loop-region.invariant.kept (c.requires.below c.region-item.result (c.loop-region.region-index, c.loop-region-test.true, sym c.region-item.is))

pub split_region-requires-clause-set : goal.split_region-requires-clause-set
split_region-requires-clause-set c = kept_below c.args.table.now c.loop-region.table c.args.set c.loop-region.invariant.kept c.requires.set

pub loop-region-preserved : goal.loop-region-preserved
loop-region-preserved c =
    let rs = c.args.regions.now in
    let d = c.args.device in
    let i = c.loop-region.region-index in
    let r = c.region-item.result in
    let f = c.args.table.now in
    let e = c.loop-region.table in
    let lr = c.requires.below r (i, c.loop-region-test.true, sym c.region-item.is) in
    let old = c.loop-region.invariant in
    let bs = filter (leaves d) (take i rs) in
    elim c.if-not-stays.branch [
      | then-not-stays+in_ok-split_region w ↦ (
          let g = w.split_region.new.table in
          let taken = step_left d rs i r c.loop-region-test.true c.region-item.is (sym w.if-not-stays.ensures) in
          let o = w.in_ok-split_region.ensures in
          let out = pieces_more f e g (is_out f c.args.set) bs r c.loop-region.split.outside.items w.split_region.new.split.outside.items old.kept o.kept lr old.outside o.outside.headers o.outside.below (out_exact f e g r c.args.set old.kept lr c.requires.set o.outside.headers o.outside.exact) o.outside.adds in
          let within = pieces_more f e g (is_in f c.args.set) bs r c.loop-region.split.inside.items w.split_region.new.split.inside.items old.kept o.kept lr old.inside o.inside.headers o.inside.below (in_exact f e g r c.args.set old.kept lr c.requires.set o.inside.headers o.inside.exact) o.inside.adds in
          rw (w.table-is, w.split-is) record {
            outside = subst (λ (bs : List Region). ArePieces f bs (is_out f c.args.set) g w.split_region.new.split.outside.items) (sym taken) out;
            inside = subst (λ (bs : List Region). ArePieces f bs (is_in f c.args.set) g w.split_region.new.split.inside.items) (sym taken) within;
            kept = keeps_then f e g old.kept o.kept;
          })
      | else-not-stays w ↦ (
          let taken = step_kept d rs i r c.loop-region-test.true c.region-item.is (sym w.if-not-stays.ensures) in
          rw (w.table-is, w.split-is) record {
            outside = subst (λ (bs : List Region). ArePieces f bs (is_out f c.args.set) e c.loop-region.split.outside.items) (sym taken) old.outside;
            inside = subst (λ (bs : List Region). ArePieces f bs (is_in f c.args.set) e c.loop-region.split.inside.items) (sym taken) old.inside;
            kept = old.kept;
          })
    ]
