use Rattle.std.proofs.Common.{◌∙◌}
use Rattle.edits_core.proofs.EditLemmas.{goes_on, makes_more, rows_of}
use Rattle.edits_core.proofs.editing.make_all.Goals as goal

pub loop-line-preserved : goal.loop-line-preserved
loop-line-preserved c =
    let l = c.loop-line in
    let first = c.args.review.now in
    let lines = c.args.lines.now in
    let made = c.in-Ok.ensures.made in
    let baseline = c.in-Ok.ensures.baseline ∙ l.invariant.baseline in
    let ttl = c.in-Ok.ensures.ttl ∙ l.invariant.ttl in
    let rows = rows_of first.baseline c.make.new.review c.in-Ok.count baseline (ttl ∙ c.requires) c.in-Ok.ensures.rows in
    record {
      made = makes_more first.baseline first.edited l.review.edited c.make.new.review.edited lines l.line-index c.line-item.result c.in-Ok.count l.text.items c.append_count.new.out.items c.loop-line-test.true c.line-item.is l.invariant.made made rows c.in_ok-append_count.ensures;
      baseline = baseline;
      ttl = ttl;
      goes = goes_on lines l.line-index c.line-item.result c.loop-line-test.true c.line-item.is l.review.edited _ l.invariant.goes c.make.new.review.edited made;
    }
