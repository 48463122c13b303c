use Rattle.std.proofs.Common.{map, rules}
use Rattle.std.specs.Prelude.{string_bytes}
use Rattle.review_args.specs.Words.{workers, ttl}
use Rattle.review_args.proofs.Walk.{values_more, positional_more, stray_more}
use Rattle.review_args.proofs.parts.Parts.of.Goals as goal

pub loop-word-preserved : goal.loop-word-preserved
loop-word-preserved c =
    let p = c.loop-word.previous.now in
    let w = c.in-Some.word.now in
    let ws = map string_bytes c.in-Some.more.now in
    let rest = map string_bytes c.loop-word.rest.now in
    record {
      positional = positional_more p w _ ws rest _ _ _ (search rules) c.in-Some.ensures.0 c.in-Some.ensures.1 c.in_ok-add.ensures.positional c.loop-word.invariant.positional;
      workers = values_more workers p w _ ws rest _ _ _ (search rules) c.in-Some.ensures.0 c.in-Some.ensures.1 c.in_ok-add.ensures.workers c.loop-word.invariant.workers;
      ttl = values_more ttl p w _ ws rest _ _ _ (search rules) c.in-Some.ensures.0 c.in-Some.ensures.1 c.in_ok-add.ensures.ttl c.loop-word.invariant.ttl;
      stray = stray_more p w _ ws rest _ _ _ (search rules) c.in-Some.ensures.0 c.in-Some.ensures.1 c.in_ok-add.ensures.stray c.loop-word.invariant.stray;
    }
