use Rattle.std.proofs.lemmas.Result.{IfOk-from_err}
use Rattle.std.proofs.Common.{subst, sym}
use Rattle.hdr_bits.proofs.ListLemmas.{extends_then}
use Rattle.cube_diagram.specs.Absorbed.{IsAbsorbed}
use Rattle.cube_diagram.proofs.AbsorbedLemmas.{absorbed_more, all_absorbed_grow, count_more}
use Rattle.cube_diagram.proofs.absorbed.absorbed.Goals as goal

pub loop-i-preserved : goal.loop-i-preserved
loop-i-preserved c =
    let inv = c.loop-i.invariant in
    let s = c.args.source.now.nodes.items in
    let told = c.args.told.now in
    let old = c.loop-i.tables.table.nodes.items in
    let new = c.absorbed_at.new.tables.table.nodes.items in
    let numbers = c.loop-i.numbers.items in
    let w = c.in_ok-number.number in
    let made = c.in_ok-number.ensures in
    record {
      sound = made.sound;
      grows = extends_then c.args.tables.now.table.nodes.items old new inv.grows made.grows;
      count = rw c.in_ok-push.ensures.items (count_more numbers w c.loop-i.i inv.count);
      absorbed = rw c.in_ok-push.ensures.items (absorbed_more s told new numbers w (all_absorbed_grow s told old new numbers made.grows inv.absorbed) (subst (λ z. IsAbsorbed s told new z w) (sym inv.count) made.absorbed));
    }

pub returns-in_err-number-clause-grows : goal.returns-in_err-number-clause-grows
returns-in_err-number-clause-grows c = extends_then _ _ _ c.loop-i.invariant.grows c.in_err-number.ensures.grows

pub returns-in_err-push-clause-grows : goal.returns-in_err-push-clause-grows
returns-in_err-push-clause-grows c = extends_then _ _ _ c.loop-i.invariant.grows c.in_ok-number.ensures.grows

pub returns-in_err-numbers-clause-count : goal.returns-in_err-numbers-clause-count
returns-in_err-numbers-clause-count c = IfOk-from_err _ _ c.from_residual.ensures.0

pub returns-in_err-number-clause-count : goal.returns-in_err-number-clause-count
returns-in_err-number-clause-count c = IfOk-from_err _ _ c.from_residual-in_err-number.ensures.0

pub returns-in_err-number-clause-absorbed : goal.returns-in_err-number-clause-absorbed
returns-in_err-number-clause-absorbed c = IfOk-from_err _ _ c.from_residual-in_err-number.ensures.0

pub returns-in_err-push-clause-count : goal.returns-in_err-push-clause-count
returns-in_err-push-clause-count c = IfOk-from_err _ _ c.from_residual-in_err-push.ensures.0

pub returns-in_err-push-clause-absorbed : goal.returns-in_err-push-clause-absorbed
returns-in_err-push-clause-absorbed c = IfOk-from_err _ _ c.from_residual-in_err-push.ensures.0
