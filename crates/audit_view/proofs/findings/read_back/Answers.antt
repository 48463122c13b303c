use Rattle.std.proofs.Common.{◌-◌, arith, length}
use Rattle.audit_view.proofs.Reading.{first_behind, next_behind, all_behind}
use Rattle.audit_view.proofs.findings.read_back.Goals as goal

pub loop-at-init : goal.loop-at-init
loop-at-init c = record {
  within = omega arith;
  read = first_behind c.args.lines.now (length c.args.lines.now) c.nothing-behind.result (omega arith) c.nothing-behind.ensures;
}

pub loop-at-preserved : goal.loop-at-preserved
loop-at-preserved c =
    let l = c.loop-at in
    let within = l.invariant.within in
    record {
      within = omega (arith, within);
      read = next_behind c.args.lines.now (l.at - 1) l.at _ c.said_of.result l.behind c.add.new.self (omega arith) (omega (arith, within)) c.said_of.ensures c.in_ok-add.ensures l.invariant.read;
    }

pub returns : goal.returns
returns c = all_behind c.args.lines.now c.loop-at.at c.loop-at.behind (omega arith) c.loop-at.invariant.read
