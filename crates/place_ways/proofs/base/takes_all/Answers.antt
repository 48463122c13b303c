use Rattle.std.proofs.Common.{◌∙◌, sym}
use Rattle.net_view.specs.Borrowed.{seat_of}
use Rattle.place_ways.proofs.BaseLemmas.{all_taken}
use Rattle.place_ways.proofs.base.takes_all.Goals as goal

pub where_passed-requires-clause-list : goal.where_passed-requires-clause-list
where_passed-requires-clause-list c = c.requires.form.input.below

pub returns-clause-same : goal.returns-clause-same
returns-clause-same c same =
    let s = c.args.at in
    let p = c.in_ok-passed in
    all_taken s.wiring.now c.args.table.now c.where_passed.new.table (seat_of s.seat) s.form.input s.scope p.passed c.requires.form.input (sym c.is_enabled.ensures ∙ c.if-not-is_enabled.false) (sym c.is_outside.ensures ∙ c.if-is_outside.false) p.ensures.set.exact same

pub where_passed-requires-clause-given : goal.where_passed-requires-clause-given
where_passed-requires-clause-given c = c.requires.scope
