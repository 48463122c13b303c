use Rattle.std.proofs.Common.{◌≡◌, [], sym, ◌∙◌, arith, rules, subst}
use Rattle.std.specs.Prelude.{Some}
use Rattle.ios_config.specs.Reads.{effects_after, early}
use Rattle.ios_config.proofs.Folds.{refused_here, next_parts, next_early, not_refused, same_lengths, same_list_lengths, so_far, first_room, room_next, number_here}
use Rattle.ios_config.proofs.reader.add_lines.Goals as goal

pub loop-line-init : goal.loop-line-init
loop-line-init c = record {
  early = search rules;
  parts = search rules;
  room = first_room c.args.bytes.now c.args.lines.now c.args.draft.now c.requires.size c.requires.lines c.requires.draft;
}

pub effect-requires : goal.effect-requires
effect-requires c = record {
  size = c.requires.size;
  number = number_here c.loop-line.draft.passed c.loop-line.draft.covered c.args.lines.now c.loop-line.line-index c.line-item.result (omega arith) c.line-item.is c.loop-line.invariant.room;
}

pub returns-in-Refused : goal.returns-in-Refused
returns-in-Refused c = subst (λ ls. early (effects_after c.args.bytes.now [] ls) ≡ Some c.in-Refused.refusal) c.requires.lines
    (refused_here c.args.bytes.now c.args.lines.now c.loop-line.line-index c.line-item.result c.loop-line.draft c.in-Refused.refusal (omega arith) c.line-item.is c.loop-line.invariant.early c.loop-line.invariant.parts (sym c.in-Refused.is ∙ c.in_ok-effect.ensures))

pub apply-requires : goal.apply-requires
apply-requires c = record {
  passed = (room_next c.args.bytes.now c.args.lines.now c.loop-line.line-index c.line-item.result c.loop-line.draft c.loop-line.draft c.in_ok-effect.effect c.requires.size (omega arith) c.line-item.is c.in_ok-effect.ensures c.loop-line.invariant.room).0;
  lengths = same_lengths c.loop-line.draft (so_far c.args.bytes.now c.args.lines.now c.loop-line.line-index) c.loop-line.invariant.parts;
  list_lengths = same_list_lengths c.loop-line.draft (so_far c.args.bytes.now c.args.lines.now c.loop-line.line-index) c.loop-line.invariant.parts;
}

pub loop-line-preserved : goal.loop-line-preserved
loop-line-preserved c =
    record {
      early = next_early c.args.bytes.now c.args.lines.now c.loop-line.line-index c.line-item.result c.loop-line.draft c.in_ok-effect.effect (omega arith) c.line-item.is c.loop-line.invariant.parts c.in_ok-effect.ensures c.loop-line.invariant.early (not_refused c.in_ok-effect.effect c.in_default.not-Refused);
      parts = next_parts c.args.bytes.now c.args.lines.now c.loop-line.line-index c.line-item.result c.loop-line.draft c.apply.new.self c.in_ok-effect.effect (omega arith) c.line-item.is c.loop-line.invariant.parts c.in_ok-effect.ensures c.in_ok-apply.ensures;
      room = (room_next c.args.bytes.now c.args.lines.now c.loop-line.line-index c.line-item.result c.loop-line.draft c.apply.new.self c.in_ok-effect.effect c.requires.size (omega arith) c.line-item.is c.in_ok-effect.ensures c.loop-line.invariant.room).1 c.in_ok-apply.ensures;
    }
