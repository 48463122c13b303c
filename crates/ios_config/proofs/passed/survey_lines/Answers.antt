use Rattle.std.proofs.Common.{arith}
use Rattle.ios_config.proofs.Folds.{next_parts, same_lengths, same_list_lengths, so_far, first_room, room_next, number_here}
use Rattle.ios_config.proofs.Passings.{first_passed, next_passed, next_refusal, whole}
use Rattle.ios_config.proofs.passed.survey_lines.Goals as goal

pub loop-line-init : goal.loop-line-init
loop-line-init c =
    let s = c.args.survey.now in
    record {
      parts = c.requires.new.parts;
      room = first_room c.args.bytes.now c.args.lines.now s.draft c.requires.size c.requires.lines c.requires.new.parts;
      refusal = c.requires.new.refusal;
      passed = first_passed c.args.bytes.now c.args.lines.now s c.requires.lines c.requires.new.passed c.requires.new.under;
    }

pub effect-requires : goal.effect-requires
effect-requires c = record {
  size = c.requires.size;
  number = number_here c.loop-line.survey.draft.passed c.loop-line.survey.draft.covered c.args.lines.now c.loop-line.line-index c.line-item.result (omega arith) c.line-item.is c.loop-line.invariant.room;
}

pub add-requires : goal.add-requires
add-requires c = record {
  passed = (room_next c.args.bytes.now c.args.lines.now c.loop-line.line-index c.line-item.result c.loop-line.survey.draft c.loop-line.survey.draft c.in_ok-effect.effect c.requires.size (omega arith) c.line-item.is c.in_ok-effect.ensures c.loop-line.invariant.room).0;
  lengths = same_lengths c.loop-line.survey.draft (so_far c.args.bytes.now c.args.lines.now c.loop-line.line-index) c.loop-line.invariant.parts;
  list_lengths = same_list_lengths c.loop-line.survey.draft (so_far c.args.bytes.now c.args.lines.now c.loop-line.line-index) c.loop-line.invariant.parts;
}

pub loop-line-preserved : goal.loop-line-preserved
loop-line-preserved c =
    let bytes = c.args.bytes.now in
    let lines = c.args.lines.now in
    let i = c.loop-line.line-index in
    let l = c.line-item.result in
    let s = c.loop-line.survey in
    let t = c.add.new.self in
    let e = c.in_ok-effect.effect in
    let inv = c.loop-line.invariant in
    let added = c.in_ok-add.ensures in
    record {
      parts = next_parts bytes lines i l s.draft t.draft e (omega arith) c.line-item.is inv.parts c.in_ok-effect.ensures added.parts;
      room = (room_next bytes lines i l s.draft t.draft e c.requires.size (omega arith) c.line-item.is c.in_ok-effect.ensures inv.room).1 added.parts;
      refusal = next_refusal bytes lines i l (omega arith) c.line-item.is s t e inv.parts c.in_ok-effect.ensures added inv.refusal;
      passed = next_passed bytes lines i l (omega arith) c.line-item.is s t e inv.parts c.in_ok-effect.ensures added inv.passed;
    }

pub returns : goal.returns
returns c =
    let s = c.loop-line.survey in
    let inv = c.loop-line.invariant in
    whole c.args.bytes.now c.args.lines.now c.loop-line.line-index s c.requires.lines (omega arith) inv.parts inv.refusal inv.passed
