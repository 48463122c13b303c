use Rattle.std.proofs.Common.{arith, rules}
use Rattle.ios_config.proofs.EntriesFound.{first_found, next_found, all_found}
use Rattle.ios_config.proofs.Folds.{next_parts, same_lengths, same_list_lengths, so_far, first_room, room_next, number_here}
use Rattle.ios_config.proofs.entries.entries_by.Goals as goal

pub loop-line-init : goal.loop-line-init
loop-line-init c = record {
  parts = search rules;
  room = first_room c.args.bytes.now c.args.lines.now c.args.draft.now c.requires.size c.requires.lines c.requires.draft;
  found = first_found c.args.bytes.now c.args.lines.now c.args.found.now.items c.requires.lines c.requires.found;
}

pub effect-requires : goal.effect-requires
effect-requires c = record {
  size = c.requires.size;
  number = number_here c.loop-line.draft.passed c.loop-line.draft.covered c.args.lines.now c.loop-line.line-index c.line-item.result (omega arith) c.line-item.is c.loop-line.invariant.room;
}

pub apply-requires : goal.apply-requires
apply-requires c = record {
  passed = (room_next c.args.bytes.now c.args.lines.now c.loop-line.line-index c.line-item.result c.loop-line.draft c.loop-line.draft c.in_ok-effect.effect c.requires.size (omega arith) c.line-item.is c.in_ok-effect.ensures c.loop-line.invariant.room).0;
  lengths = same_lengths c.loop-line.draft (so_far c.args.bytes.now c.args.lines.now c.loop-line.line-index) c.loop-line.invariant.parts;
  list_lengths = same_list_lengths c.loop-line.draft (so_far c.args.bytes.now c.args.lines.now c.loop-line.line-index) c.loop-line.invariant.parts;
}

pub loop-line-preserved : goal.loop-line-preserved
loop-line-preserved c =
    let bytes = c.args.bytes.now in
    let lines = c.args.lines.now in
    let i = c.loop-line.line-index in
    let l = c.line-item.result in
    let d = c.loop-line.draft in
    let e = c.in_ok-effect.effect in
    let inv = c.loop-line.invariant in
    record {
      parts = next_parts bytes lines i l d c.apply.new.self e (omega arith) c.line-item.is inv.parts c.in_ok-effect.ensures c.in_ok-apply.ensures;
      room = (room_next bytes lines i l d c.apply.new.self e c.requires.size (omega arith) c.line-item.is c.in_ok-effect.ensures inv.room).1 c.in_ok-apply.ensures;
      found = next_found bytes lines i l d e c.loop-line.found.items c.note_entry.new.found.items (omega arith) c.line-item.is inv.parts c.in_ok-effect.ensures c.in_ok-note_entry.ensures inv.found;
    }

pub returns : goal.returns
returns c = all_found c.args.bytes.now c.args.lines.now c.loop-line.line-index c.loop-line.found.items (omega arith) c.loop-line.invariant.found
