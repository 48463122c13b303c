use Rattle.std.proofs.Common.{arith}
use Rattle.class_store.proofs.ClassLemmas.{cell_within, alone_passed}
use Rattle.class_store.proofs.store.ClassStore.same_cell.Goals as goal

pub cell-requires-clause-offset : goal.cell-requires-clause-offset
cell-requires-clause-offset c =
    let one = c.args.one.now in
    let w = cell_within c.args.self.now one c.in-Cell.known c.requires.one c.in-Cell.is in
    omega (arith, w, c.len.ensures)

pub unreachable-requires : goal.unreachable-requires
unreachable-requires c =
    let one = c.args.one.now in
    let other = c.args.other.now in
    let w = cell_within c.args.self.now one c.in-Cell.known c.requires.one c.in-Cell.is in
    let a = alone_passed c.args.self.now other c.in_default.field-0 c.requires.other c.in_default.is in
    omega (arith, w, a, c.requires.passed)

pub unreachable-requires-in_default-held : goal.unreachable-requires-in_default-held
unreachable-requires-in_default-held c =
    let one = c.args.one.now in
    let other = c.args.other.now in
    let a = alone_passed c.args.self.now one c.in-Alone.label c.requires.one c.in-Alone.is in
    let w = cell_within c.args.self.now other c.in_default-held.field-0 c.requires.other c.in_default-held.is in
    omega (arith, w, a, c.requires.passed)
