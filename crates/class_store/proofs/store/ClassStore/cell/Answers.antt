use Rattle.std.proofs.Common.{◌≡◌, ◌<◌, ◌≤◌, ◌+◌, ◌-◌, subst, sym, ap, ◌∙◌, length, get_or, Some, slice_get}
use Rattle.std.proofs.lemmas.List.{length-map}
use Rattle.once_cell.specs.Once.{cell_name}
use Rattle.class_store.specs.Windows.{window}
use Rattle.class_store.proofs.WindowLemmas.{cell_on, cell_round}
use Rattle.class_store.proofs.store.ClassStore.cell.Goals as goal

pub returns-then-at-cells : goal.returns-then-at-cells
returns-then-at-cells c =
    let cells = c.self.inside.cells.items in
    let here = c.index-cells-at.result in
    let seen = c.as_slice-cells.ensures.value in
    let before : c.args.start + c.args.offset < length cells = subst (λ xs. c.args.start + c.args.offset < length xs) seen c.if-at-cells.true in
    let is : here ≡ get_or cells (c.args.start + c.args.offset) here = c.index-cells-at.is ∙ ap (λ xs. get_or xs (c.args.start + c.args.offset) here) seen in
    subst (λ names. slice_get (window names c.args.start) c.args.offset ≡ Some (cell_name here)) c.self.view_is
    (cell_on cell_name cells c.args.start c.args.offset here before c.requires.offset c.self.invariant.0 is)

pub returns-else-at-cells : goal.returns-else-at-cells
returns-else-at-cells c =
    let cells = c.self.inside.cells.items in
    let here = c.index-cells-at-else-at-cells.result in
    let seen = c.as_slice-cells.ensures.value in
    let names = length-map cells cell_name in
    let start : c.args.start < length cells = subst (λ n. c.args.start < n) names (subst (λ xs. c.args.start < length xs) (sym c.self.view_is) c.requires.start) in
    let after : length cells ≤ c.args.start + c.args.offset = subst (λ xs. length xs ≤ c.args.start + c.args.offset) seen c.if-at-cells.false in
    let is : here ≡ get_or cells (c.args.start + c.args.offset - length cells) here = c.index-cells-at-else-at-cells.is ∙ ap (λ xs. get_or xs (c.args.start + c.args.offset - length xs) here) seen in
    subst (λ names. slice_get (window names c.args.start) c.args.offset ≡ Some (cell_name here)) c.self.view_is
    (cell_round cell_name cells c.args.start c.args.offset here start after c.requires.offset c.self.invariant.0 is)
