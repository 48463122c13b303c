use Rattle.topo_links.specs.Draft.{IsDraft, AreRows}
use Rattle.topo_links.proofs.Effects.{so_far}
use Rattle.topo_links.proofs.reader.add_lines.Given as goal

abbrev pub invariant-loop-line : goal.invariant-loop-line
invariant-loop-line l = record {
  draft : IsDraft l.draft;
  rows : AreRows (so_far l.bytes l.lines l.line-index) l.draft.lines.items;
}
