use Rattle.std.proofs.Common.{◌≡◌, take}
use Rattle.std.specs.Prelude.{flat_map}
use Rattle.net_load.specs.Numbering.{segments_of, ingress_of}
use Rattle.net_load.proofs.numbering.number_links.Given as goal

abbrev pub invariant-loop-line : goal.invariant-loop-line
invariant-loop-line l = record {
  segments : l.segments.items ≡ flat_map (segments_of l.names) (take l.line-index l.line-items);
  ingress : l.ingress.items ≡ flat_map (ingress_of l.names) (take l.line-index l.line-items);
}
