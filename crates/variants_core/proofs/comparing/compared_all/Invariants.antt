use Rattle.std.proofs.Common.{◌≡◌, take}
use Rattle.variants_core.specs.Report.{AreCompared, base_world}
use Rattle.variants_core.proofs.ReportLemmas.{devices_from}
use Rattle.variants_core.proofs.comparing.compared_all.Given as goal

abbrev pub invariant-loop-variant : goal.invariant-loop-variant
invariant-loop-variant g l = record {
  compared : AreCompared l.numbered (take l.variant-index l.variants) l.body.text.items l.body.affected;
  rest : l.rest ≡ devices_from l.numbered l.variants l.variant-index;
  base : l.compared ≡ base_world l.numbered;
}
