use Rattle.std.proofs.Common.{All, take}
use Rattle.cube_diagram.specs.Functions.{Keeps}
use Rattle.net_forms.specs.Forms.{AreSeatForms, IsKnown}
use Rattle.net_forms.proofs.compile.seats_with.Given as goal

abbrev pub invariant-loop-interface : goal.invariant-loop-interface
invariant-loop-interface l = record {
  kept : Keeps l.fn.diagrams l.diagrams;
  known : All (IsKnown l.diagrams l.config.lists) l.known.items;
  seats : AreSeatForms l.diagrams l.config (take l.interface-index l.config.interfaces) l.seats.items;
}
