-- An interface of a compiled network.
use Rattle.std.specs.Prelude.{◌≡◌}
use Rattle.net_types.specs.World.{World}
use Rattle.net_forms.specs.declared.seat.CompiledSeat.{CompiledSeat}
use Rattle.net_forms.specs.Forms.{IsDeviceForm, IsSeatForm}

-- the forms are those of the interface and of its device
pub record IsCompiledSeat (s : CompiledSeat) : Type 0 where
  pub device : IsDeviceForm s.tables.now.diagrams s.tables.now.fates s.seat.device.now s.device.now
  pub form : IsSeatForm s.tables.now.diagrams s.seat.device.now.config s.seat.interface.now s.form

-- so they are, and the links are those of this network
pub record StandsIn (w : World) (s : CompiledSeat) : Type 0 where
  pub compiled : IsCompiledSeat s
  pub world : s.wiring.now ≡ w
