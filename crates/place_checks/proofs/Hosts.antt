-- Devices by their hostnames.
use Rattle.std.proofs.Common.{◌≡◌, ℕ, Option, position, ap, ◌∙◌}
use Rattle.std.specs.Prelude.{option_and_then, slice_get}
use Rattle.std.specs.Str.{bytes_eq}
use Rattle.topo_links.specs.ByName.{is_named}
use Rattle.topo_links.specs.Check.{host_of, device_named}
use Rattle.topo_links.specs.Ends.{Word}
use Rattle.topo_links.proofs.Finds.{find_place, name_place}
use Rattle.place_checks.specs.declared.devices.Devices.{Devices}
use Rattle.place_checks.specs.Index.{firsts_of, AreDevices}

-- the first at a name's place is the first that has it
pub first_with : (d : Devices) → AreDevices d → (n : Word) (o : Option ℕ) → o ≡ position (bytes_eq n) d.names → option_and_then (slice_get (firsts_of d)) o ≡ device_named d.folder.now n
first_with d h n o e =
    ap (option_and_then (slice_get (firsts_of d))) (e ∙ ap (position (bytes_eq n)) h.names ∙ name_place host_of n (firsts_of d))
    ∙ find_place (is_named host_of n) (firsts_of d) ∙ h.finds n
