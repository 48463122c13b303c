-- What becomes of packets by the addresses to which they are sent.
use Rattle.std.specs.Prelude.{ℕ, ◌≡◌, Option, Contains}
use Rattle.net_types.specs.declared.network.Place.{Place}
use Rattle.link_sends.specs.declared.by_address.Addresses.{Addresses}
use Rattle.link_sends.specs.declared.wire.Wire.{Wire}
use Rattle.link_sends.specs.Sends.{sent_from}

-- by what is kept of its segment, packets that are sent from e to an address that isn't listed fare otherwise
abbrev pub TellsOthers : Option Wire → Place → Addresses → Type 0
TellsOthers wire e r = (a : ℕ) → (Contains r.listed.items a → ⊥) → sent_from wire e a ≡ r.otherwise
