-- Devices by their hostnames, and what else stands under names.
use Rattle.std.specs.Prelude.{Bool, Option}
use Rattle.indexmap.specs.IndexMap.{IndexMap, get_by}
use denote.Ref.{Bor}
use Rattle.net_types.specs.declared.network.NetDevice.{NetDevice}
use Rattle.net_types.specs.Routes.{same_text}
use Rattle.ask_query.specs.Refusals.{Word}

-- the device has this hostname
abbrev pub is_called : Word → NetDevice → Bool
is_called w d = same_text d.config.hostname w

-- what stands under this name
abbrev pub stands_under : {V S : Type 0} → IndexMap (Bor Word) V S → Word → Option V
stands_under m w = get_by (λ k. same_text w k.now) m
