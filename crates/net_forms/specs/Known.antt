-- What is known of devices before they are compiled: functions of lists, and of destinations, that the tables have.
use Rattle.std.specs.Prelude.{ℕ, ◌≡◌, List, [], Option, Some, None, All, IfSome, slice_get}
use Rattle.cube_diagram.specs.Functions.{Functions}
use Rattle.net_types.specs.declared.config.Config.{Config}
use Rattle.net_types.specs.declared.network.NetDevice.{NetDevice}
use Rattle.device_fates.specs.declared.fate.Fate.{Fate}
use Rattle.device_fates.specs.Fates.{IsFateFunction}
use Rattle.net_forms.specs.declared.forms.Beforehand.{Beforehand}
use Rattle.net_forms.specs.declared.forms.DeviceLists.{DeviceLists}
use Rattle.net_forms.specs.declared.forms.KnownList.{KnownList}
use Rattle.net_forms.specs.declared.forms.KnownParts.{KnownParts}
use Rattle.net_forms.specs.Forms.{IsKnown}

-- the lists that are known of a device, none where nothing is told of it
abbrev pub lists_of : Option DeviceLists → List KnownList
lists_of None = []
lists_of (Some known) = known.lists.items

-- those of the device at a position
abbrev pub known_at : List DeviceLists → ℕ → List KnownList
known_at known n = lists_of (slice_get known n)

-- what is known of each device are functions of its lists
abbrev pub AreKnownLists : Functions → List NetDevice → List DeviceLists → Type 0
AreKnownLists fs devices known = (n : ℕ) (d : NetDevice) → slice_get devices n ≡ Some d → All (IsKnown fs d.config.lists) (known_at known n)

-- the functions are those of what the devices at their positions do with destinations
abbrev pub AreKnownFates : Functions → List Fate → List NetDevice → List (Option ℕ) → Type 0
AreKnownFates fs fates devices known = (n : ℕ) (d : NetDevice) (f : ℕ) → slice_get devices n ≡ Some d → slice_get known n ≡ Some (Some f) → IsFateFunction fs fates d.config f

-- what is known of a network's devices is true of them
pub record AreKnownBefore (fs : Functions) (all : List Fate) (devices : List NetDevice) (before : Beforehand) : Type 0 where
  pub lists : AreKnownLists fs devices before.lists.now
  pub fates : AreKnownFates fs all devices before.fates.now

-- what is known of a device is true of it
pub record AreKnownParts (fs : Functions) (all : List Fate) (c : Config) (parts : KnownParts) : Type 0 where
  pub lists : All (IsKnown fs c.lists) parts.lists.now
  pub fates : IfSome parts.fates (IsFateFunction fs all c)
