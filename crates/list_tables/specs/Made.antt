-- Lists and routes of networks that are made functions before the networks are compiled.
use Rattle.std.specs.Prelude.{◌≡◌, List, Option, Some, All, option_and_then, slice_get}
use Rattle.cube_diagram.specs.Functions.{Functions}
use Rattle.net_types.specs.declared.config.AccessList.{AccessList}
use Rattle.net_types.specs.declared.network.NetDevice.{NetDevice}
use Rattle.device_fates.specs.Fates.{IsFateFunction}
use Rattle.net_forms.specs.declared.forms.Tables.{Tables}
use Rattle.net_forms.specs.declared.version.Version.{Version}
use Rattle.net_forms.specs.declared.version.Version.TheVariants as version
use Rattle.net_forms.specs.Forms.{IsList}
use Rattle.net_forms.specs.Known.{AreKnownFates, AreKnownLists}
use Rattle.list_tables.specs.declared.fates.FateShare.{FateShare}
use Rattle.list_tables.specs.declared.fates.MadeFates.{MadeFates}
use Rattle.list_tables.specs.declared.known.KnownLists.{KnownLists}
use Rattle.list_tables.specs.declared.lists.BothDevices.{BothDevices}
use Rattle.list_tables.specs.declared.lists.ListPosition.{ListPosition}
use Rattle.list_tables.specs.declared.prepared.KnownBoth.{KnownBoth}
use Rattle.list_tables.specs.declared.shares.MadeList.{MadeList}
use Rattle.list_tables.specs.declared.shares.MadeShare.{MadeShare}

-- the devices of one of two networks
abbrev pub devices_of : BothDevices → Version → List NetDevice
devices_of both version.Old = both.old.now
devices_of both version.New = both.new.now

-- the list that stands there among the devices, if one does
abbrev pub list_at : List NetDevice → ListPosition → Option AccessList
list_at devices at = option_and_then (λ d. slice_get d.config.lists at.list) (slice_get devices at.device)

-- the function is that of the list which stands there
abbrev pub IsMadeList : Functions → BothDevices → MadeList → Type 0
IsMadeList fs both m = IsList fs (list_at (devices_of both m.at.version) m.at) m.function

-- so are all of one worker
abbrev pub IsMadeShare : BothDevices → MadeShare → Type 0
IsMadeShare both share = All (IsMadeList share.table both) share.lists.items

-- the function is that of what the device there does with destinations
abbrev pub IsMadeFates : Tables → List NetDevice → MadeFates → Type 0
IsMadeFates tables devices m = (d : NetDevice) → slice_get devices m.device ≡ Some d → IsFateFunction tables.diagrams tables.fates d.config m.function

-- so are all of one worker
abbrev pub IsFateShare : List NetDevice → FateShare → Type 0
IsFateShare devices share = All (IsMadeFates share.tables devices) share.made.items

-- what is known of each device of both networks are functions of its lists, in one table
pub record AreKnown (both : BothDevices) (known : KnownLists) : Type 0 where
  pub old : AreKnownLists known.tables.diagrams both.old.now known.old_lists.items
  pub new : AreKnownLists known.tables.diagrams both.new.now known.new_lists.items

-- and of what it does with destinations
pub record AreKnownBoth (both : BothDevices) (known : KnownBoth) : Type 0 where
  pub lists : AreKnown both known.lists
  pub old_fates : AreKnownFates known.lists.tables.diagrams known.lists.tables.fates both.old.now known.old_fates.items
  pub new_fates : AreKnownFates known.lists.tables.diagrams known.lists.tables.fates both.new.now known.new_fates.items
