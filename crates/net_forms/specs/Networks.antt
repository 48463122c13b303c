-- What a compiled network stands for.
use Rattle.std.specs.Prelude.{ℕ, ◌≡◌, List, Some, All, length, slice_get}
use Rattle.cube_diagram.specs.Functions.{Functions}
use Rattle.net_types.specs.declared.network.NetDevice.{NetDevice}
use Rattle.net_types.specs.World.{World}
use Rattle.net_view.specs.Borrowed.{world_of}
use Rattle.device_fates.specs.declared.fate.Fate.{Fate}
use Rattle.net_forms.specs.declared.forms.DeviceForm.{DeviceForm}
use Rattle.net_forms.specs.declared.forms.NetworkForm.{NetworkForm}
use Rattle.net_forms.specs.declared.forms.Tables.{Tables}
use Rattle.net_forms.specs.declared.formed.FormedNetwork.{FormedNetwork}
use Rattle.like_devices.specs.Like.{IsLike}
use Rattle.net_forms.specs.Along.{AreAlong}
use Rattle.net_forms.specs.Forms.{IsDeviceForm}

-- each device is compiled
abbrev pub AreDevices : Functions → List Fate → List NetDevice → List DeviceForm → Type 0
AreDevices fs fates devices forms = AreAlong (IsDeviceForm fs fates) devices forms

-- a compiled network
pub record IsNetworkForm (fs : Functions) (fates : List Fate) (n : NetworkForm) : Type 0 where
  pub wiring : n.wiring ≡ world_of n.world
  pub devices : AreDevices fs fates n.world.network.now.devices n.devices.items

-- this network is compiled in the tables
pub record IsFormedNetwork (w : World) (n : FormedNetwork) : Type 0 where
  pub form : IsNetworkForm n.tables.diagrams n.tables.fates n.form
  pub world : world_of n.form.world ≡ w

-- the wiring is that of the network, and there are as many forms as devices
pub record IsIndexed (n : NetworkForm) : Type 0 where
  pub wiring : n.wiring ≡ world_of n.world
  pub count : length n.devices.items ≡ length n.world.network.now.devices

-- this is what the compiled network has of a device that is equal to this one
pub record IsFormIn (n : NetworkForm) (d : NetDevice) (f : DeviceForm) : Type 0 where
  pub position : ℕ
  pub device : slice_get n.world.network.now.devices position ≡ Some d
  pub form : slice_get n.devices.items position ≡ Some f

-- the second form has the functions of the first
pub record IsCopy (f g : DeviceForm) : Type 0 where
  pub seats : g.seats.items ≡ f.seats.items
  pub rules : g.rules ≡ f.rules
  pub fates : g.fates ≡ f.fates

-- the devices with these names do the same in both networks
abbrev pub AreLike : NetworkForm → NetworkForm → List ℕ → Type 0
AreLike old new names = All (IsLike (world_of old.world) (world_of new.world)) names

-- two networks compiled in one table, and the names of devices that they have alike
pub record ArePrepared (tables : Tables) (old new : NetworkForm) (like : List ℕ) : Type 0 where
  pub old_form : IsNetworkForm tables.diagrams tables.fates old
  pub new_form : IsNetworkForm tables.diagrams tables.fates new
  pub alike : AreLike old new like
