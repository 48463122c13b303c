-- Two networks that are compiled in one table, and a set of destinations that has those of their translation rules.
use Rattle.std.specs.Prelude.{ℕ, ◌≡◌, ◌<◌, ◌==◌, All, Some, find}
use Rattle.cube_diagram.specs.Functions.{Functions, count_of}
use Rattle.like_devices.specs.Like.{IsLike}
use Rattle.net_forms.specs.Networks.{IsFormIn, IsNetworkForm}
use Rattle.net_view.specs.Borrowed.{world_of}
use Rattle.change_scope.specs.declared.scope.Both.{Both}
use Rattle.change_scope.specs.declared.scope.Pair.{Pair}
use Rattle.change_scope.specs.Devices.{AreComparable}
use Rattle.change_scope.specs.Translated.{ByDestination, HasAllRules}

-- both are compiled in the table, and these devices are alike
pub record IsPair (fs : Functions) (p : Pair) : Type 0 where
  pub old : IsNetworkForm fs p.fates.now p.old.now
  pub new : IsNetworkForm fs p.fates.now p.new.now
  pub like : All (IsLike (world_of p.old.now.world) (world_of p.new.now.world)) p.like.now.keys

-- the set asks for destinations alone, and has the headers to each address of a rule of both networks
pub record HasTurned (p : Pair) (fs : Functions) (set : ℕ) : Type 0 where
  pub below : set < count_of fs
  pub by : ByDestination fs set
  pub old : HasAllRules p.old.now.world.network.now.devices fs set
  pub new : HasAllRules p.new.now.world.network.now.devices fs set

-- the first device of this name in each network, with its forms; the two can be compared
pub record AreBoth (p : Pair) (name : ℕ) (b : Both) : Type 0 where
  pub old_found : find (λ d. d.name == name) p.old.now.world.network.now.devices ≡ Some b.old.device.now
  pub new_found : find (λ d. d.name == name) p.new.now.world.network.now.devices ≡ Some b.new.device.now
  pub old_form : IsFormIn p.old.now b.old.device.now b.old.form.now
  pub new_form : IsFormIn p.new.now b.new.device.now b.new.form.now
  pub comparable : AreComparable (world_of p.old.now.world) (world_of p.new.now.world) b.old.device.now b.new.device.now
