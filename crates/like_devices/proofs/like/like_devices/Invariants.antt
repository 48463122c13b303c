use Rattle.std.proofs.Common.{All}
use Rattle.net_view.specs.Borrowed.{world_of}
use Rattle.like_devices.specs.Like.{IsLike}
use Rattle.like_devices.proofs.like.like_devices.Given as goal

abbrev pub invariant-loop-device : goal.invariant-loop-device
invariant-loop-device l = All (IsLike (world_of l.old) (world_of l.new)) l.names.keys
