use Rattle.std.proofs.Common.{◌≡◌, ◌++◌, map}
use Rattle.incr_review.specs.Again.{as_region}
use Rattle.incr_review.proofs.regions.add_parts.Given as goal

abbrev pub invariant-loop-part : goal.invariant-loop-part
invariant-loop-part l = l.regions.items ≡ l.fn.regions.items ++ map (as_region l.walking) l.yielded
