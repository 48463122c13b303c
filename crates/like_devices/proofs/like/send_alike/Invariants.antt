use Rattle.std.proofs.Common.{ℕ, Contains, take}
use Rattle.link_sends.specs.Sending.{SendAlike}
use Rattle.like_devices.proofs.like.send_alike.Given as goal

abbrev pub invariant-loop-number : goal.invariant-loop-number
invariant-loop-number l = (n : ℕ) → Contains (take l.number-index l.numbers) n → SendAlike l.before l.after (record { device = l.device; interface = n })
