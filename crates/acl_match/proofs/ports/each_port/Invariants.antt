use Rattle.std.proofs.Common.{ℕ, ◌≡◌, ◌==◌, take}
use Rattle.acl_match.proofs.ports.each_port.Given as goal
use Rattle.std.specs.List.{list_any}
use Rattle.acl_match.specs.Cubes.{any_in, field}

abbrev pub invariant-loop-port : goal.invariant-loop-port
invariant-loop-port l = (h : ℕ) → any_in l.cubes.items h ≡ list_any (λ q. q == field l.shift 16 h) (take l.port-index l.ports)
