use Rattle.std.proofs.Common.{◌≡◌, ◌++◌, ◌≤◌, ◌*◌, ◌^◌, [], codes, take, map, flat_map, All}
use Rattle.view_core.specs.Tallies.{mention_in, ingress_mentions}
use Rattle.view_core.proofs.tallies.mentions_of.Given as goal

abbrev pub invariant-loop-ingress : goal.invariant-loop-ingress
invariant-loop-ingress l = map mention_in l.found.items ≡ flat_map (ingress_mentions l.names l.version) (take l.ingress-index l.ingresses)
