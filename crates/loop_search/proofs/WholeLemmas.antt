-- Networks with the ways of all headers: nothing leads out of their scope.
use Rattle.std.proofs.Common.{ℕ, ◌<◌, List}
use Rattle.cube_diagram.specs.Functions.{Functions, Keeps, count_of}
use Rattle.set_walk.specs.declared.net.Net.{Net}
use Rattle.set_walk.specs.declared.step.Way.{Way}
use Rattle.set_walk.specs.Sets.{IsWithin}
use Rattle.set_walk.specs.Levels.{LeadInto}
use Rattle.set_walk.proofs.SetLemmas.{kept_set}
use Rattle.set_walk.proofs.NetLemmas.{net_kept}
use Rattle.loop_search.specs.WholeNets.{HasAll, IsWholeNet}

pub all_kept : (f g : Functions) (set : ℕ) → Keeps f g → set < count_of f → HasAll f set → HasAll g set
all_kept f g set k l all h = (kept_set f g set h k l).1 (all h)

pub whole_kept : (f g : Functions) (net : Net) → Keeps f g → IsWholeNet f net → IsWholeNet g net
whole_kept f g net k a = record { ways = net_kept f g net k a.ways; all = all_kept f g net.scope k a.ways.below a.all }

pub leads_into : (f : Functions) (net : Net) (groups : List Way) → IsWholeNet f net → LeadInto f net.scope groups
leads_into f net groups a h v u i = a.all u.header

pub is_within : (f : Functions) (net : Net) (domain : ℕ) → IsWholeNet f net → IsWithin f domain net.scope
is_within f net domain a h v i = a.all h
