-- Next hops on lans that no end has: what is sent there is delivered out of the interface.
use Rattle.std.specs.Prelude.{ℕ, Bool, true, false, not, List, [], ◌∷◌, ◌++◌, Option, Some, None, map, flat_map, filter, fold, if◌then◌else◌}
use Rattle.std.specs.List.{list_any}
use Rattle.net_types.specs.declared.config.Interface.{Interface}
use Rattle.net_types.specs.declared.config.Loaded.{Loaded}
use Rattle.net_types.specs.declared.config.Route.{Route}
use Rattle.net_types.specs.declared.config.RouteExit.{RouteExit}
use Rattle.net_types.specs.declared.config.RouteExit.TheVariants as exit
use Rattle.net_types.specs.declared.config.Subnet.{Subnet}
use Rattle.net_types.specs.Routes.{same_text, holds, has_address, subnets, live_subnets, is_enabled}
use Rattle.topo_links.specs.declared.table.LinkKind.{LinkKind}
use Rattle.topo_links.specs.declared.table.LinkKind.TheVariants as kind
use Rattle.topo_links.specs.declared.table.LinkLine.{LinkLine}
use Rattle.topo_links.specs.Ends.{End}
use Rattle.topo_links.specs.Check.{device_named, interface_at, has_value}
use Rattle.place_checks.specs.declared.finding.Networks.{Networks}
use Rattle.place_checks.specs.declared.finding.Networks.TheVariants.{Old, New, Both}
use Rattle.place_checks.specs.declared.strays.StrayNext.{StrayNext}
use Rattle.place_checks.specs.Findings.{Pair, judges_old, judges_new}

abbrev pub holds_address : ℕ → Subnet → Bool
holds_address a s = holds s a

-- the next hop of a route that leads out of the interface: one in a subnet of it, or one beside its name
abbrev pub next_over : Interface → RouteExit → Option ℕ
next_over i exit.Null = None
next_over i (exit.Port name) = None
next_over i (exit.Both name next) = if same_text name i.name then Some next else None
next_over i (exit.Next next) = if list_any (holds_address next) (live_subnets i) then Some next else None

-- behind those that are there, where it isn't one of them
abbrev pub once : List ℕ → Option ℕ → List ℕ
once xs None = xs
once xs (Some x) = if has_value x xs then xs else xs ++ x ∷ []

abbrev pub add_next : Interface → List ℕ → Route → List ℕ
add_next i xs r = once xs (next_over i r.exit)

-- the next hops over the interface, each once
abbrev pub nexts_over : Interface → List Route → List ℕ
nexts_over i rs = fold (add_next i) [] rs

-- the interface has the address, shut or not
abbrev pub has_own : ℕ → Option Interface → Bool
has_own a None = false
has_own a (Some i) = has_address a (subnets i)

abbrev pub end_has : List Loaded → ℕ → End → Bool
end_has folder a e = has_own a (interface_at folder e)

-- no end has the address
abbrev pub is_stray : List Loaded → List End → ℕ → Bool
is_stray folder ends a = not (list_any (end_has folder a) ends)

abbrev pub strays_of : List Loaded → List End → Option Loaded → Option Interface → List ℕ
strays_of folder ends None o = []
strays_of folder ends (Some d) None = []
strays_of folder ends (Some d) (Some i) = if is_enabled i then filter (is_stray folder ends) (nexts_over i d.config.routes) else []

-- the next hops over an end of a lan that none of its ends has; over one that isn't IP-enabled nothing is sent
abbrev pub strays : List Loaded → List End → End → List ℕ
strays folder ends e = strays_of folder ends (device_named folder e.0) (interface_at folder e)

-- ---- once, with the networks in which it is so

abbrev pub if_judged : Bool → List ℕ → List ℕ
if_judged judged xs = if judged then xs else []

abbrev pub stray : ℕ → End → ℕ → Networks → StrayNext
stray n e a w = record { line = n; place = e; next = a; networks = w }

-- the networks that have a next hop of the old one
abbrev pub networks_with : List ℕ → ℕ → Networks
networks_with new a = if has_value a new then Both else Old

abbrev pub stray_in_old : ℕ → End → List ℕ → ℕ → StrayNext
stray_in_old n e new a = stray n e a (networks_with new a)

abbrev pub stray_in_new : ℕ → End → ℕ → StrayNext
stray_in_new n e a = stray n e a New

abbrev pub is_added : List ℕ → ℕ → Bool
is_added old a = not (has_value a old)

abbrev pub strays_in : ℕ → End → List ℕ → List ℕ → List StrayNext
strays_in n e old new = map (stray_in_old n e new) old ++ map (stray_in_new n e) (filter (is_added old) new)

abbrev pub end_strays : Pair → LinkLine → End → List StrayNext
end_strays p l e =
    strays_in l.line e (if_judged (judges_old p.judged) (strays p.old l.ends e)) (if_judged (judges_new p.judged) (strays p.new l.ends e))

abbrev pub is_lan : LinkKind → Bool
is_lan kind.P2p = false
is_lan kind.Lan = true
is_lan kind.Ingress = false

abbrev pub line_strays : Pair → LinkLine → List StrayNext
line_strays p l = if is_lan l.kind then flat_map (end_strays p l) l.ends else []

-- lan by lan, end by end, in the order of the routes
abbrev pub stray_findings : Pair → List LinkLine → List StrayNext
stray_findings p ls = flat_map (line_strays p) ls
