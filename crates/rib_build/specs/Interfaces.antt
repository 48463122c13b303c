-- What the interfaces of a router say about its routes, as the code keeps it.
use Rattle.std.specs.Prelude.{◌≡◌, ℕ, Bool, true, false, ◌==◌, not, ◌&&◌, ◌||◌, List, nat_eq}
use Rattle.std.specs.Option.{unwrap_or}
use Rattle.std.specs.HashSet.{contains}
use Rattle.net_types.specs.declared.config.Config.{Config}
use Rattle.net_types.specs.declared.config.Route.{Route}
use Rattle.net_types.specs.declared.config.RouteExit.{RouteExit}
use Rattle.net_types.specs.declared.config.RouteExit.TheVariants as exit
use Rattle.net_types.specs.Routes.{is_own, interface_named, is_enabled_if_any, leads_into}
use Rattle.rib_build.specs.declared.interfaces.Interfaces.{Interfaces}
use Rattle.rib_build.specs.Names.{named}

-- the address is one of the router's own
abbrev pub is_own_by : Interfaces → ℕ → Bool
is_own_by p a = contains nat_eq p.own a

-- there is an interface of this name, and the first is enabled
abbrev pub is_enabled_by : Interfaces → List ℕ → Bool
is_enabled_by p name = unwrap_or (named (λ k. k.now) p.enabled name) false

abbrev pub next_is_own_by : Interfaces → RouteExit → Bool
next_is_own_by p exit.Null = false
next_is_own_by p (exit.Port name) = false
next_is_own_by p (exit.Both name next) = is_own_by p next
next_is_own_by p (exit.Next next) = is_own_by p next

abbrev pub is_usable_by : Interfaces → Route → Bool
is_usable_by p r = not (r.distance == 255) && not (next_is_own_by p r.exit)

abbrev pub is_anchored_by : Interfaces → RouteExit → Bool
is_anchored_by p exit.Null = true
is_anchored_by p (exit.Port name) = is_enabled_by p name
is_anchored_by p (exit.Both name next) = is_enabled_by p name
is_anchored_by p (exit.Next next) = false

-- the route is usable, and needs no other route or leads into one of these
abbrev pub stands_by : Interfaces → List Route → Route → Bool
stands_by p rs r = is_usable_by p r && (is_anchored_by p r.exit || leads_into rs r.exit)

-- what is kept is what the interfaces of the configuration say
pub record Know (p : Interfaces) (c : Config) : Type 0 where
  pub own : (a : ℕ) → is_own_by p a ≡ is_own c a
  pub enabled : (name : List ℕ) → is_enabled_by p name ≡ is_enabled_if_any (interface_named c name)
