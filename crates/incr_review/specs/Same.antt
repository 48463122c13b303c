-- Equal routes, as a test.
use Rattle.std.specs.Prelude.{Bool, true, false, ◌&&◌, ◌==◌}
use Rattle.net_types.specs.declared.config.Route.{Route}
use Rattle.net_types.specs.declared.config.RouteExit.{RouteExit}
use Rattle.net_types.specs.declared.config.RouteExit.TheVariants as exit
use Rattle.net_types.specs.declared.config.Subnet.{Subnet}
use Rattle.net_types.specs.Routes.{same_text}

abbrev pub same_subnet : Subnet → Subnet → Bool
same_subnet a b = a.address == b.address && a.length == b.length

abbrev pub same_exit : RouteExit → RouteExit → Bool
same_exit exit.Null exit.Null = true
same_exit exit.Null _ = false
same_exit (exit.Port m) (exit.Port n) = same_text m n
same_exit (exit.Port m) _ = false
same_exit (exit.Both m a) (exit.Both n b) = same_text m n && a == b
same_exit (exit.Both m a) _ = false
same_exit (exit.Next a) (exit.Next b) = a == b
same_exit (exit.Next a) _ = false

-- the same prefix, exit and distance
abbrev pub same_route : Route → Route → Bool
same_route a b = same_subnet a.prefix b.prefix && same_exit a.exit b.exit && a.distance == b.distance
