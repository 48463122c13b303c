-- The prefixes of some routes, and their greatest distances, as look-ups need them.
use Rattle.std.specs.Prelude.{◌≡◌, ℕ, Bool, false, ◌==◌, ◌&&◌, List, Option, Some, None, nat_eq, nat_le, nat_lt}
use Rattle.std.specs.List.{list_any}
use Rattle.std.specs.HashMap.{get}
use Rattle.std.specs.HashSet.{contains}
use Rattle.net_types.specs.declared.config.Route.{Route}
use Rattle.net_types.specs.Routes.{installed}
use Rattle.rib_build.specs.Prefixes.{has_prefix}
use Rattle.config_checks.specs.declared.held.Held.{Held}
use Rattle.config_checks.specs.declared.backups.Backups.{Backups}
use Rattle.config_checks.specs.declared.routes.Lookups.{Lookups}

-- the first bits and the length are kept
abbrev pub has_key : Held → ℕ → ℕ → Bool
has_key p number length = contains (λ x y. nat_eq x.0 y.0 && nat_eq x.1 y.1) p.numbers (number, length)

-- exactly the prefixes of these routes
abbrev pub AreOf : Held → List Route → Type 0
AreOf p routes = (number length : ℕ) → has_key p number length ≡ list_any (has_prefix number length) routes

abbrev pub is_from : Option ℕ → ℕ → Bool
is_from None d = false
is_from (Some e) d = nat_le d e

-- the table has a distance of d or more for the prefix
abbrev pub has_from : Backups → ℕ → ℕ → ℕ → Bool
has_from t address length d = is_from (get (λ x y. nat_eq x.0 y.0 && nat_eq x.1 y.1) t.greatest (address, length)) d

-- the route has this prefix and a distance of d or more, and may become valid
abbrev pub is_farther : ℕ → ℕ → ℕ → Route → Bool
is_farther address length d r = (r.prefix.address == address && r.prefix.length == length) && (nat_le d r.distance && nat_lt r.distance 255)

-- exactly the distances of these routes
abbrev pub AreGreatest : Backups → List Route → Type 0
AreGreatest t routes = (address length d : ℕ) → has_from t address length d ≡ list_any (is_farther address length d) routes

-- what is known of a configuration's routes is that of its installed ones, and of its written ones
pub record IsKnown (l : Lookups) : Type 0 where
  pub held : AreOf l.held (installed l.config.now)
  pub backups : AreGreatest l.backups l.config.now.routes
