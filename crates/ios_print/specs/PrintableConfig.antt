-- A configuration whose text is read as it.
use Rattle.std.specs.Prelude.{◌≡◌, ℕ, ◌+◌, Bool, true, false, not, ◌&&◌, ◌==◌, List, [], ◌∷◌, ◌++◌, map, Option, Some, None, is_some, option_to_list, if◌then◌else◌}
use Rattle.std.specs.List.{AllByRecursion}
use Rattle.net_text.specs.Texts.{IsWord}
use Rattle.net_types.specs.declared.config.Config.{Config}
use Rattle.net_types.specs.declared.config.Interface.{Interface}
use Rattle.net_types.specs.declared.config.Route.{Route}
use Rattle.net_types.specs.declared.config.Subnet.{Subnet}
use Rattle.ios_lines.specs.Words.{Word, Words}
use Rattle.ios_lines.specs.Lists.{place_of}
use Rattle.ios_config.specs.Overlap.{overlap}
use Rattle.ios_config.specs.Reads.{port_of}
use Rattle.ios_print.specs.Printable.{AreInterfaces, AreRoutes, AreRules}
use Rattle.ios_print.specs.PrintableLists.{AreLists}

-- a route names no interface, or one of these
abbrev pub IsKnown : Words → Option Word → Type 0
IsKnown names None = Unit {0}
IsKnown names (Some n) = is_some (place_of n names) ≡ true

abbrev pub AreKnown : Words → List Route → Type 0
AreKnown names [] = Unit {0}
AreKnown names (r ∷ rs) = IsKnown names (port_of r.exit) × AreKnown names rs

-- addresses in force, with the places of their interfaces
abbrev pub subnets_by : ℕ → Interface → List (ℕ × Subnet)
subnets_by n i = if i.shut then [] else map (λ s. (n, s)) (option_to_list i.primary ++ i.secondary)

abbrev pub subnets_from : ℕ → List Interface → List (ℕ × Subnet)
subnets_from n [] = []
subnets_from n (i ∷ is) = subnets_by n i ++ subnets_from (n + 1) is

-- addresses of different interfaces have subnets without a common address
abbrev pub crosses : ℕ × Subnet → ℕ × Subnet → Bool
crosses x y = not (y.0 == x.0) && overlap y.1 x.1

abbrev pub AreApart : List (ℕ × Subnet) → Type 0
AreApart xs = AllByRecursion (λ x. AllByRecursion (λ y. crosses x y ≡ false) xs) xs

pub record IsPrintable (c : Config) : Type 0 where
  pub hostname : IsWord c.hostname
  pub interfaces : AreInterfaces [] c.interfaces
  pub routes : AreRoutes c.routes
  pub known : AreKnown (map (λ i. i.name) c.interfaces) c.routes
  pub nat : AreRules [] c.nat
  pub lists : AreLists [] c.lists
  pub apart : AreApart (subnets_from 0 c.interfaces)
