-- The line of a static route is read as it.
use Rattle.std.proofs.Common.{◌≡◌, ℕ, ◌+◌, ◌<◌, ◌≤◌, true, false, List, [], ◌∷◌, ◌++◌, map, refl, sym, ap, subst, ◌∙◌, arith, append-nil, append_assoc}
use Rattle.std.specs.Prelude.{Some, Ok, codes, decimal}
use Rattle.std.proofs.lemmas.Bool.{le-ltb}
use Rattle.net_types.specs.declared.config.Config.{Config}
use Rattle.net_types.specs.declared.config.Route.{Route}
use Rattle.net_types.specs.declared.config.RouteExit.{RouteExit}
use Rattle.net_types.specs.declared.config.RouteExit.TheVariants as exit
use Rattle.net_types.specs.declared.config.Subnet.{Subnet}
use Rattle.ios_words.specs.Words.{mask_of}
use Rattle.ios_commands.specs.declared.refused.CommandPart.TheVariants as command_part
use Rattle.ios_commands.specs.Refused.{command_refuses}
use Rattle.ios_lines.specs.declared.effect.Action.TheVariants as action
use Rattle.ios_lines.specs.declared.effect.Effect.TheVariants as effect
use Rattle.ios_lines.specs.declared.effect.Section.{Section}
use Rattle.ios_lines.specs.declared.effect.Section.TheVariants as section
use Rattle.ios_lines.specs.declared.effect.WrittenRoute.{WrittenRoute}
use Rattle.ios_lines.specs.Words.{Word, Words, address_at, mask_at, allowed_word, ended}
use Rattle.ios_lines.proofs.Steps.{map_more}
use Rattle.ios_commands.specs.Routes.{is_prefix, prefix_at, exit_at, option_at, option_by, distance_option, options_at, route_at, route_action}
use Rattle.ios_commands.specs.Interfaces.{subnet_of}
use Rattle.ios_config.specs.Effects.{Seen, command_action, global_command}
use Rattle.ios_config.specs.Draft.{Parts, parts_after}
use Rattle.ios_print.specs.Print.{address_word, subnet_words, exit_words, route_row}
use Rattle.ios_print.specs.Printable.{IsExit, IsRoute, AreRoutes}
use Rattle.ios_print.proofs.Digits.{address_back, digital_address, digital_number, number_back, no_address, other_word, Digital}
use Rattle.ios_print.proofs.Masks.{mask_back, mask_bound}
use Rattle.ios_print.proofs.Runs.{Shows, seen_by, Goes}
use Rattle.ios_print.proofs.InterfaceLines.{same_subnet}

prefix_done : (s : Subnet) (ws : Words) → s.address < 4294967296 → is_prefix s ≡ true → prefix_at (address_word s.address ∷ address_word (mask_of s.length) ∷ ws) ≡ Ok (s, ws)
unfolding prefix_at address_at mask_at allowed_word
prefix_done s ws h p =
    let d = digital_address s.address h in
    let q : is_prefix (subnet_of s.address s.length) ≡ true = ap is_prefix (same_subnet s) ∙ p in
    rw (other_word (address_word s.address) 118 (codes "rf") d refl, address_back s.address h, address_back (mask_of s.length) (mask_bound s.length s.in_range), mask_back s.length s.in_range, le-ltb s.length 0 (omega arith), q, same_subnet s) refl

covered_tail : (w : Word) → Digital w → command_refuses command_part.RouteTail w ≡ false
covered_tail w d = rw (other_word w 112 (codes "ermanent") d refl, other_word w 116 (codes "rack") d refl, other_word w 109 (codes "ulticast") d refl, other_word w 100 (codes "hcp") d refl) refl

exit_done : (x : RouteExit) (d : ℕ) → IsExit x → d ≤ 255 → exit_at (exit_words x ++ decimal d ∷ []) ≡ Ok (x, decimal d ∷ [])
unfolding exit_at allowed_word
exit_done exit.Null d is h = refl
exit_done (exit.Port name) d is h = rw (is.covered, is.no_address, is.other, no_address d (omega (arith, h))) refl
exit_done (exit.Both name next) d is h = rw (is.0.covered, is.0.no_address, is.0.other, address_back next is.1) refl
exit_done (exit.Next next) d is h = rw (covered_tail (address_word next) (digital_address next is), address_back next is) refl

options_done : (d : ℕ) → 1 ≤ d → d ≤ 255 → options_at (decimal d ∷ []) ≡ Ok (record { distance = Some d; named = false; tagged = false })
unfolding options_at option_at option_by distance_option allowed_word ended
options_done d l h =
    let g = digital_number d (omega (arith, h)) in
    rw (covered_tail (decimal d) g, other_word (decimal d) 110 (codes "ame") g refl, other_word (decimal d) 116 (codes "ag") g refl, number_back 1 255 d (omega (arith, h)) l h) refl

route_read : (r : Route) → IsRoute r → route_at (subnet_words r.prefix ++ (exit_words r.exit ++ (decimal r.distance ∷ []))) ≡ Ok r
unfolding route_at
route_read r is = rw (prefix_done r.prefix (exit_words r.exit ++ decimal r.distance ∷ []) is.address is.prefix, exit_done r.exit r.distance is.exit is.most, options_done r.distance is.some is.most) refl

route_done : (seen : Seen) (k : ℕ) (r : Route) → IsRoute r → command_action seen k false (route_row r).1 ≡ Ok (action.Route (record { route = r; line = k }))
unfolding command_action global_command route_action
route_done seen k r is = rw (route_read r is) refl

abbrev pub with_routes : Config → List Route → Config
with_routes c rs = record c { routes = rs }

no_more : (n : ℕ) → n + 0 ≡ n
no_more n = omega arith

route_shows : (c : Config) (rs : List Route) (s : Section) (r : Route) (k : ℕ) (p : Parts) → Shows (with_routes c rs) s p → Shows (with_routes c (rs ++ r ∷ [])) section.Other (parts_after p (effect.Act (action.Route (record { route = r; line = k }))))
route_shows c rs s r k p h = record {
  host = h.host;
  names = h.names;
  interfaces = h.interfaces;
  routes = map_more (λ (r : WrittenRoute). r.route) p.routes (record { route = r; line = k }) ∙ ap (λ xs. xs ++ r ∷ []) h.routes;
  nat = append-nil p.nat ∙ h.nat;
  list_names = h.list_names;
  lists = h.lists;
  section = refl;
  covered = h.covered;
  passed = no_more p.passed ∙ h.passed;
}

pub routes_go : (c : Config) (before rs : List Route) (s : Section) → AreRoutes rs → (t : Section) × Goes (map route_row rs) (with_routes c before) s (with_routes c (before ++ rs)) t
routes_go c before [] s k = (s, (ap (with_routes c) (sym (append-nil before)), refl))
routes_go c before (r ∷ rs) s k =
    let rest = routes_go c (before ++ r ∷ []) rs section.Other k.1 in (
      rest.0,
      (
        with_routes c (before ++ r ∷ []),
        section.Other,
        record { plain = refl; command = refl; acts = λ p n h. (action.Route (record { route = r; line = n }), route_done (seen_by p) n r k.0, route_shows c before s r n p h) },
        subst (λ x. Goes (map route_row rs) (with_routes c (before ++ r ∷ [])) section.Other (with_routes c x) rest.0) (append_assoc before (r ∷ []) rs) rest.1,
      ),
    )
