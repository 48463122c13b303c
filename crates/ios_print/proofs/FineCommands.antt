-- What the commands of an accepted text may do.
use Rattle.std.proofs.Common.{◌≡◌, ℕ, ◌<◌, ◌≤◌, zero, suc, Bool, true, false, cond, List, [], ◌∷◌, drop, refl, arith}
use Rattle.std.specs.Prelude.{Option, Some, None, Result, Ok, Err, ok_or, codes, is_some, unwrap_or, find, option_map, length}
use Rattle.std.specs.Str.{bytes_eq}
use Rattle.net_text.specs.Texts.{IsWord}
use Rattle.net_types.specs.declared.config.NatRule.{NatRule}
use Rattle.net_types.specs.declared.config.NatKind.{NatKind}
use Rattle.net_types.specs.declared.config.NatKind.TheVariants as nat
use Rattle.net_types.specs.declared.config.RouteExit.{RouteExit}
use Rattle.net_types.specs.declared.config.RouteExit.TheVariants as exit
use Rattle.ios_words.specs.Words.{address_of, number_of}
use Rattle.ios_lines.specs.declared.fault.Fault.{Fault}
use Rattle.ios_lines.specs.declared.fault.Kind.TheVariants as kind
use Rattle.ios_commands.specs.declared.refused.CommandPart.TheVariants as command_part
use Rattle.ios_commands.specs.Refused.{command_refuses}
use Rattle.ios_lines.specs.declared.effect.Action.{Action}
use Rattle.ios_lines.specs.declared.effect.Action.TheVariants as action
use Rattle.ios_lines.specs.declared.effect.Change.{Change}
use Rattle.ios_lines.specs.declared.effect.Change.TheVariants as change
use Rattle.ios_lines.specs.declared.effect.WrittenAddress.{WrittenAddress}
use Rattle.ios_lines.specs.Words.{none_refused, ◌>>=◌, Word, Words, fault_of, head_word, next_word, allowed_word, address_at, mask_at, number_at, ended, hop_of}
use Rattle.ios_commands.specs.declared.routes.RouteOptions.{RouteOptions}
use Rattle.ios_commands.specs.Tables.{refused_by, fits_row, uncovered}
use Rattle.ios_commands.specs.Interfaces.{after_link_kind, interface_action, subnet_of, written_at, begins_secondary, after_secondary, address_change, address_action, plain_action, direction_at, group_action}
use Rattle.ios_commands.specs.Routes.{is_prefix, prefix_at, port_by, after_hop, exit_by, exit_at, no_options, free_distance, distance_option, name_option, tag_option, option_by, option_at, options_at, route_at, route_action, is_name_option, is_tag_option}
use Rattle.ios_commands.specs.Translation.{local_side, global_side, has_local, has_global, clash, extendable_at, rule_action, address_rule, port_rule, static_action, outer_action}
use Rattle.ios_print.specs.Printable.{IsAddress, IsPort, IsExit, IsRoute, IsPortPair, IsRule}
use Rattle.ios_print.proofs.Has.{Each, Has, then_has, some_has, if_has, next_has, allowed_has, address_bound, address_has, mask_has, number_has, number_bounds}

-- what a change writes is printable
abbrev pub IsFineChange : Change → Type 0
IsFineChange (change.Primary a) = IsAddress a.subnet
IsFineChange (change.Secondary a) = IsAddress a.subnet
IsFineChange (change.Input w) = IsWord w
IsFineChange (change.Output w) = IsWord w
IsFineChange _ = Unit {0}

-- a word that names an interface
abbrev pub IsName : Word → Type 0
IsName n = IsWord n × (bytes_eq n (codes "Null0") ≡ false)

-- what a command does is printable, behind these rules of address translation
abbrev pub IsFineAction : List NatRule → Action → Type 0
IsFineAction rules (action.Host n) = IsWord n
IsFineAction rules (action.Interface n c) = IsName n × IsFineChange c
IsFineAction rules (action.Route r) = IsRoute r.route
IsFineAction rules (action.Nat r) = IsRule rules r
IsFineAction rules _ = Unit {0}

-- whatever was read before
pub after_any : {A B : Type 0} (Q : B → Type 0) (r : Result A Fault) (f : A → Result B Fault) → ((x : A) → Has Q (f x)) → Has Q (r >>= f)
after_any Q (Ok x) f g = g x
after_any Q (Err e) f g = tt

pub each_drop : (n : ℕ) (ws : Words) → Each ws → Each (drop n ws)
each_drop zero ws e = e
each_drop (suc n) [] e = tt
each_drop (suc n) (w ∷ ws) e = each_drop n ws e.1

pub uncovered_fine : (rules : List NatRule) (rows : List Words) (ws : Words) (g : Bool) → Has (IsFineAction rules) (uncovered rows ws (action.Pass g))
uncovered_fine rules rows ws g = go (option_map length (find (fits_row ws) rows))
  where
    go : (o : Option ℕ) → Has (IsFineAction rules) (refused_by ws o (action.Pass g))
    go None = tt
    go (Some n) = tt

-- ---- interfaces

abbrev IsWrittenAddress : WrittenAddress × Words → Type 0
IsWrittenAddress a = IsAddress a.0.subnet

written_has : (line : ℕ) (ws : Words) → Each ws → Has IsWrittenAddress (written_at line ws)
unfolding written_at
written_has line ws e = then_has (λ a. (a.0 < 4294967296) × Each a.1) IsWrittenAddress (address_at (command_refuses command_part.Address) ws) _ (address_has (command_refuses command_part.Address) ws e) (λ a h.
    then_has (λ m. (1 ≤ m.0) × Each m.1) IsWrittenAddress (mask_at (command_refuses command_part.Address) 1 a.1) _ (mask_has (command_refuses command_part.Address) 1 a.1 h.1) (λ m k.
    record { address = h.0; some = omega (arith, k.0) }))

fine_address : (b : Bool) (a : WrittenAddress) → IsAddress a.subnet → IsFineChange (address_change b a)
fine_address true a h = h
fine_address false a h = h

module _ (rules : List NatRule) where
  pub address_fine : (n : Word) (line : ℕ) (ws : Words) → IsName n → Each ws → Has (IsFineAction rules) (address_action n line ws)
  unfolding address_action
  address_fine n line ws k e = then_has IsWrittenAddress (IsFineAction rules) (written_at line ws) _ (written_has line ws e) (λ a h.
      after_any (IsFineAction rules) (ended (command_refuses command_part.Address) (after_secondary (begins_secondary a.1) a.1)) _ (λ u. (k, fine_address (begins_secondary a.1) a.0 h)))

  pub plain_fine : (n : Word) (c : Change) (ws : Words) → IsName n → IsFineChange c → Has (IsFineAction rules) (plain_action n c ws)
  unfolding plain_action
  plain_fine n c ws k f = after_any (IsFineAction rules) (ended none_refused ws) _ (λ u. (k, f))

  direction_has : (list : Word) (ws : Words) → IsWord list → Has (λ c. IsFineChange c.0) (direction_at list ws)
  unfolding direction_at
  direction_has list ws l = after_any (λ c. IsFineChange c.0) (next_word ws) _ (λ w.
      if_has (λ c. IsFineChange c.0) (bytes_eq w.0 (codes "in")) (Ok (change.Input list, w.1)) _ (λ b. l) (λ b.
      if_has (λ c. IsFineChange c.0) (bytes_eq w.0 (codes "out")) (Ok (change.Output list, w.1)) (Err (fault_of kind.BadWord w.0)) (λ b. l) (λ b. tt)))

  pub group_fine : (n : Word) (ws : Words) → IsName n → Each ws → Has (IsFineAction rules) (group_action n ws)
  unfolding group_action
  group_fine n ws k e = then_has (λ w. IsWord w.0 × Each w.1) (IsFineAction rules) (next_word ws) _ (next_has ws e) (λ w h.
      then_has (λ c. IsFineChange c.0) (IsFineAction rules) (direction_at w.0 w.1) _ (direction_has w.0 w.1 h.0) (λ c f.
      after_any (IsFineAction rules) (ended none_refused c.1) _ (λ u. (k, f))))

  pub interface_fine : (ws : Words) → Each ws → Has (IsFineAction rules) (interface_action ws)
  unfolding interface_action
  interface_fine ws e = then_has (λ w. IsWord w.0 × Each w.1) (IsFineAction rules) (next_word ws) _ (next_has ws e) (λ w h.
      after_any (IsFineAction rules) (ended none_refused (after_link_kind w.1)) _ (λ u.
      if_has (IsFineAction rules) (bytes_eq w.0 (codes "Null0")) (Ok (action.Pass true)) (Ok (action.Interface w.0 change.Open)) (λ b. tt) (λ b. ((h.0, b), tt))))

-- ---- routes

prefix_has : (ws : Words) → Each ws → Has (λ p. (p.0.address < 4294967296) × (is_prefix p.0 ≡ true) × Each p.1) (prefix_at ws)
unfolding prefix_at
prefix_has ws e = then_has (λ a. (a.0 < 4294967296) × Each a.1) (λ p. (p.0.address < 4294967296) × (is_prefix p.0 ≡ true) × Each p.1) (address_at (command_refuses command_part.RoutePrefix) ws) _ (address_has (command_refuses command_part.RoutePrefix) ws e) (λ a h.
    then_has (λ m. (0 ≤ m.0) × Each m.1) (λ p. (p.0.address < 4294967296) × (is_prefix p.0 ≡ true) × Each p.1) (mask_at none_refused 0 a.1) _ (mask_has none_refused 0 a.1 h.1) (λ m k.
    if_has (λ p. (p.0.address < 4294967296) × (is_prefix p.0 ≡ true) × Each p.1) (is_prefix (subnet_of a.0 m.0)) (Ok (subnet_of a.0 m.0, m.1)) _ (λ b. (h.0, b, k.1)) (λ b. tt)))

hop_bound : (ws : Words) (a : ℕ) → hop_of ws ≡ Some a → a < 4294967296
hop_bound [] a h = absurd (cc)
hop_bound (w ∷ ws) a h = address_bound w a h

fine_port : (name : Word) (ws : Words) (o : Option ℕ) → hop_of ws ≡ o → IsPort name → IsExit (port_by name o)
fine_port name ws None e p = p
fine_port name ws (Some a) e p = (p, hop_bound ws a e)

exit_by_has : (w : Word) (ws : Words) (o : Option ℕ) → address_of w ≡ o → IsWord w → command_refuses command_part.RouteTail w ≡ false → IsExit (exit_by o w ws).0
exit_by_has w ws (Some a) e i d = address_bound w a e
exit_by_has w ws None e i d = go (bytes_eq w (codes "Null0")) refl
  where
    go : (b : Bool) → bytes_eq w (codes "Null0") ≡ b → IsExit (cond {A = RouteExit × Words} b (exit.Null, ws) (port_by w (hop_of ws), after_hop (hop_of ws) ws)).0
    go true n = tt
    go false n = fine_port w ws (hop_of ws) refl (record { word = i; other = n; no_address = e; covered = d })

exit_has : (ws : Words) → Each ws → Has (λ x. IsExit x.0) (exit_at ws)
unfolding exit_at
exit_has ws e = then_has (λ w. IsWord w.0 × (command_refuses command_part.RouteTail w.0 ≡ false) × Each w.1) (λ x. IsExit x.0) (allowed_word (command_refuses command_part.RouteTail) ws) _ (allowed_has (command_refuses command_part.RouteTail) ws e) (λ w h. exit_by_has w.0 w.1 (address_of w.0) refl h.0 h.1)

-- a distance that is written is 1 to 255
abbrev IsDistance : Option ℕ → Type 0
IsDistance None = Unit {0}
IsDistance (Some n) = (1 ≤ n) × (n ≤ 255)

abbrev IsOption : RouteOptions × Words → Type 0
IsOption o = IsDistance o.0.distance

free_bounds : (o : RouteOptions) (w : Word) (n : ℕ) → free_distance o w ≡ Some n → (1 ≤ n) × (n ≤ 255)
free_bounds o w n h = (elim (is_some o.distance) as (λ b. cond b None (number_of 1 255 w) ≡ Some n → (1 ≤ n) × (n ≤ 255)) [
  | true ↦ λ k. absurd (cc)
  | false ↦ λ k. number_bounds 1 255 w n k
]) h

distance_has : (o : RouteOptions) (w : Word) (ws : Words) → Has IsOption (distance_option o w ws)
unfolding distance_option
distance_has o w ws = then_has (λ n. (1 ≤ n) × (n ≤ 255)) IsOption (ok_or (free_distance o w) (fault_of kind.ExtraWord w)) _ (some_has (λ n. (1 ≤ n) × (n ≤ 255)) (free_distance o w) (fault_of kind.ExtraWord w) (free_bounds o w)) (λ n k. k)

name_has : (o : RouteOptions) (ws : Words) → IsDistance o.distance → Has IsOption (name_option o ws)
unfolding name_option
name_has o ws d = after_any IsOption (next_word ws) _ (λ w. d)

tag_has : (o : RouteOptions) (ws : Words) → IsDistance o.distance → Has IsOption (tag_option o ws)
unfolding tag_option
tag_has o ws d = after_any IsOption (number_at (command_refuses command_part.RouteTail) 0 4294967295 ws) _ (λ w. d)

option_by_has : (o : RouteOptions) (w : Word) (ws : Words) → IsDistance o.distance → Has IsOption (option_by o w ws)
unfolding option_by
option_by_has o w ws d =
    if_has IsOption (is_name_option o w) (name_option o ws) _ (λ b. name_has o ws d) (λ b.
    if_has IsOption (is_tag_option o w) (tag_option o ws) (distance_option o w ws) (λ b. tag_has o ws d) (λ b. distance_has o w ws))

option_has : (o : RouteOptions) (ws : Words) → IsDistance o.distance → Has IsOption (option_at o ws)
unfolding option_at
option_has o [] d = d
option_has o (x ∷ xs) d = after_any IsOption (allowed_word (command_refuses command_part.RouteTail) (x ∷ xs)) _ (λ w. option_by_has o w.0 w.1 d)

options_has : (ws : Words) → Has (λ o. IsDistance o.distance) (options_at ws)
unfolding options_at
options_has ws =
    then_has IsOption (λ o. IsDistance o.distance) (option_at no_options ws) _ (option_has no_options ws tt) (λ a h.
    then_has IsOption (λ o. IsDistance o.distance) (option_at a.0 a.1) _ (option_has a.0 a.1 h) (λ b k.
    then_has IsOption (λ o. IsDistance o.distance) (option_at b.0 b.1) _ (option_has b.0 b.1 k) (λ c l.
    after_any (λ o. IsDistance o.distance) (ended (command_refuses command_part.RouteTail) c.1) _ (λ u. l))))

distance_bounds : (o : Option ℕ) → IsDistance o → (1 ≤ unwrap_or o 1) × (unwrap_or o 1 ≤ 255)
distance_bounds None d = (omega arith, omega arith)
distance_bounds (Some n) d = d

route_has : (ws : Words) → Each ws → Has IsRoute (route_at ws)
unfolding route_at
route_has ws e =
    then_has (λ p. (p.0.address < 4294967296) × (is_prefix p.0 ≡ true) × Each p.1) IsRoute (prefix_at ws) _ (prefix_has ws e) (λ p h.
    then_has (λ x. IsExit x.0) IsRoute (exit_at p.1) _ (exit_has p.1 h.2) (λ x k.
    then_has (λ o. IsDistance o.distance) IsRoute (options_at x.1) _ (options_has x.1) (λ o d.
    let b = distance_bounds o.distance d in
    record { address = h.0; prefix = h.1; exit = k; some = b.0; most = b.1 })))

pub route_fine : (rules : List NatRule) (line : ℕ) (ws : Words) → Each ws → Has (IsFineAction rules) (route_action line ws)
unfolding route_action
route_fine rules line ws e = then_has IsRoute (IsFineAction rules) (route_at ws) _ (route_has ws e) (λ r h. h)

-- ---- address translation

abbrev IsNew : List NatRule → NatRule → Type 0
IsNew rules r = (has_local rules (local_side r) ≡ false) × (has_global rules (global_side r) ≡ false)

clash_has : (rules : List NatRule) (r : NatRule) (local global : Word) → Has (λ u. IsNew rules r) (clash rules r local global)
clash_has rules r local global =
    if_has (λ u. IsNew rules r) (has_local rules (local_side r)) (Err (fault_of kind.NatClash local)) _ (λ b. tt) (λ b.
    if_has (λ u. IsNew rules r) (has_global rules (global_side r)) (Err (fault_of kind.NatClash global)) (Ok tt) (λ c. tt) (λ c. (b, c)))

module _ (rules : List NatRule) where
  rule_fine : (r : NatRule) (local global : Word) (ws : Words) → r.local < 4294967296 → r.global < 4294967296 → IsPortPair r r.kind → Has (IsFineAction rules) (rule_action rules r local global ws)
  unfolding rule_action
  rule_fine r local global ws l g p =
      then_has (λ u. IsNew rules r) (IsFineAction rules) (clash rules r local global) _ (clash_has rules r local global) (λ u n.
      after_any (IsFineAction rules) (extendable_at ws) _ (λ v. record { local = l; global = g; ports = p; new_local = n.0; new_global = n.1 }))

  address_rule_fine : (ws : Words) → Each ws → Has (IsFineAction rules) (address_rule rules ws)
  unfolding address_rule
  address_rule_fine ws e =
      then_has (λ a. (a.0 < 4294967296) × Each a.1) (IsFineAction rules) (address_at (command_refuses command_part.NatLocal) ws) _ (address_has (command_refuses command_part.NatLocal) ws e) (λ l h.
      then_has (λ a. (a.0 < 4294967296) × Each a.1) (IsFineAction rules) (address_at (command_refuses command_part.NatGlobal) l.1) _ (address_has (command_refuses command_part.NatGlobal) l.1 h.1) (λ g k.
      rule_fine (record { kind = nat.Plain; local = l.0; local_port = 0; global = g.0; global_port = 0 }) (head_word ws) (head_word l.1) g.1 h.0 k.0 (refl, refl)))

  -- the two kinds that have ports
  port_rule_fine : (n : NatKind) → ((r : NatRule) → (1 ≤ r.local_port) × (r.local_port ≤ 65535) × (1 ≤ r.global_port) × (r.global_port ≤ 65535) → IsPortPair r n) → (ws : Words) → Each ws → Has (IsFineAction rules) (port_rule rules n ws)
  unfolding port_rule
  port_rule_fine n ports ws e =
      then_has (λ a. (a.0 < 4294967296) × Each a.1) (IsFineAction rules) (address_at (command_refuses command_part.NatLocal) ws) _ (address_has (command_refuses command_part.NatLocal) ws e) (λ l h.
      then_has (λ p. (1 ≤ p.0) × (p.0 ≤ 65535) × Each p.1) (IsFineAction rules) (number_at none_refused 1 65535 l.1) _ (number_has none_refused 1 65535 l.1 h.1) (λ m i.
      then_has (λ a. (a.0 < 4294967296) × Each a.1) (IsFineAction rules) (address_at (command_refuses command_part.NatGlobal) m.1) _ (address_has (command_refuses command_part.NatGlobal) m.1 i.2) (λ g k.
      then_has (λ p. (1 ≤ p.0) × (p.0 ≤ 65535) × Each p.1) (IsFineAction rules) (number_at none_refused 1 65535 g.1) _ (number_has none_refused 1 65535 g.1 k.1) (λ q j.
      let r : NatRule = record { kind = n; local = l.0; local_port = m.0; global = g.0; global_port = q.0 } in
      rule_fine r (head_word ws) (head_word m.1) q.1 h.0 k.0 (ports r (i.0, i.1, j.0, j.1))))))

  pub static_fine : (ws : Words) → Each ws → Has (IsFineAction rules) (static_action rules ws)
  unfolding static_action
  static_fine ws e =
      then_has (λ w. IsWord w.0 × (command_refuses command_part.NatLocal w.0 ≡ false) × Each w.1) (IsFineAction rules) (allowed_word (command_refuses command_part.NatLocal) ws) _ (allowed_has (command_refuses command_part.NatLocal) ws e) (λ w h.
      if_has (IsFineAction rules) (bytes_eq w.0 (codes "tcp")) (port_rule rules nat.Tcp w.1) _ (λ b. port_rule_fine nat.Tcp (λ r p. p) w.1 h.2) (λ b.
      if_has (IsFineAction rules) (bytes_eq w.0 (codes "udp")) (port_rule rules nat.Udp w.1) (address_rule rules ws) (λ c. port_rule_fine nat.Udp (λ r p. p) w.1 h.2) (λ c. address_rule_fine ws e)))

  pub outer_fine : (ws : Words) → Each ws → Has (IsFineAction rules) (outer_action rules ws)
  unfolding outer_action
  outer_fine ws e =
      then_has (λ a. (a.0 < 4294967296) × Each a.1) (IsFineAction rules) (address_at (command_refuses command_part.OuterGlobal) ws) _ (address_has (command_refuses command_part.OuterGlobal) ws e) (λ g h.
      then_has (λ a. (a.0 < 4294967296) × Each a.1) (IsFineAction rules) (address_at none_refused g.1) _ (address_has none_refused g.1 h.1) (λ l k.
      rule_fine (record { kind = nat.Outer; local = l.0; local_port = 0; global = g.0; global_port = 0 }) (head_word g.1) (head_word ws) l.1 k.0 h.0 (refl, refl)))
