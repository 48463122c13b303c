-- The line of a rule of address translation is read as it.
use Rattle.std.proofs.Common.{◌≡◌, ℕ, ◌+◌, ◌<◌, ◌≤◌, false, List, [], ◌∷◌, ◌++◌, map, refl, sym, ap, subst, ◌∙◌, arith, append-nil, append_assoc}
use Rattle.std.specs.Prelude.{Ok, codes, decimal}
use Rattle.net_types.specs.declared.config.Config.{Config}
use Rattle.net_types.specs.declared.config.NatRule.{NatRule}
use Rattle.net_types.specs.declared.config.NatKind.{NatKind}
use Rattle.net_types.specs.declared.config.NatKind.TheVariants as nat
use Rattle.ios_commands.specs.declared.refused.CommandPart.TheVariants as command_part
use Rattle.ios_commands.specs.Refused.{command_refuses}
use Rattle.ios_lines.specs.declared.effect.Action.TheVariants as action
use Rattle.ios_lines.specs.declared.effect.Effect.TheVariants as effect
use Rattle.ios_lines.specs.declared.effect.Section.{Section}
use Rattle.ios_lines.specs.declared.effect.Section.TheVariants as section
use Rattle.ios_lines.specs.Words.{Word, Words, address_at, number_at, allowed_word}
use Rattle.ios_commands.specs.Translation.{rule_action, extendable_at, address_rule, port_rule, static_action, outer_action}
use Rattle.ios_config.specs.Effects.{Seen, command_action, global_command}
use Rattle.ios_config.specs.Draft.{Parts, parts_after}
use Rattle.ios_print.specs.Print.{address_word, sides_with_ports, rule_words, row_of, rule_row}
use Rattle.ios_print.specs.Printable.{IsPortPair, IsRule, AreRules}
use Rattle.ios_print.proofs.Digits.{address_back, digital_address, number_back, other_word}
use Rattle.ios_print.proofs.Runs.{Shows, seen_by, Goes}

ruled : (rules : List NatRule) (r : NatRule) (l g : Word) → IsRule rules r → rule_action rules r l g [] ≡ Ok (action.Nat r)
unfolding rule_action extendable_at
ruled rules r l g is = rw (is.new_local, is.new_global) refl

local_covered : (a : ℕ) → a < 4294967296 → command_refuses command_part.NatLocal (address_word a) ≡ false
local_covered a h = let d = digital_address a h in rw (other_word (address_word a) 110 (codes "etwork") d refl, other_word (address_word a) 101 (codes "sp") d refl) refl

global_covered : (a : ℕ) → a < 4294967296 → command_refuses command_part.NatGlobal (address_word a) ≡ false
global_covered a h = other_word (address_word a) 105 (codes "nterface") (digital_address a h) refl

outer_covered : (a : ℕ) → a < 4294967296 → command_refuses command_part.OuterGlobal (address_word a) ≡ false
outer_covered a h =
    let d = digital_address a h in
    rw (other_word (address_word a) 110 (codes "etwork") d refl, other_word (address_word a) 116 (codes "cp") d refl, other_word (address_word a) 117 (codes "dp") d refl, other_word (address_word a) 101 (codes "sp") d refl) refl

abbrev plain : ℕ → ℕ → NatRule
plain l g = record { kind = nat.Plain; local = l; local_port = 0; global = g; global_port = 0 }

plain_read : (rules : List NatRule) (l g : ℕ) → l < 4294967296 → g < 4294967296
    → static_action rules (address_word l ∷ address_word g ∷ []) ≡ rule_action rules (plain l g) (address_word l) (address_word g) []
unfolding static_action address_rule address_at allowed_word
plain_read rules l g a b =
    let d = digital_address l a in
    rw (local_covered l a, other_word (address_word l) 116 (codes "cp") d refl, other_word (address_word l) 117 (codes "dp") d refl, address_back l a, global_covered g b, address_back g b) refl

abbrev ported : NatKind → ℕ → ℕ → ℕ → ℕ → NatRule
ported k l m g n = record { kind = k; local = l; local_port = m; global = g; global_port = n }

ports_read : (rules : List NatRule) (k : NatKind) (l m g n : ℕ) → l < 4294967296 → g < 4294967296 → 1 ≤ m → m ≤ 65535 → 1 ≤ n → n ≤ 65535
    → port_rule rules k (address_word l ∷ decimal m ∷ address_word g ∷ decimal n ∷ []) ≡ rule_action rules (ported k l m g n) (address_word l) (address_word g) []
unfolding port_rule address_at number_at allowed_word
ports_read rules k l m g n a b c d e f =
    rw (local_covered l a, address_back l a, number_back 1 65535 m (omega (arith, d)) c d, global_covered g b, address_back g b, number_back 1 65535 n (omega (arith, f)) e f) refl

tcp_read : (rules : List NatRule) (ws : Words) → static_action rules (codes "tcp" ∷ ws) ≡ port_rule rules nat.Tcp ws
unfolding static_action allowed_word
tcp_read rules ws = refl

udp_read : (rules : List NatRule) (ws : Words) → static_action rules (codes "udp" ∷ ws) ≡ port_rule rules nat.Udp ws
unfolding static_action allowed_word
udp_read rules ws = refl

rule_made : (l g : ℕ) {j k : NatKind} {m n p q : ℕ} → j ≡ k → m ≡ n → p ≡ q → ported j l m g p ≡ ported k l n g q
rule_made l g a b c = cc

plain_done : (rules : List NatRule) (r : NatRule) → r.kind ≡ nat.Plain → r.local_port ≡ 0 → r.global_port ≡ 0 → IsRule rules r → static_action rules (rule_words r nat.Plain) ≡ Ok (action.Nat r)
plain_done rules r e p q is =
    plain_read rules r.local r.global is.local is.global
    ∙ ap (λ x. rule_action rules x (address_word r.local) (address_word r.global) []) (rule_made r.local r.global (sym e) (sym p) (sym q))
    ∙ ruled rules r (address_word r.local) (address_word r.global) is

tcp_done : (rules : List NatRule) (r : NatRule) → r.kind ≡ nat.Tcp → IsPortPair r nat.Tcp → IsRule rules r → static_action rules (rule_words r nat.Tcp) ≡ Ok (action.Nat r)
tcp_done rules r e p is =
    tcp_read rules (sides_with_ports r)
    ∙ ports_read rules nat.Tcp r.local r.local_port r.global r.global_port is.local is.global p.0 p.1 p.2 p.3
    ∙ ap (λ x. rule_action rules x (address_word r.local) (address_word r.global) []) (rule_made r.local r.global (sym e) refl refl)
    ∙ ruled rules r (address_word r.local) (address_word r.global) is

udp_done : (rules : List NatRule) (r : NatRule) → r.kind ≡ nat.Udp → IsPortPair r nat.Udp → IsRule rules r → static_action rules (rule_words r nat.Udp) ≡ Ok (action.Nat r)
udp_done rules r e p is =
    udp_read rules (sides_with_ports r)
    ∙ ports_read rules nat.Udp r.local r.local_port r.global r.global_port is.local is.global p.0 p.1 p.2 p.3
    ∙ ap (λ x. rule_action rules x (address_word r.local) (address_word r.global) []) (rule_made r.local r.global (sym e) refl refl)
    ∙ ruled rules r (address_word r.local) (address_word r.global) is

abbrev outer : ℕ → ℕ → NatRule
outer l g = record { kind = nat.Outer; local = l; local_port = 0; global = g; global_port = 0 }

outer_read : (rules : List NatRule) (l g : ℕ) → l < 4294967296 → g < 4294967296
    → outer_action rules (address_word g ∷ address_word l ∷ []) ≡ rule_action rules (outer l g) (address_word l) (address_word g) []
unfolding outer_action address_at allowed_word
outer_read rules l g a b = rw (outer_covered g b, address_back g b, address_back l a) refl

outer_done : (rules : List NatRule) (r : NatRule) → r.kind ≡ nat.Outer → r.local_port ≡ 0 → r.global_port ≡ 0 → IsRule rules r → outer_action rules (rule_words r nat.Outer) ≡ Ok (action.Nat r)
outer_done rules r e p q is =
    outer_read rules r.local r.global is.local is.global
    ∙ ap (λ x. rule_action rules x (address_word r.local) (address_word r.global) []) (rule_made r.local r.global (sym e) (sym p) (sym q))
    ∙ ruled rules r (address_word r.local) (address_word r.global) is

row_done : (seen : Seen) (n : ℕ) (r : NatRule) (k : NatKind) → r.kind ≡ k → IsPortPair r k → IsRule seen.nat r → command_action seen n false (row_of r k).1 ≡ Ok (action.Nat r)
unfolding command_action global_command
row_done seen n r nat.Plain e p is = plain_done seen.nat r e p.0 p.1 is
row_done seen n r nat.Tcp e p is = tcp_done seen.nat r e p is
row_done seen n r nat.Udp e p is = udp_done seen.nat r e p is
row_done seen n r nat.Outer e p is = outer_done seen.nat r e p.0 p.1 is

rule_done : (seen : Seen) (n : ℕ) (r : NatRule) → IsRule seen.nat r → command_action seen n false (rule_row r).1 ≡ Ok (action.Nat r)
rule_done seen n r is = row_done seen n r r.kind refl is.ports is

abbrev pub with_rules : Config → List NatRule → Config
with_rules c rs = record c { nat = rs }

no_more : (n : ℕ) → n + 0 ≡ n
no_more n = omega arith

rule_shows : (c : Config) (rs : List NatRule) (s : Section) (r : NatRule) (p : Parts) → Shows (with_rules c rs) s p → Shows (with_rules c (rs ++ r ∷ [])) section.Other (parts_after p (effect.Act (action.Nat r)))
rule_shows c rs s r p h = record {
  host = h.host;
  names = h.names;
  interfaces = h.interfaces;
  routes = ap (map (λ r. r.route)) (append-nil p.routes) ∙ h.routes;
  nat = ap (λ xs. xs ++ r ∷ []) h.nat;
  list_names = h.list_names;
  lists = h.lists;
  section = refl;
  covered = h.covered;
  passed = no_more p.passed ∙ h.passed;
}

pub rules_go : (c : Config) (before rs : List NatRule) (s : Section) → AreRules before rs → (t : Section) × Goes (map rule_row rs) (with_rules c before) s (with_rules c (before ++ rs)) t
rules_go c before [] s k = (s, (ap (with_rules c) (sym (append-nil before)), refl))
rules_go c before (r ∷ rs) s k =
    let rest = rules_go c (before ++ r ∷ []) rs section.Other k.1 in (
      rest.0,
      (
        with_rules c (before ++ r ∷ []),
        section.Other,
        record { plain = refl; command = refl; acts = λ p n h. (action.Nat r, rule_done (seen_by p) n r (subst (λ x. IsRule x r) (sym h.nat) k.0), rule_shows c before s r p h) },
        subst (λ x. Goes (map rule_row rs) (with_rules c (before ++ r ∷ [])) section.Other (with_rules c x) rest.0) (append_assoc before (r ∷ []) rs) rest.1,
      ),
    )
