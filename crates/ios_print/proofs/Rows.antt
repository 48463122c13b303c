-- The rows of a printable configuration have words.
use Rattle.std.proofs.Common.{ℕ, ◌<◌, ◌≤◌, Bool, true, false, cond, ◌==◌, List, [], ◌∷◌, ◌++◌, map, arith, rules}
use Rattle.std.specs.Prelude.{flat_map, Option, Some, None, codes, decimal, option_to_list, bit_and}
use Rattle.std.specs.List.{AllByRecursion}
use Rattle.net_text.specs.Texts.{IsWord, AreWords}
use Rattle.net_text.proofs.Spelled.{AreRows}
use Rattle.net_types.specs.declared.config.Config.{Config}
use Rattle.net_types.specs.declared.config.Interface.{Interface}
use Rattle.net_types.specs.declared.config.Subnet.{Subnet}
use Rattle.net_types.specs.declared.config.Side.{Side}
use Rattle.net_types.specs.declared.config.Side.TheVariants as side
use Rattle.net_types.specs.declared.config.Route.{Route}
use Rattle.net_types.specs.declared.config.RouteExit.{RouteExit}
use Rattle.net_types.specs.declared.config.RouteExit.TheVariants as exit
use Rattle.net_types.specs.declared.config.NatRule.{NatRule}
use Rattle.net_types.specs.declared.config.NatKind.{NatKind}
use Rattle.net_types.specs.declared.config.NatKind.TheVariants as nat
use Rattle.net_types.specs.declared.config.AccessList.{AccessList}
use Rattle.net_types.specs.declared.config.Entry.{Entry}
use Rattle.net_types.specs.declared.config.Masked.{Masked}
use Rattle.net_types.specs.declared.config.PortTest.{PortTest}
use Rattle.net_types.specs.declared.config.PortTest.TheVariants as ports
use Rattle.net_types.specs.declared.config.IcmpTest.{IcmpTest}
use Rattle.net_types.specs.declared.config.IcmpTest.TheVariants as icmp
use Rattle.net_types.specs.declared.config.FlagTest.{FlagTest}
use Rattle.net_types.specs.declared.config.FlagTest.TheVariants as flags
use Rattle.ios_words.specs.Words.{mask_of}
use Rattle.ios_lines.specs.Words.{Word, Words}
use Rattle.ios_print.specs.Print.{Row, subnet_words, primary_row, secondary_row, shut_rows, group_row, side_rows, interface_rows, exit_words, route_row, sides_with_ports, rule_words, rule_side, rule_row, kind_word, verb_word, masked_words, proto_word, port_words, icmp_words, flag_word, flag_names, mask_words, flag_words, entry_words, entry_row, list_rows, config_rows}
use Rattle.ios_print.specs.Printable.{IsAddress, IsAddressIfAny, IsWordIfAny, IsInterface, AreInterfaces, IsExit, AreRoutes, IsPortPair, AreRules}
use Rattle.ios_print.specs.PrintableLists.{IsMasked, IsProto, IsPortNumber, IsPortTest, IsIcmpTest, IsEntry, AreEntries, AreLists}
use Rattle.ios_print.specs.PrintableConfig.{IsPrintable}
use Rattle.ios_print.proofs.Digits.{number_word, address_is_word}
use Rattle.ios_print.proofs.Masks.{mask_bound}

-- every word of a list, also of an empty one
abbrev Each : Words → Type 0
Each ws = AllByRecursion IsWord ws

each_on : (ws vs : Words) → Each ws → Each vs → Each (ws ++ vs)
each_on [] vs a b = b
each_on (w ∷ ws) vs a b = (a.0, each_on ws vs a.1 b)

are_words : (w : Word) (ws : Words) → IsWord w → Each ws → AreWords (w ∷ ws)
are_words w [] h a = h
are_words w (v ∷ ws) h a = (h, are_words v ws a.0 a.1)

rows_on : (rs qs : List Row) → AreRows rs → AreRows qs → AreRows (rs ++ qs)
rows_on [] qs a b = b
rows_on (r ∷ rs) qs a b = (a.0, rows_on rs qs a.1 b)

-- ---- interfaces

subnet_each : (s : Subnet) → s.address < 4294967296 → Each (subnet_words s)
subnet_each s h = (address_is_word s.address h, (address_is_word (mask_of s.length) (mask_bound s.length s.in_range), tt))

primary_rows : (o : Option Subnet) → IsAddressIfAny o → AreRows (map primary_row (option_to_list o))
primary_rows None a = tt
primary_rows (Some s) a = (are_words (codes "ip") (codes "address" ∷ subnet_words s) (search rules) (search rules, subnet_each s a.address), tt)

secondary_rows : (ss : List Subnet) → AllByRecursion IsAddress ss → AreRows (map secondary_row ss)
secondary_rows [] a = tt
secondary_rows (s ∷ ss) a = (are_words (codes "ip") (codes "address" ∷ subnet_words s ++ codes "secondary" ∷ []) (search rules) (search rules, each_on (subnet_words s) (codes "secondary" ∷ []) (subnet_each s a.0.address) (search rules, tt)), secondary_rows ss a.1)

shut_row : (b : Bool) → AreRows (shut_rows b)
shut_row true = (search rules, tt)
shut_row false = tt

input_rows : (o : Option Word) → IsWordIfAny o → AreRows (map (group_row (codes "in")) (option_to_list o))
input_rows None a = tt
input_rows (Some w) a = ((search rules, (search rules, (a, search rules))), tt)

output_rows : (o : Option Word) → IsWordIfAny o → AreRows (map (group_row (codes "out")) (option_to_list o))
output_rows None a = tt
output_rows (Some w) a = ((search rules, (search rules, (a, search rules))), tt)

side_row : (s : Side) → AreRows (side_rows s)
side_row side.Neither = tt
side_row side.Inside = ((search rules, (search rules, search rules)), tt)
side_row side.Outside = ((search rules, (search rules, search rules)), tt)

interface_row : (before : Words) (i : Interface) → IsInterface before i → AreRows (interface_rows i)
interface_row before i is = (
  (search rules, is.name),
  rows_on (map primary_row (option_to_list i.primary)) (map secondary_row i.secondary ++ (shut_rows i.shut ++ (map (group_row (codes "in")) (option_to_list i.input) ++ (map (group_row (codes "out")) (option_to_list i.output) ++ (side_rows i.side))))) (primary_rows i.primary is.primary)
      (rows_on (map secondary_row i.secondary) (shut_rows i.shut ++ (map (group_row (codes "in")) (option_to_list i.input) ++ (map (group_row (codes "out")) (option_to_list i.output) ++ (side_rows i.side)))) (secondary_rows i.secondary is.secondary)
      (rows_on (shut_rows i.shut) (map (group_row (codes "in")) (option_to_list i.input) ++ (map (group_row (codes "out")) (option_to_list i.output) ++ (side_rows i.side))) (shut_row i.shut)
      (rows_on (map (group_row (codes "in")) (option_to_list i.input)) (map (group_row (codes "out")) (option_to_list i.output) ++ side_rows i.side) (input_rows i.input is.input)
      (rows_on (map (group_row (codes "out")) (option_to_list i.output)) (side_rows i.side) (output_rows i.output is.output) (side_row i.side))))),
)

interfaces_rows : (before : Words) (is : List Interface) → AreInterfaces before is → AreRows (flat_map interface_rows is)
interfaces_rows before [] a = tt
interfaces_rows before (i ∷ is) a = rows_on (interface_rows i) (flat_map interface_rows is) (interface_row before i a.0) (interfaces_rows (before ++ i.name ∷ []) is a.1)

-- ---- routes and rules

exit_each : (x : RouteExit) → IsExit x → Each (exit_words x)
exit_each exit.Null a = (search rules, tt)
exit_each (exit.Port name) a = (a.word, tt)
exit_each (exit.Both name next) a = (a.0.word, (address_is_word next a.1, tt))
exit_each (exit.Next next) a = (address_is_word next a, tt)

routes_rows : (rs : List Route) → AreRoutes rs → AreRows (map route_row rs)
routes_rows [] a = tt
routes_rows (r ∷ rs) a = (
  are_words (codes "ip") (codes "route" ∷ subnet_words r.prefix ++ (exit_words r.exit ++ (decimal r.distance ∷ []))) (search rules) (
    search rules,
    each_on (subnet_words r.prefix) (exit_words r.exit ++ decimal r.distance ∷ []) (subnet_each r.prefix a.0.address)
        (each_on (exit_words r.exit) (decimal r.distance ∷ []) (exit_each r.exit a.0.exit) (number_word r.distance (omega (arith, a.0.most)), tt)),
  ),
  routes_rows rs a.1,
)

sides_each : (r : NatRule) → r.local < 4294967296 → r.global < 4294967296 → r.local_port ≤ 65535 → r.global_port ≤ 65535 → Each (sides_with_ports r)
sides_each r a b c d = (address_is_word r.local a, (number_word r.local_port (omega (arith, c)), (address_is_word r.global b, (number_word r.global_port (omega (arith, d)), tt))))

rule_each : (r : NatRule) (k : NatKind) → r.local < 4294967296 → r.global < 4294967296 → IsPortPair r k → Each (rule_words r k)
rule_each r nat.Plain a b p = (address_is_word r.local a, (address_is_word r.global b, tt))
rule_each r nat.Tcp a b p = (search rules, sides_each r a b p.1 p.3)
rule_each r nat.Udp a b p = (search rules, sides_each r a b p.1 p.3)
rule_each r nat.Outer a b p = (address_is_word r.global b, (address_is_word r.local a, tt))

side_is_word : (k : NatKind) → IsWord (rule_side k)
side_is_word nat.Plain = search rules
side_is_word nat.Tcp = search rules
side_is_word nat.Udp = search rules
side_is_word nat.Outer = search rules

rules_rows : (before rs : List NatRule) → AreRules before rs → AreRows (map rule_row rs)
rules_rows before [] a = tt
rules_rows before (r ∷ rs) a = (
  are_words (codes "ip") (codes "nat" ∷ rule_side r.kind ∷ codes "source" ∷ codes "static" ∷ rule_words r r.kind) (search rules)
      (search rules, (side_is_word r.kind, (search rules, (search rules, rule_each r r.kind a.0.local a.0.global a.0.ports)))),
  rules_rows (before ++ r ∷ []) rs a.1,
)

-- ---- lists

masked_each : (m : Masked) → IsMasked m → Each (masked_words m)
masked_each m is = (address_is_word m.value is.value, (address_is_word m.wild is.wild, tt))

proto_is_word : (p : Option ℕ) → IsProto p → IsWord (proto_word p)
proto_is_word None is = search rules
proto_is_word (Some p) is = number_word p (omega (arith, is.1))

numbers_each : (ns : List ℕ) → AllByRecursion IsPortNumber ns → Each (map decimal ns)
numbers_each [] a = tt
numbers_each (n ∷ ns) a = (number_word n (omega (arith, a.0)), numbers_each ns a.1)

ports_each : (p : Option ℕ) (t : PortTest) → IsPortTest p t → Each (port_words t)
ports_each p ports.Any is = tt
ports_each p (ports.Eq ns) is = (search rules, numbers_each ns is.3)
ports_each p (ports.Neq n) is = (search rules, (number_word n (omega (arith, is.1)), tt))
ports_each p (ports.Gt n) is = (search rules, (number_word n (omega (arith, is.1)), tt))
ports_each p (ports.Lt n) is = (search rules, (number_word n (omega (arith, is.1)), tt))
ports_each p (ports.Range n m) is = (search rules, (number_word n (omega (arith, is.1)), (number_word m (omega (arith, is.2)), tt)))

icmp_each : (p : Option ℕ) (i : IcmpTest) → IsIcmpTest p i → Each (icmp_words i)
icmp_each p icmp.Any is = tt
icmp_each p (icmp.Kind k) is = (number_word k (omega (arith, is.1)), tt)
icmp_each p (icmp.Exact k c) is = (number_word k (omega (arith, is.1)), (number_word c (omega (arith, is.2)), tt))

mask_each : (sign mask : ℕ) (rows : List (ℕ × Word)) → AllByRecursion (λ f. IsWord (sign ∷ f.1)) rows → Each (flat_map (flag_word sign mask) rows)
mask_each sign mask [] a = tt
mask_each sign mask (f ∷ rows) a = each_on (flag_word sign mask f) (flat_map (flag_word sign mask) rows)
    (elim (bit_and mask f.0 == 0) as (λ t. Each (cond t [] ((sign ∷ f.1) ∷ []))) [ true ↦ tt | false ↦ (a.0, tt) ]) (mask_each sign mask rows a.1)

masks_each : (set clear : ℕ) → Each (mask_words 43 set ++ mask_words 45 clear)
masks_each set clear = each_on (mask_words 43 set) (mask_words 45 clear) (mask_each 43 set flag_names (search rules)) (mask_each 45 clear flag_names (search rules))

flags_each : (f : FlagTest) → Each (flag_words f)
flags_each flags.Any = tt
flags_each (flags.AnyOf set clear) = (search rules, masks_each set clear)
flags_each (flags.AllOf set clear) = (search rules, masks_each set clear)

entry_each : (extended : Bool) (e : Entry) → IsEntry extended e → Each (entry_words extended e)
entry_each true e is = (
  proto_is_word e.proto is.proto,
  each_on (masked_words e.src) (port_words e.sport ++ (masked_words e.dst ++ (port_words e.dport ++ (icmp_words e.icmp ++ (flag_words e.flags))))) (masked_each e.src is.src)
      (each_on (port_words e.sport) (masked_words e.dst ++ (port_words e.dport ++ (icmp_words e.icmp ++ (flag_words e.flags)))) (ports_each e.proto e.sport is.sport)
      (each_on (masked_words e.dst) (port_words e.dport ++ (icmp_words e.icmp ++ (flag_words e.flags))) (masked_each e.dst is.dst)
      (each_on (port_words e.dport) (icmp_words e.icmp ++ flag_words e.flags) (ports_each e.proto e.dport is.dport)
      (each_on (icmp_words e.icmp) (flag_words e.flags) (icmp_each e.proto e.icmp is.icmp) (flags_each e.flags))))),
)
entry_each false e is = masked_each e.src is.src

verb_is_word : (b : Bool) → IsWord (verb_word b)
verb_is_word true = search rules
verb_is_word false = search rules

entries_rows : (extended : Bool) (below : ℕ) (es : List Entry) → AreEntries extended below es → AreRows (map (entry_row extended) es)
entries_rows extended below [] a = tt
entries_rows extended below (e ∷ es) a = (are_words (decimal e.sequence) (verb_word e.permit ∷ entry_words extended e) (number_word e.sequence (omega (arith, a.1))) (verb_is_word e.permit, entry_each extended e a.2), entries_rows extended e.sequence es a.3)

kind_is_word : (b : Bool) → IsWord (kind_word b)
kind_is_word true = search rules
kind_is_word false = search rules

lists_rows : (before : Words) (ls : List AccessList) → AreLists before ls → AreRows (flat_map list_rows ls)
lists_rows before [] a = tt
lists_rows before (l ∷ ls) a = rows_on (list_rows l) (flat_map list_rows ls) ((search rules, (search rules, (kind_is_word l.extended, a.0.name))), entries_rows l.extended 0 l.entries a.0.entries) (lists_rows (before ++ l.name ∷ []) ls a.1)

pub all_rows : (c : Config) → IsPrintable c → AreRows (config_rows c)
all_rows c is = (
  (search rules, is.hostname),
  rows_on (flat_map interface_rows c.interfaces) (map route_row c.routes ++ (map rule_row c.nat ++ (flat_map list_rows c.lists))) (interfaces_rows [] c.interfaces is.interfaces)
      (rows_on (map route_row c.routes) (map rule_row c.nat ++ flat_map list_rows c.lists) (routes_rows c.routes is.routes)
      (rows_on (map rule_row c.nat) (flat_map list_rows c.lists) (rules_rows [] c.nat is.nat) (lists_rows [] c.lists is.lists))),
)
