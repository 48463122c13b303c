-- What an entry of an access list is, where its words are read as one.
use Rattle.std.proofs.Common.{◌≡◌, inl, inr, ℕ, ◌-◌, ◌%◌, ◌<◌, ◌≤◌, zero, suc, Bool, true, false, cond, not, ◌&&◌, ◌==◌, List, [], ◌∷◌, length, take, drop, refl, ap, subst, ◌∙◌, arith}
use Rattle.std.specs.Prelude.{Option, Some, None, Result, Ok, Err, ok_or, fold, find, codes, bit_and, nat_le, option_map}
use Rattle.std.specs.Option.{option_or}
use Rattle.std.specs.List.{AllByRecursion, list_all}
use Rattle.std.specs.Str.{bytes_eq}
use Rattle.std.proofs.lemmas.Bool.{leb-true, eqb-true}
use Rattle.std.proofs.lemmas.Nat.{and_le_l, and_mask, and_assoc, or_lt, le_or_r}
use Rattle.std.proofs.lemmas.Nat.Bits.{bit_at_and, same_from_bits}
use Rattle.net_text.specs.Texts.{IsWord}
use Rattle.net_types.specs.declared.config.Entry.{Entry}
use Rattle.net_types.specs.declared.config.Masked.{Masked}
use Rattle.net_types.specs.declared.config.PortTest.{PortTest}
use Rattle.net_types.specs.declared.config.PortTest.TheVariants as ports
use Rattle.net_types.specs.declared.config.FlagTest.TheVariants as flags
use Rattle.ios_words.specs.Words.{address_of, number_of, is_within}
use Rattle.ios_words.specs.Names.{value_of, protocols, proto_of, tcp_ports, udp_ports, ports_of, port_of, messages, icmp_of, tcp_flags, flag_of}
use Rattle.ios_lines.specs.declared.fault.Fault.{Fault}
use Rattle.ios_lines.specs.declared.fault.Kind.TheVariants as kind
use Rattle.ios_lists.specs.declared.refused.ListPart.TheVariants as list_part
use Rattle.ios_lists.specs.Refused.{list_refuses}
use Rattle.ios_lines.specs.Words.{none_refused, ◌>>=◌, Word, Words, fault_of, next_word, allowed_word, address_at, ended, hop_of}
use Rattle.ios_lists.specs.declared.trailing.Trailing.{Trailing}
use Rattle.ios_lists.specs.declared.trailing.FlagMasks.{FlagMasks}
use Rattle.ios_lists.specs.Entries.{any_address, one_address, masked_by, host_at, with_wildcard, lone_address, standard_by, standard_at, wild_address, endpoint_by, endpoint_at, after_log, standard_entry, proto_at, port_at, lead, leading, equal_test, other_test, greater_test, less_test, range_test, port_test_by, port_test_of, has_ports, port_test_at, no_trailing, is_log, with_flags, message_test, code_of, after_code, icmp_by, icmp_at, signed_by, signed_of, lead_flag, leading_flags, no_flags, add_flag, signed_at, any_flags, all_flags, bare_flag, flags_at, test_by, trailing_by, trailing_at, trailing_words, extended_entry, entry_at}
use Rattle.ios_print.specs.PrintableLists.{IsMasked, IsProto, IsPortNumber, IsPortTest, IsIcmpTest, IsFlagMask, IsFlagTest, IsEntry}
use Rattle.ios_print.proofs.Has.{Each, Has, then_has, some_has, if_has, next_has, allowed_has, address_bound, address_has, number_bounds}

-- what a step gives doesn't matter
pub any_then : {A B : Type 0} (Q : B → Type 0) (r : Result A Fault) (f : A → Result B Fault) → ((x : A) → Has Q (f x)) → Has Q (r >>= f)
any_then Q (Ok x) f g = g x
any_then Q (Err e) f g = tt

pub each_drop : (n : ℕ) (ws : Words) → Each ws → Each (drop n ws)
each_drop zero [] e = tt
each_drop zero (w ∷ ws) e = e
each_drop (suc n) [] e = tt
each_drop (suc n) (w ∷ ws) e = each_drop n ws e.1

both : (a b : Bool) → (a && b) ≡ true → (a ≡ true) × (b ≡ true)
both true true h = (refl, refl)
both true false h = absurd (cc)
both false b h = absurd (cc)

-- ---- sources and destinations

and_self : (m : ℕ) → bit_and m m ≡ m
and_self m = same_from_bits (bit_and m m) m (λ i. let b = bit_at_and m m i in omega (arith, b))

masked_is : (a w : ℕ) → a < 4294967296 → w < 4294967296 → IsMasked (masked_by a w)
masked_is a w h k = record { value = omega (arith, h, and_le_l a (4294967295 - w)); wild = k; zero = and_assoc (4294967295 - w) a (4294967295 - w) ∙ ap (bit_and a) (and_self (4294967295 - w)) }

one_is : (a : ℕ) → a < 4294967296 → IsMasked (one_address a)
one_is a h = record { value = h; wild = omega arith; zero = let e : bit_and a 4294967295 ≡ a % 4294967296 = and_mask a 32 in omega (arith, e, h) }

any_is : IsMasked any_address
any_is = record { value = omega arith; wild = omega arith; zero = refl }

abbrev IsEnd : Masked × Words → Type 0
IsEnd m = IsMasked m.0 × Each m.1

abbrev IsAddressed : ℕ × Words → Type 0
IsAddressed a = (a.0 < 4294967296) × Each a.1

abbrev IsNext : Word × Words → Type 0
IsNext w = IsWord w.0 × Each w.1

abbrev IsAllowed : (Word → Bool) → Word × Words → Type 0
IsAllowed c w = IsWord w.0 × (c w.0 ≡ false) × Each w.1

bound_has : (w : Word) → Has (λ a. a < 4294967296) (ok_or (address_of w) (fault_of kind.BadWord w))
bound_has w = some_has (λ a. a < 4294967296) (address_of w) (fault_of kind.BadWord w) (address_bound w)

host_has : (c : Word → Bool) (ws : Words) → Each ws → Has IsEnd (host_at c ws)
unfolding host_at
host_has c ws e = then_has IsAddressed IsEnd (address_at c ws) _ (address_has c ws e) (λ a h. (one_is a.0 h.0, h.1))

hop_bound : (ws : Words) (a : ℕ) → hop_of ws ≡ Some a → a < 4294967296
hop_bound [] a h = absurd (cc)
hop_bound (w ∷ ws) a h = address_bound w a h

wildcard_is : (a : ℕ) (ws : Words) (o : Option ℕ) → hop_of ws ≡ o → a < 4294967296 → Each ws → IsEnd (with_wildcard a ws o)
wildcard_is a ws None k h e = (one_is a h, e)
wildcard_is a ws (Some w) k h e = (masked_is a w h (hop_bound ws w k), each_drop 1 ws e)

lone_has : (w : Word) (ws : Words) → Each ws → Has IsEnd (lone_address w ws)
unfolding lone_address
lone_has w ws e = then_has (λ a. a < 4294967296) IsEnd (ok_or (address_of w) (fault_of kind.BadWord w)) _ (bound_has w) (λ a h. wildcard_is a ws (hop_of ws) refl h e)

standard_by_has : (w : Word) (ws : Words) → Each ws → Has IsEnd (standard_by w ws)
standard_by_has w ws e =
    if_has IsEnd (bytes_eq w (codes "any")) (Ok (any_address, ws)) _ (λ b. (any_is, e)) (λ b.
    if_has IsEnd (bytes_eq w (codes "host")) (host_at none_refused ws) (lone_address w ws) (λ c. host_has none_refused ws e) (λ c. lone_has w ws e))

standard_has : (ws : Words) → Each ws → Has IsEnd (standard_at ws)
unfolding standard_at
standard_has ws e = then_has IsNext IsEnd (next_word ws) _ (next_has ws e) (λ w h. standard_by_has w.0 w.1 h.1)

wild_has : (w : Word) (ws : Words) → Each ws → Has IsEnd (wild_address w ws)
unfolding wild_address
wild_has w ws e =
    then_has (λ a. a < 4294967296) IsEnd (ok_or (address_of w) (fault_of kind.BadWord w)) _ (bound_has w) (λ a h.
    then_has IsAddressed IsEnd (address_at (list_refuses list_part.Endpoint) ws) _ (address_has (list_refuses list_part.Endpoint) ws e) (λ m k. (masked_is a m.0 h k.0, k.1)))

endpoint_by_has : (w : Word) (ws : Words) → Each ws → Has IsEnd (endpoint_by w ws)
endpoint_by_has w ws e =
    if_has IsEnd (bytes_eq w (codes "any")) (Ok (any_address, ws)) _ (λ b. (any_is, e)) (λ b.
    if_has IsEnd (bytes_eq w (codes "host")) (host_at (list_refuses list_part.Endpoint) ws) (wild_address w ws) (λ c. host_has (list_refuses list_part.Endpoint) ws e) (λ c. wild_has w ws e))

endpoint_has : (ws : Words) → Each ws → Has IsEnd (endpoint_at ws)
unfolding endpoint_at
endpoint_has ws e = then_has (IsAllowed (list_refuses list_part.Endpoint)) IsEnd (allowed_word (list_refuses list_part.Endpoint) ws) _ (allowed_has (list_refuses list_part.Endpoint) ws e) (λ w h. endpoint_by_has w.0 w.1 h.2)

-- ---- standard entries

-- an entry with this sequence
abbrev pub IsEntryAt : Bool → ℕ → Entry → Type 0
IsEntryAt extended n e = (e.sequence ≡ n) × IsEntry extended e

standard_is : (n : ℕ) (permit : Bool) (ws : Words) → Each ws → Has (IsEntryAt false n) (standard_entry n permit ws)
unfolding standard_entry
standard_is n permit ws e =
    then_has IsEnd (IsEntryAt false n) (standard_at ws) _ (standard_has ws e) (λ s h.
    any_then (IsEntryAt false n) (ended none_refused (after_log s.1)) _ (λ u.
    (refl, record { src = h.0; proto = refl; sport = refl; dst = refl; dport = refl; icmp = refl; flags = refl })))

-- ---- names and numbers

-- what a row of a table stands for passes each test that all rows pass
row_passes : {V : Type 0} (p : V → Bool) (rows : List (Word × V)) (w : Word) (v : V) → list_all (λ r. p r.1) rows ≡ true → value_of rows w ≡ Some v → p v ≡ true
row_passes p [] w v a h = absurd (cc)
row_passes p (r ∷ rows) w v a h = (elim (bytes_eq r.0 w) as (λ b. option_map (λ q. q.1) (cond b (Some r) (find (λ q. bytes_eq q.0 w) rows)) ≡ Some v → p v ≡ true) [
  | true ↦ λ k. let e : r.1 ≡ v = cc in subst (λ x. p x ≡ true) e (both (p r.1) (list_all (λ q. p q.1) rows) a).0
  | false ↦ λ k. row_passes p rows w v (both (p r.1) (list_all (λ q. p q.1) rows) a).1 k
]) h

within : (low high n : ℕ) → is_within low high n ≡ true → (low ≤ n) × (n ≤ high)
within low high n h = let b = both (nat_le low n) (nat_le n high) h in (leb-true low n b.0, leb-true n high b.1)

name_or_number : (low high : ℕ) (rows : List (Word × ℕ)) (w : Word) (n : ℕ) → list_all (λ r. is_within low high r.1) rows ≡ true → option_or (value_of rows w) (number_of low high w) ≡ Some n → (low ≤ n) × (n ≤ high)
name_or_number low high rows w n a h = (elim (value_of rows w) as (λ o. value_of rows w ≡ o → option_or o (number_of low high w) ≡ Some n → (low ≤ n) × (n ≤ high)) [
  | None ↦ λ e k. number_bounds low high w n k
  | Some m ↦ λ e k. within low high n (row_passes (is_within low high) rows w n a (e ∙ k))
]) refl h

proto_bounds : (w : Word) (p : ℕ) → proto_of w ≡ Some p → (1 ≤ p) × (p ≤ 255)
proto_bounds w p h = name_or_number 1 255 protocols w p refl h

ports_small : (p : ℕ) → list_all (λ r. is_within 0 65535 r.1) (ports_of p) ≡ true
ports_small p = elim (p == 6) as (λ b. list_all (λ r. is_within 0 65535 r.1) (cond b tcp_ports (cond (p == 17) udp_ports [])) ≡ true) [
  | true ↦ refl
  | false ↦ elim (p == 17) as (λ b. list_all (λ r. is_within 0 65535 r.1) (cond b udp_ports []) ≡ true) [ true ↦ refl | false ↦ refl ]
]

port_bound : (w : Word) (p n : ℕ) → port_of w p ≡ Some n → n ≤ 65535
port_bound w p n h = (name_or_number 0 65535 (ports_of p) w n (ports_small p) h).1

-- ---- protocols

abbrev IsProtoAt : Option ℕ × Words → Type 0
IsProtoAt p = IsProto p.0 × Each p.1

proto_has : (ws : Words) → Each ws → Has IsProtoAt (proto_at ws)
unfolding proto_at
proto_has ws e =
    then_has (IsAllowed (list_refuses list_part.Protocol)) IsProtoAt (allowed_word (list_refuses list_part.Protocol) ws) _ (allowed_has (list_refuses list_part.Protocol) ws e) (λ w h.
    if_has IsProtoAt (bytes_eq w.0 (codes "ip")) (Ok (None, w.1)) _ (λ b. (tt, h.2)) (λ b.
    then_has (λ p. (1 ≤ p) × (p ≤ 255)) IsProtoAt (ok_or (proto_of w.0) (fault_of kind.BadWord w.0)) _ (some_has (λ p. (1 ≤ p) × (p ≤ 255)) (proto_of w.0) (fault_of kind.BadWord w.0) (proto_bounds w.0)) (λ p k. (k, h.2))))

-- ---- port tests

abbrev IsPortAt : ℕ × Words → Type 0
IsPortAt n = IsPortNumber n.0 × Each n.1

port_has : (p : ℕ) (ws : Words) → Each ws → Has IsPortAt (port_at p ws)
unfolding port_at
port_has p ws e =
    then_has IsNext IsPortAt (next_word ws) _ (next_has ws e) (λ w h.
    then_has IsPortNumber IsPortAt (ok_or (port_of w.0 p) (fault_of kind.BadWord w.0)) _ (some_has IsPortNumber (port_of w.0 p) (fault_of kind.BadWord w.0) (port_bound w.0 p)) (λ n k. (k, h.1)))

leading_small : (p : ℕ) (ws : Words) → AllByRecursion IsPortNumber (leading p ws)
leading_small p [] = tt
leading_small p (w ∷ ws) = (elim (port_of w p) as (λ o. port_of w p ≡ o → AllByRecursion IsPortNumber (lead o (leading p ws))) [
  | None ↦ λ e. tt
  | Some n ↦ λ e. (port_bound w p n e, leading_small p ws)
]) refl

take_small : (k : ℕ) (ns : List ℕ) → AllByRecursion IsPortNumber ns → AllByRecursion IsPortNumber (take k ns)
take_small zero [] a = tt
take_small zero (n ∷ ns) a = tt
take_small (suc k) [] a = tt
take_small (suc k) (n ∷ ns) a = (a.0, take_small k ns a.1)

take_count : (k : ℕ) (ns : List ℕ) → length (take k ns) ≤ k
take_count zero [] = omega arith
take_count zero (n ∷ ns) = omega arith
take_count (suc k) [] = omega arith
take_count (suc k) (n ∷ ns) = omega (arith, take_count k ns)

abbrev IsTestAt : Option ℕ → PortTest × Words → Type 0
IsTestAt p t = IsPortTest p t.0 × Each t.1

equal_has : (p : ℕ) (ws : Words) → has_ports p ≡ true → Each ws → Has (IsTestAt (Some p)) (equal_test p ws)
unfolding equal_test
equal_has p ws h e = then_has IsPortAt (IsTestAt (Some p)) (port_at p ws) _ (port_has p ws e) (λ n k.
    ((h, omega arith, omega (arith, take_count 9 (leading p n.1)), (k.0, take_small 9 (leading p n.1) (leading_small p n.1))), each_drop (length (take 9 (leading p n.1))) n.1 k.1))

other_has : (p : ℕ) (ws : Words) → has_ports p ≡ true → Each ws → Has (IsTestAt (Some p)) (other_test p ws)
unfolding other_test
other_has p ws h e = then_has IsPortAt (IsTestAt (Some p)) (port_at p ws) _ (port_has p ws e) (λ n k. ((h, k.0), k.1))

greater_has : (p : ℕ) (ws : Words) → has_ports p ≡ true → Each ws → Has (IsTestAt (Some p)) (greater_test p ws)
unfolding greater_test
greater_has p ws h e = then_has IsPortAt (IsTestAt (Some p)) (port_at p ws) _ (port_has p ws e) (λ n k. ((h, k.0), k.1))

less_has : (p : ℕ) (ws : Words) → has_ports p ≡ true → Each ws → Has (IsTestAt (Some p)) (less_test p ws)
unfolding less_test
less_has p ws h e = then_has IsPortAt (IsTestAt (Some p)) (port_at p ws) _ (port_has p ws e) (λ n k. ((h, k.0), k.1))

range_has : (p : ℕ) (ws : Words) → has_ports p ≡ true → Each ws → Has (IsTestAt (Some p)) (range_test p ws)
unfolding range_test
range_has p ws h e =
    then_has IsPortAt (IsTestAt (Some p)) (port_at p ws) _ (port_has p ws e) (λ n k.
    then_has IsPortAt (IsTestAt (Some p)) (port_at p n.1) _ (port_has p n.1 k.1) (λ m l. ((h, k.0, l.0), l.1)))

test_by_has : (p : ℕ) (w : Word) (rest ws : Words) → has_ports p ≡ true → Each rest → Each ws → Has (IsTestAt (Some p)) (port_test_by p w rest ws)
test_by_has p w rest ws h e f =
    if_has (IsTestAt (Some p)) (bytes_eq w (codes "eq")) (equal_test p rest) _ (λ b. equal_has p rest h e) (λ b.
    if_has (IsTestAt (Some p)) (bytes_eq w (codes "neq")) (other_test p rest) _ (λ b. other_has p rest h e) (λ b.
    if_has (IsTestAt (Some p)) (bytes_eq w (codes "gt")) (greater_test p rest) _ (λ b. greater_has p rest h e) (λ b.
    if_has (IsTestAt (Some p)) (bytes_eq w (codes "lt")) (less_test p rest) _ (λ b. less_has p rest h e) (λ b.
    if_has (IsTestAt (Some p)) (bytes_eq w (codes "range")) (range_test p rest) (Ok (ports.Any, ws)) (λ b. range_has p rest h e) (λ b. (tt, f))))))

test_of_has : (p : ℕ) (ws : Words) → has_ports p ≡ true → Each ws → Has (IsTestAt (Some p)) (port_test_of p ws)
test_of_has p [] h e = (tt, tt)
test_of_has p (w ∷ ws) h e = test_by_has p w ws (w ∷ ws) h e.1 e

test_has : (p : Option ℕ) (ws : Words) → Each ws → Has (IsTestAt p) (port_test_at p ws)
test_has None ws e = (tt, e)
test_has (Some p) ws e = if_has (IsTestAt (Some p)) (has_ports p) (port_test_of p ws) (Ok (ports.Any, ws)) (λ b. test_of_has p ws b e) (λ b. (tt, e))

-- ---- ICMP messages

abbrev IsTrailing : Option ℕ → Trailing → Type 0
IsTrailing p t = IsIcmpTest p t.icmp × IsFlagTest p t.flags

abbrev IsTrailingAt : Option ℕ → Trailing × Words → Type 0
IsTrailingAt p t = IsTrailing p t.0 × Each t.1

abbrev is_small : ℕ × Option ℕ → Bool
is_small (k, None) = is_within 0 255 k
is_small (k, Some c) = is_within 0 255 k && is_within 0 255 c

message_is : (p : Option ℕ) → p ≡ Some 1 → (m : ℕ × Option ℕ) → is_small m ≡ true → IsIcmpTest p (message_test m)
message_is p q (k, None) h = (q, (within 0 255 k h).1)
message_is p q (k, Some c) h = let b = both (is_within 0 255 k) (is_within 0 255 c) h in (q, (within 0 255 k b.0).1, (within 0 255 c b.1).1)

code_bound : (ws : Words) (c : ℕ) → code_of ws ≡ Some c → c ≤ 255
code_bound [] c h = absurd (cc)
code_bound (w ∷ ws) c h = (number_bounds 0 255 w c h).1

coded_is : (p : Option ℕ) → p ≡ Some 1 → (n : ℕ) (ws : Words) (o : Option ℕ) → code_of ws ≡ o → n ≤ 255 → IsIcmpTest p (message_test (n, o))
coded_is p q n ws None e h = (q, h)
coded_is p q n ws (Some c) e h = (q, h, code_bound ws c e)

code_left : (o : Option ℕ) (ws : Words) → Each ws → Each (after_code o ws)
code_left None ws e = e
code_left (Some c) ws e = each_drop 1 ws e

icmp_has : (p : Option ℕ) → p ≡ Some 1 → (t : Trailing) (w : Word) (ws : Words) → IsTrailing p t → Each ws → Has (IsTrailingAt p) (icmp_at t w ws)
icmp_has p q t w ws is e = go (icmp_of w) (number_of 0 255 w) refl refl
  where
    go : (m : Option (ℕ × Option ℕ)) (o : Option ℕ) → icmp_of w ≡ m → number_of 0 255 w ≡ o → Has (IsTrailingAt p) (icmp_by t w ws m o)
    go (Some m) o h k = ((message_is p q m (row_passes is_small messages w m refl h), is.1), e)
    go None (Some n) h k = ((coded_is p q n ws (code_of ws) refl (number_bounds 0 255 w n k).1, is.1), code_left (code_of ws) ws e)
    go None None h k = tt

-- ---- flags

abbrev IsFlag : ℕ → Type 0
IsFlag f = (1 ≤ f) × (f ≤ 32)

abbrev IsSigned : Bool × ℕ → Type 0
IsSigned f = IsFlag f.1

flag_is : (w : Word) (f : ℕ) → flag_of w ≡ Some f → IsFlag f
flag_is w f h = within 1 32 f (row_passes (is_within 1 32) tcp_flags w f refl h)

abbrev IsSignedIfAny : Option (Bool × ℕ) → Type 0
IsSignedIfAny None = Unit {0}
IsSignedIfAny (Some f) = IsSigned f

signed_flag : (b : ℕ) (bs : Word) (o : Option ℕ) → flag_of bs ≡ o → IsSignedIfAny (signed_by b o)
signed_flag b bs None e = tt
signed_flag b bs (Some f) e = elim (b == 43) as (λ t. IsSignedIfAny (cond t (Some (true, f)) (cond (b == 45) (Some (false, f)) None))) [
  | true ↦ flag_is bs f e
  | false ↦ elim (b == 45) as (λ t. IsSignedIfAny (cond t (Some (false, f)) None)) [ true ↦ flag_is bs f e | false ↦ tt ]
]

signed_is : (w : Word) → IsSignedIfAny (signed_of w)
signed_is [] = tt
signed_is (b ∷ bs) = signed_flag b bs (flag_of bs) refl

signed_some : (w : Word) (f : Bool × ℕ) → signed_of w ≡ Some f → IsSigned f
signed_some w f h = subst IsSignedIfAny h (signed_is w)

leading_signed : (ws : Words) → AllByRecursion IsSigned (leading_flags ws)
leading_signed [] = tt
leading_signed (w ∷ ws) = (elim (signed_of w) as (λ o. signed_of w ≡ o → AllByRecursion IsSigned (lead_flag o (leading_flags ws))) [
  | None ↦ λ e. tt
  | Some f ↦ λ e. (signed_some w f e, leading_signed ws)
]) refl

-- one more flag of masks of the six flags
flag_more : (m : FlagMasks) (f : Bool × ℕ) → m.set < 64 → m.clear < 64 → IsSigned f → IsFlagMask (add_flag m f).set (add_flag m f).clear
flag_more m (true, f) h k is = (or_lt 6 m.set f h (omega (arith, is.1)), k, inl (omega (arith, is.0, le_or_r m.set f)))
flag_more m (false, f) h k is = (h, or_lt 6 m.clear f k (omega (arith, is.1)), inr (omega (arith, is.0, le_or_r m.clear f)))

flags_more : (fs : List (Bool × ℕ)) (m : FlagMasks) → IsFlagMask m.set m.clear → AllByRecursion IsSigned fs → IsFlagMask (fold add_flag m fs).set (fold add_flag m fs).clear
flags_more [] m is a = is
flags_more (f ∷ fs) m is a = flags_more fs (add_flag m f) (flag_more m f is.0 is.1 a.0) a.1

abbrev AreFlagsAt : FlagMasks × Words → Type 0
AreFlagsAt m = IsFlagMask m.0.set m.0.clear × Each m.1

signed_has : (ws : Words) → Each ws → Has AreFlagsAt (signed_at ws)
unfolding signed_at
signed_has ws e =
    then_has (IsAllowed (list_refuses list_part.Trailing)) AreFlagsAt (allowed_word (list_refuses list_part.Trailing) ws) _ (allowed_has (list_refuses list_part.Trailing) ws e) (λ w h.
    then_has IsSigned AreFlagsAt (ok_or (signed_of w.0) (fault_of kind.BadWord w.0)) _ (some_has IsSigned (signed_of w.0) (fault_of kind.BadWord w.0) (signed_some w.0)) (λ f k.
    (flags_more (leading_flags w.1) (add_flag no_flags f) (flag_more no_flags f (omega arith) (omega arith) k) (leading_signed w.1), each_drop (length (leading_flags w.1)) w.1 h.2)))

any_flags_has : (p : Option ℕ) → p ≡ Some 6 → (t : Trailing) (ws : Words) → IsTrailing p t → Each ws → Has (IsTrailingAt p) (any_flags t ws)
unfolding any_flags
any_flags_has p q t ws is e = then_has AreFlagsAt (IsTrailingAt p) (signed_at ws) _ (signed_has ws e) (λ m k. ((is.0, (q, k.0)), k.1))

all_flags_has : (p : Option ℕ) → p ≡ Some 6 → (t : Trailing) (ws : Words) → IsTrailing p t → Each ws → Has (IsTrailingAt p) (all_flags t ws)
unfolding all_flags
all_flags_has p q t ws is e = then_has AreFlagsAt (IsTrailingAt p) (signed_at ws) _ (signed_has ws e) (λ m k. ((is.0, (q, k.0)), k.1))

bare_has : (p : Option ℕ) → p ≡ Some 6 → (t : Trailing) (w : Word) (ws : Words) (o : Option ℕ) → flag_of w ≡ o → IsTrailing p t → Each ws → Has (IsTrailingAt p) (bare_flag t w ws o)
bare_has p q t w ws None h is e = tt
bare_has p q t w ws (Some f) h is e = let k = flag_is w f h in ((is.0, (q, (omega (arith, k.1), omega arith, inl (omega (arith, k.0))))), e)

flags_has : (p : Option ℕ) → p ≡ Some 6 → (t : Trailing) (w : Word) (ws : Words) → IsTrailing p t → Each ws → Has (IsTrailingAt p) (flags_at t w ws)
flags_has p q t w ws is e =
    if_has (IsTrailingAt p) (bytes_eq w (codes "established")) (Ok (with_flags t (flags.AnyOf 20 0), ws)) _ (λ b. ((is.0, (q, (omega arith, omega arith, inl (omega arith)))), e)) (λ b.
    if_has (IsTrailingAt p) (bytes_eq w (codes "match-any")) (any_flags t ws) _ (λ c. any_flags_has p q t ws is e) (λ c.
    if_has (IsTrailingAt p) (bytes_eq w (codes "match-all")) (all_flags t ws) (bare_flag t w ws (flag_of w)) (λ d. all_flags_has p q t ws is e) (λ d. bare_has p q t w ws (flag_of w) refl is e)))

-- ---- trailing words

tested_has : (p : Option ℕ) (t : Trailing) (w : Word) (ws : Words) → IsTrailing p t → Each ws → Has (IsTrailingAt p) (test_by p t w ws)
tested_has None t w ws is e = tt
tested_has (Some p) t w ws is e =
    if_has (IsTrailingAt (Some p)) t.tested (Err (fault_of kind.ExtraWord w)) _ (λ b. tt) (λ b.
    if_has (IsTrailingAt (Some p)) (p == 1) (icmp_at t w ws) _ (λ c. icmp_has (Some p) (ap Some (eqb-true p 1 c)) t w ws is e) (λ c.
    if_has (IsTrailingAt (Some p)) (p == 6) (flags_at t w ws) (Err (fault_of kind.ExtraWord w)) (λ d. flags_has (Some p) (ap Some (eqb-true p 6 d)) t w ws is e) (λ d. tt)))

trailing_by_has : (p : Option ℕ) (t : Trailing) (w : Word) (ws : Words) → IsTrailing p t → Each ws → Has (IsTrailingAt p) (trailing_by p t w ws)
trailing_by_has p t w ws is e = if_has (IsTrailingAt p) (is_log w && not t.logged) (Ok (record t { logged = true }, ws)) (test_by p t w ws) (λ b. (is, e)) (λ b. tested_has p t w ws is e)

trailing_has : (p : Option ℕ) (t : Trailing) (ws : Words) → IsTrailing p t → Each ws → Has (IsTrailingAt p) (trailing_at p t ws)
unfolding trailing_at
trailing_has p t [] is e = (is, tt)
trailing_has p t (x ∷ xs) is e = then_has (IsAllowed (list_refuses list_part.Trailing)) (IsTrailingAt p) (allowed_word (list_refuses list_part.Trailing) (x ∷ xs)) _ (allowed_has (list_refuses list_part.Trailing) (x ∷ xs) e) (λ w h. trailing_by_has p t w.0 w.1 is h.2)

trailing_words_has : (p : Option ℕ) (ws : Words) → Each ws → Has (IsTrailing p) (trailing_words p ws)
unfolding trailing_words
trailing_words_has p ws e =
    then_has (IsTrailingAt p) (IsTrailing p) (trailing_at p no_trailing ws) _ (trailing_has p no_trailing ws (tt, tt) e) (λ a h.
    then_has (IsTrailingAt p) (IsTrailing p) (trailing_at p a.0 a.1) _ (trailing_has p a.0 a.1 h.0 h.1) (λ b k.
    any_then (IsTrailing p) (ended (list_refuses list_part.Trailing) b.1) _ (λ u. k.0)))

-- ---- extended entries

extended_is : (n : ℕ) (permit : Bool) (ws : Words) → Each ws → Has (IsEntryAt true n) (extended_entry n permit ws)
unfolding extended_entry
extended_is n permit ws e =
    then_has IsProtoAt (IsEntryAt true n) (proto_at ws) _ (proto_has ws e) (λ p a.
    then_has IsEnd (IsEntryAt true n) (endpoint_at p.1) _ (endpoint_has p.1 a.1) (λ s b.
    then_has (IsTestAt p.0) (IsEntryAt true n) (port_test_at p.0 s.1) _ (test_has p.0 s.1 b.1) (λ m c.
    then_has IsEnd (IsEntryAt true n) (endpoint_at m.1) _ (endpoint_has m.1 c.1) (λ d f.
    then_has (IsTestAt p.0) (IsEntryAt true n) (port_test_at p.0 d.1) _ (test_has p.0 d.1 f.1) (λ o g.
    then_has (IsTrailing p.0) (IsEntryAt true n) (trailing_words p.0 o.1) _ (trailing_words_has p.0 o.1 g.1) (λ t h.
    (refl, record { proto = a.0; src = b.0; sport = c.0; dst = f.0; dport = g.0; icmp = h.0; flags = h.1 })))))))

pub entry_is : (extended : Bool) (n : ℕ) (permit : Bool) (ws : Words) → Each ws → Has (IsEntryAt extended n) (entry_at extended n permit ws)
entry_is true n permit ws e = extended_is n permit ws e
entry_is false n permit ws e = standard_is n permit ws e
