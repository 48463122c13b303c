-- The words of an entry are read as it.
use Rattle.std.proofs.Common.{◌≡◌, ℕ, ◌<◌, ◌≤◌, zero, suc, Bool, true, false, cond, List, [], ◌∷◌, ◌++◌, length, map, take, drop, refl, sym, ap, arith}
use Rattle.std.specs.Prelude.{Option, Some, None, Result, Ok, codes, decimal}
use Rattle.std.specs.List.{AllByRecursion}
use Rattle.std.specs.Str.{bytes_eq}
use Rattle.std.proofs.lemmas.Slice.Eq.{bytes_eq-Decides}
use Rattle.net_types.specs.declared.config.Entry.{Entry}
use Rattle.net_types.specs.declared.config.Masked.{Masked}
use Rattle.net_types.specs.declared.config.PortTest.{PortTest}
use Rattle.net_types.specs.declared.config.PortTest.TheVariants as ports
use Rattle.net_types.specs.declared.config.IcmpTest.{IcmpTest}
use Rattle.net_types.specs.declared.config.FlagTest.{FlagTest}
use Rattle.ios_lines.specs.declared.fault.Fault.{Fault}
use Rattle.ios_lists.specs.declared.refused.ListPart.TheVariants as list_part
use Rattle.ios_lists.specs.Refused.{list_refuses}
use Rattle.ios_lines.specs.Words.{Word, Words, address_at, allowed_word, ended}
use Rattle.ios_lists.specs.Entries.{masked_by, endpoint_at, wild_address, standard_at, lone_address, standard_entry, proto_at, port_at, leading, equal_test, other_test, greater_test, less_test, range_test, port_test_at, has_ports}
use Rattle.ios_print.specs.Print.{address_word, masked_words, proto_word, port_words}
use Rattle.ios_print.specs.PrintableLists.{IsMasked, IsProto, IsPortNumber, IsPortTest, tests_ports, IsStandard}
use Rattle.ios_print.proofs.Digits.{address_back, digital_address, digital_number, other_word, zero_value, Digital}
use Rattle.ios_print.proofs.Names.{proto_back, port_back, no_port}

endpoint_covered : (w : Word) → Digital w → list_refuses list_part.Endpoint w ≡ false
endpoint_covered w d = rw (other_word w 111 (codes "bject-group") d refl, other_word w 105 (codes "nterface") d refl) refl

same_masked : (m : Masked) → IsMasked m → masked_by m.value m.wild ≡ m
same_masked m is = rw is.zero refl

pub endpoint_read : (m : Masked) (ws : Words) → IsMasked m → endpoint_at (masked_words m ++ ws) ≡ Ok (m, ws)
unfolding endpoint_at wild_address address_at allowed_word
endpoint_read m ws is =
    let d = digital_address m.value is.value in
    rw (
      endpoint_covered (address_word m.value) d,
      other_word (address_word m.value) 97 (codes "ny") d refl,
      other_word (address_word m.value) 104 (codes "ost") d refl,
      address_back m.value is.value,
      endpoint_covered (address_word m.wild) (digital_address m.wild is.wild),
      address_back m.wild is.wild,
    ) (ap (λ x. Ok (x, ws)) (same_masked m is))

source_read : (m : Masked) → IsMasked m → standard_at (masked_words m) ≡ Ok (m, [])
unfolding standard_at lone_address
source_read m is =
    let d = digital_address m.value is.value in
    rw (other_word (address_word m.value) 97 (codes "ny") d refl, other_word (address_word m.value) 104 (codes "ost") d refl, address_back m.value is.value, address_back m.wild is.wild) (ap (λ x. Ok (x, [])) (same_masked m is))

entry_made : (n : ℕ) (b : Bool) (m : Masked) {p q : Option ℕ} {s t u v : PortTest} {d f : Masked} {i j : IcmpTest} {g h : FlagTest} → p ≡ q → s ≡ t → d ≡ f → u ≡ v → i ≡ j → g ≡ h
    → ◌≡◌ {A = Entry} (record { sequence = n; permit = b; proto = p; src = m; sport = s; dst = d; dport = u; icmp = i; flags = g }) (record { sequence = n; permit = b; proto = q; src = m; sport = t; dst = f; dport = v; icmp = j; flags = h })
entry_made n b m a c d e f g = cc

pub standard_read : (e : Entry) → IsStandard e → standard_entry e.sequence e.permit (masked_words e.src) ≡ Ok e
unfolding standard_entry ended
standard_read e is = rw (source_read e.src is.src) (ap (λ (x : Entry). Ok x) (entry_made e.sequence e.permit e.src (sym is.proto) (sym is.sport) (sym is.dst) (sym is.dport) (sym is.icmp) (sym is.flags)))

-- ---- protocols

not_zero : (n : ℕ) → 1 ≤ n → n ≤ 255 → bytes_eq (decimal n) (codes "0") ≡ false
not_zero n h k = (elim (bytes_eq (decimal n) (codes "0")) as (λ b. bytes_eq (decimal n) (codes "0") ≡ b → b ≡ false) [
  | true ↦ λ e. absurd (omega (arith, h, zero_value n (omega (arith, k)) ((bytes_eq-Decides (decimal n) (codes "0")).0 e)))
  | false ↦ λ e. refl
]) refl

pub proto_read : (p : Option ℕ) (ws : Words) → IsProto p → proto_at (proto_word p ∷ ws) ≡ Ok (p, ws)
unfolding proto_at allowed_word
proto_read None ws is = refl
proto_read (Some n) ws is =
    let d = digital_number n (omega (arith, is.1)) in
    rw (not_zero n is.0 is.1, other_word (decimal n) 111 (codes "bject-group") d refl, other_word (decimal n) 105 (codes "p") d refl, proto_back n is.0 is.1) refl

-- ---- port tests

port_read : (p n : ℕ) (ws : Words) → n ≤ 65535 → port_at p (decimal n ∷ ws) ≡ Ok (n, ws)
unfolding port_at
port_read p n ws h = rw (port_back p n h) refl

leading_read : (p : ℕ) (ns : List ℕ) (ws : Words) → AllByRecursion IsPortNumber ns → leading p ws ≡ [] → leading p (map decimal ns ++ ws) ≡ ns
leading_read p [] ws a q = q
leading_read p (n ∷ ns) ws a q = rw (port_back p n a.0) (ap (λ xs. n ∷ xs) (leading_read p ns ws a.1 q))

take_all : {A : Type 0} (k : ℕ) (xs : List A) → length xs ≤ k → take k xs ≡ xs
take_all zero [] h = refl
take_all (suc k) [] h = refl
take_all zero (x ∷ xs) h = absurd (omega (arith, h))
take_all (suc k) (x ∷ xs) h = ap (λ l. x ∷ l) (take_all k xs (omega (arith, h)))

drop_ports : (ns : List ℕ) (ws : Words) → drop (length ns) (map decimal ns ++ ws) ≡ ws
drop_ports [] ws = refl
drop_ports (n ∷ ns) ws = drop_ports ns ws

equal_read : (p n : ℕ) (ns : List ℕ) (ws : Words) → n ≤ 65535 → AllByRecursion IsPortNumber ns → length ns ≤ 9 → leading p ws ≡ [] → equal_test p (decimal n ∷ map decimal ns ++ ws) ≡ Ok (ports.Eq (n ∷ ns), ws)
unfolding equal_test
equal_read p n ns ws h a l q = rw (port_read p n (map decimal ns ++ ws) h, leading_read p ns ws a q, take_all 9 ns l, drop_ports ns ws) refl

-- no word of a port test begins these
pub record IsPast (p : Option ℕ) (ws : Words) : Type 0 where
  pub quiet : port_test_at p ws ≡ Ok (ports.Any, ws)
  pub none : (q : ℕ) → p ≡ Some q → has_ports q ≡ true → leading q ws ≡ []

tested : (p : Option ℕ) → tests_ports p ≡ true → (q : ℕ) × (p ≡ Some q) × (has_ports q ≡ true)
tested None h = absurd (cc)
tested (Some q) h = (q, refl, h)

other_read : (p n : ℕ) (ws : Words) → n ≤ 65535 → other_test p (decimal n ∷ ws) ≡ Ok (ports.Neq n, ws)
unfolding other_test
other_read p n ws h = rw (port_read p n ws h) refl

greater_read : (p n : ℕ) (ws : Words) → n ≤ 65535 → greater_test p (decimal n ∷ ws) ≡ Ok (ports.Gt n, ws)
unfolding greater_test
greater_read p n ws h = rw (port_read p n ws h) refl

less_read : (p n : ℕ) (ws : Words) → n ≤ 65535 → less_test p (decimal n ∷ ws) ≡ Ok (ports.Lt n, ws)
unfolding less_test
less_read p n ws h = rw (port_read p n ws h) refl

range_read : (p n m : ℕ) (ws : Words) → n ≤ 65535 → m ≤ 65535 → range_test p (decimal n ∷ decimal m ∷ ws) ≡ Ok (ports.Range n m, ws)
unfolding range_test
range_read p n m ws h k = rw (port_read p n (decimal m ∷ ws) h, port_read p m ws k) refl

some_ports : (p : ℕ) (t : PortTest) (ws : Words) → has_ports p ≡ true → IsPortTest (Some p) t → IsPast (Some p) ws → port_test_at (Some p) (port_words t ++ ws) ≡ Ok (t, ws)
some_ports p ports.Any ws h is past = past.quiet
some_ports p (ports.Eq []) ws h is past = absurd (omega (arith, is.1))
some_ports p (ports.Eq (n ∷ ns)) ws h is past = rw h (equal_read p n ns ws is.3.0 is.3.1 (omega (arith, is.2)) (past.none p refl h))
some_ports p (ports.Neq n) ws h is past = rw h (other_read p n ws is.1)
some_ports p (ports.Gt n) ws h is past = rw h (greater_read p n ws is.1)
some_ports p (ports.Lt n) ws h is past = rw h (less_read p n ws is.1)
some_ports p (ports.Range n m) ws h is past = rw h (range_read p n m ws is.1 is.2)

pub ports_read : (p : Option ℕ) (t : PortTest) (ws : Words) → IsPortTest p t → IsPast p ws → port_test_at p (port_words t ++ ws) ≡ Ok (t, ws)
ports_read p ports.Any ws is past = past.quiet
ports_read None (ports.Eq ns) ws is past = absurd (let e = is.0 in cc)
ports_read None (ports.Neq n) ws is past = absurd (let e = is.0 in cc)
ports_read None (ports.Gt n) ws is past = absurd (let e = is.0 in cc)
ports_read None (ports.Lt n) ws is past = absurd (let e = is.0 in cc)
ports_read None (ports.Range n m) ws is past = absurd (let e = is.0 in cc)
ports_read (Some p) (ports.Eq ns) ws is past = some_ports p (ports.Eq ns) ws is.0 is past
ports_read (Some p) (ports.Neq n) ws is past = some_ports p (ports.Neq n) ws is.0 is past
ports_read (Some p) (ports.Gt n) ws is past = some_ports p (ports.Gt n) ws is.0 is past
ports_read (Some p) (ports.Lt n) ws is past = some_ports p (ports.Lt n) ws is.0 is past
ports_read (Some p) (ports.Range n m) ws is past = some_ports p (ports.Range n m) ws is.0 is past

-- an address follows
quiet_address : (p : Option ℕ) (a : ℕ) (ws : Words) → a < 4294967296 → port_test_at p (address_word a ∷ ws) ≡ Ok (ports.Any, address_word a ∷ ws)
quiet_address None a ws h = refl
quiet_address (Some p) a ws h =
    let d = digital_address a h in
    rw (other_word (address_word a) 101 (codes "q") d refl, other_word (address_word a) 110 (codes "eq") d refl, other_word (address_word a) 103 (codes "t") d refl, other_word (address_word a) 108 (codes "t") d refl, other_word (address_word a) 114 (codes "ange") d refl)
    (elim (has_ports p) as (λ b. cond {A = Result (PortTest × Words) Fault} b (Ok (ports.Any, address_word a ∷ ws)) (Ok (ports.Any, address_word a ∷ ws)) ≡ Ok (ports.Any, address_word a ∷ ws)) [ true ↦ refl | false ↦ refl ])

pub past_address : (p : Option ℕ) (a : ℕ) (ws : Words) → a < 4294967296 → IsPast p (address_word a ∷ ws)
past_address p a ws h = record { quiet = quiet_address p a ws h; none = λ q e k. rw (no_port q a h) refl }
