-- The entries of access lists.
use Rattle.std.specs.Prelude.{ℕ, ◌-◌, Bool, true, false, not, ◌&&◌, ◌||◌, List, [], ◌∷◌, take, drop, length, fold, Option, Some, None, Result, Ok, Err, ok_or, ◌==◌, if◌then◌else◌, codes, bit_and, bit_or}
use Rattle.std.specs.Str.{bytes_eq}
use Rattle.net_types.specs.declared.config.Entry.{Entry}
use Rattle.net_types.specs.declared.config.Masked.{Masked}
use Rattle.net_types.specs.declared.config.PortTest.{PortTest}
use Rattle.net_types.specs.declared.config.PortTest.TheVariants as ports
use Rattle.net_types.specs.declared.config.IcmpTest.{IcmpTest}
use Rattle.net_types.specs.declared.config.IcmpTest.TheVariants as icmp
use Rattle.net_types.specs.declared.config.FlagTest.{FlagTest}
use Rattle.net_types.specs.declared.config.FlagTest.TheVariants as flags
use Rattle.ios_words.specs.Words.{address_of, number_of}
use Rattle.ios_words.specs.Names.{proto_of, port_of, icmp_of, flag_of}
use Rattle.ios_lines.specs.declared.fault.Fault.{Fault}
use Rattle.ios_lines.specs.declared.fault.Kind.TheVariants as kind
use Rattle.ios_lists.specs.declared.refused.ListPart.TheVariants as list_part
use Rattle.ios_lists.specs.Refused.{list_refuses}
use Rattle.ios_lists.specs.declared.trailing.Trailing.{Trailing}
use Rattle.ios_lists.specs.declared.trailing.FlagMasks.{FlagMasks}
use Rattle.ios_lines.specs.Words.{none_refused, ◌>>=◌, Word, Words, fault_of, next_word, allowed_word, address_at, ended}
use Rattle.ios_lines.specs.Words.{hop_of}

-- ---- sources and destinations

-- any (IOS: access-list)
abbrev pub any_address : Masked
any_address = record { value = 0; wild = 4294967295 }

-- host A (IOS: access-list)
abbrev pub one_address : ℕ → Masked
one_address a = record { value = a; wild = 0 }

-- a bit of the address under a 1 of the wildcard is taken as 0
abbrev pub masked_by : ℕ → ℕ → Masked
masked_by a w = record { value = bit_and a (4294967295 - w); wild = w }

-- A, behind host
unfoldable pub host_at : (Word → Bool) → Words → Result (Masked × Words) Fault
host_at c words = do
  a ← address_at c words
  Ok (one_address a.0, a.1)

-- any, host A, A or A W
abbrev pub with_wildcard : ℕ → Words → Option ℕ → Masked × Words
with_wildcard a words None = (one_address a, words)
with_wildcard a words (Some w) = (masked_by a w, drop 1 words)

-- A, or A W where the next word is an address too
unfoldable pub lone_address : Word → Words → Result (Masked × Words) Fault
lone_address w words = do
  a ← ok_or (address_of w) (fault_of kind.BadWord w)
  Ok (with_wildcard a words (hop_of words))

-- any, host A, A or A W, by the first word
abbrev pub standard_by : Word → Words → Result (Masked × Words) Fault
standard_by w words = if bytes_eq w (codes "any") then Ok (any_address, words) else (if bytes_eq w (codes "host") then host_at none_refused words else lone_address w words)

-- the source of a standard entry (IOS: access-list, standard)
unfoldable pub standard_at : Words → Result (Masked × Words) Fault
standard_at words = do
  w ← next_word words
  standard_by w.0 w.1

-- any, host A or A W
unfoldable pub wild_address : Word → Words → Result (Masked × Words) Fault
wild_address w words = do
  a ← ok_or (address_of w) (fault_of kind.BadWord w)
  m ← address_at (list_refuses list_part.Endpoint) words
  Ok (masked_by a m.0, m.1)

-- any, host A or A W, by the first word
abbrev pub endpoint_by : Word → Words → Result (Masked × Words) Fault
endpoint_by w words = if bytes_eq w (codes "any") then Ok (any_address, words) else (if bytes_eq w (codes "host") then host_at (list_refuses list_part.Endpoint) words else wild_address w words)

-- the source or the destination of an extended entry (IOS: access-list, extended)
unfoldable pub endpoint_at : Words → Result (Masked × Words) Fault
endpoint_at words = do
  w ← allowed_word (list_refuses list_part.Endpoint) words
  endpoint_by w.0 w.1

-- ---- standard entries: a source, then optionally log

-- [log]
abbrev pub after_log : Words → Words
after_log [] = []
after_log (w ∷ ws) = if bytes_eq w (codes "log") then ws else w ∷ ws

-- a source, then optionally log (IOS: access-list, standard)
unfoldable pub standard_entry : ℕ → Bool → Words → Result Entry Fault
standard_entry sequence permit words = do
  s ← standard_at words
  e ← ended none_refused (after_log s.1)
  Ok (record { sequence = sequence; permit = permit; proto = None; src = s.0; sport = ports.Any; dst = any_address; dport = ports.Any; icmp = icmp.Any; flags = flags.Any })

-- ---- protocols

-- ip, which is any protocol, or the name or number of one (IOS: access-list, extended)
unfoldable pub proto_at : Words → Result (Option ℕ × Words) Fault
proto_at words = do
  w ← allowed_word (list_refuses list_part.Protocol) words
  if bytes_eq w.0 (codes "ip") then Ok (None, w.1) else (ok_or (proto_of w.0) (fault_of kind.BadWord w.0) >>= λ p. Ok (Some p, w.1))

-- ---- port tests, for TCP and UDP

-- the name or number of a port
unfoldable pub port_at : ℕ → Words → Result (ℕ × Words) Fault
port_at p words = do
  w ← next_word words
  n ← ok_or (port_of w.0 p) (fault_of kind.BadWord w.0)
  Ok (n, w.1)

-- the ports at the head of the words
abbrev pub lead : Option ℕ → List ℕ → List ℕ
lead None rest = []
lead (Some n) rest = n ∷ rest

-- the ports at the head of the words, up to the first word that is none
abbrev pub leading : ℕ → Words → List ℕ
leading p [] = []
leading p (w ∷ ws) = lead (port_of w p) (leading p ws)

-- eq P .., with at most ten ports (IOS: access-list, extended)
abbrev pub ports_limit : ℕ
ports_limit = 10

-- eq P [P ..]
unfoldable pub equal_test : ℕ → Words → Result (PortTest × Words) Fault
equal_test p words = do
  n ← port_at p words
  Ok (ports.Eq (n.0 ∷ take (ports_limit - 1) (leading p n.1)), drop (length (take (ports_limit - 1) (leading p n.1))) n.1)

-- neq P
unfoldable pub other_test : ℕ → Words → Result (PortTest × Words) Fault
other_test p words = do
  n ← port_at p words
  Ok (ports.Neq n.0, n.1)

-- gt P
unfoldable pub greater_test : ℕ → Words → Result (PortTest × Words) Fault
greater_test p words = do
  n ← port_at p words
  Ok (ports.Gt n.0, n.1)

-- lt P
unfoldable pub less_test : ℕ → Words → Result (PortTest × Words) Fault
less_test p words = do
  n ← port_at p words
  Ok (ports.Lt n.0, n.1)

-- range P Q
unfoldable pub range_test : ℕ → Words → Result (PortTest × Words) Fault
range_test p words = do
  n ← port_at p words
  m ← port_at p n.1
  Ok (ports.Range n.0 m.0, m.1)

-- a test by its first word; any other word is left for what follows
abbrev pub port_test_by : ℕ → Word → Words → Words → Result (PortTest × Words) Fault
port_test_by p w rest words =
    if bytes_eq w (codes "eq") then equal_test p rest
    else (if bytes_eq w (codes "neq") then other_test p rest
    else (if bytes_eq w (codes "gt") then greater_test p rest
    else (if bytes_eq w (codes "lt") then less_test p rest
    else (if bytes_eq w (codes "range") then range_test p rest
    else Ok (ports.Any, words)))))

-- a test, where one is written (IOS: access-list, extended)
abbrev pub port_test_of : ℕ → Words → Result (PortTest × Words) Fault
port_test_of p [] = Ok (ports.Any, [])
port_test_of p (w ∷ ws) = port_test_by p w ws (w ∷ ws)

-- TCP, 6, and UDP, 17, have ports
abbrev pub has_ports : ℕ → Bool
has_ports p = p == 6 || p == 17

-- a test, where the protocol has ports and one is written
abbrev pub port_test_at : Option ℕ → Words → Result (PortTest × Words) Fault
port_test_at None words = Ok (ports.Any, words)
port_test_at (Some p) words = if has_ports p then port_test_of p words else Ok (ports.Any, words)

-- ---- trailing words: log or log-input once, and one ICMP message or one flag condition

-- nothing is written after the destination
abbrev pub no_trailing : Trailing
no_trailing = record { logged = false; tested = false; icmp = icmp.Any; flags = flags.Any }

-- log or log-input
abbrev pub is_log : Word → Bool
is_log w = bytes_eq w (codes "log") || bytes_eq w (codes "log-input")

-- with an ICMP message
abbrev pub with_icmp : Trailing → IcmpTest → Trailing
with_icmp t i = record t { tested = true; icmp = i }

-- with a flag condition
abbrev pub with_flags : Trailing → FlagTest → Trailing
with_flags t f = record t { tested = true; flags = f }

-- a name; or a type and optionally a code
abbrev pub message_test : ℕ × Option ℕ → IcmpTest
message_test (t, None) = icmp.Kind t
message_test (t, Some c) = icmp.Exact t c

-- the code of an ICMP message, where the next word is one
abbrev pub code_of : Words → Option ℕ
code_of [] = None
code_of (w ∷ ws) = number_of 0 255 w

-- [CODE]
abbrev pub after_code : Option ℕ → Words → Words
after_code None words = words
after_code (Some c) words = drop 1 words

-- MESSAGE, or TYPE [CODE]; a message that isn't one is a word too many
abbrev pub icmp_by : Trailing → Word → Words → Option (ℕ × Option ℕ) → Option ℕ → Result (Trailing × Words) Fault
icmp_by t w words (Some m) n = Ok (with_icmp t (message_test m), words)
icmp_by t w words None (Some n) = Ok (with_icmp t (message_test (n, code_of words)), after_code (code_of words) words)
icmp_by t w words None None = Err (fault_of kind.ExtraWord w)

-- an ICMP message (IOS: access-list, extended, ICMP)
abbrev pub icmp_at : Trailing → Word → Words → Result (Trailing × Words) Fault
icmp_at t w words = icmp_by t w words (icmp_of w) (number_of 0 255 w)

-- a flag with its sign
abbrev pub signed_by : ℕ → Option ℕ → Option (Bool × ℕ)
signed_by sign None = None
signed_by sign (Some f) = if sign == 43 then Some (true, f) else (if sign == 45 then Some (false, f) else None)

-- +FLAG, which has to be 1, or -FLAG, which has to be 0
abbrev pub signed_of : Word → Option (Bool × ℕ)
signed_of [] = None
signed_of (b ∷ bs) = signed_by b (flag_of bs)

-- one more flag, where the word is one
abbrev pub lead_flag : Option (Bool × ℕ) → List (Bool × ℕ) → List (Bool × ℕ)
lead_flag None rest = []
lead_flag (Some f) rest = f ∷ rest

-- the flags at the head of the words, up to the first word that is none
abbrev pub leading_flags : Words → List (Bool × ℕ)
leading_flags [] = []
leading_flags (w ∷ ws) = lead_flag (signed_of w) (leading_flags ws)

-- the flags that have to be 1, and those that have to be 0, as masks
abbrev pub no_flags : FlagMasks
no_flags = record { set = 0; clear = 0 }

-- one more flag, to those that have to be 1 or to those that have to be 0
abbrev pub add_flag : FlagMasks → Bool × ℕ → FlagMasks
add_flag m f = if f.0 then record m { set = bit_or m.set f.1 } else record m { clear = bit_or m.clear f.1 }

-- one or more of +flag and -flag
unfoldable pub signed_at : Words → Result (FlagMasks × Words) Fault
signed_at words = do
  w ← allowed_word (list_refuses list_part.Trailing) words
  f ← ok_or (signed_of w.0) (fault_of kind.BadWord w.0)
  Ok (fold add_flag (add_flag no_flags f) (leading_flags w.1), drop (length (leading_flags w.1)) w.1)

-- match-any +FLAG -FLAG ..
unfoldable pub any_flags : Trailing → Words → Result (Trailing × Words) Fault
any_flags t words = do
  f ← signed_at words
  Ok (with_flags t (flags.AnyOf f.0.set f.0.clear), f.1)

-- match-all +FLAG -FLAG ..
unfoldable pub all_flags : Trailing → Words → Result (Trailing × Words) Fault
all_flags t words = do
  f ← signed_at words
  Ok (with_flags t (flags.AllOf f.0.set f.0.clear), f.1)

-- one bare flag, which has to be 1
abbrev pub bare_flag : Trailing → Word → Words → Option ℕ → Result (Trailing × Words) Fault
bare_flag t w words None = Err (fault_of kind.ExtraWord w)
bare_flag t w words (Some f) = Ok (with_flags t (flags.AllOf f 0), words)

-- established: ACK or RST is 1
abbrev pub flags_at : Trailing → Word → Words → Result (Trailing × Words) Fault
flags_at t w words =
    if bytes_eq w (codes "established") then Ok (with_flags t (flags.AnyOf 20 0), words)
    else (if bytes_eq w (codes "match-any") then any_flags t words
    else (if bytes_eq w (codes "match-all") then all_flags t words
    else bare_flag t w words (flag_of w)))

-- one trailing word and what belongs to it
abbrev pub test_by : Option ℕ → Trailing → Word → Words → Result (Trailing × Words) Fault
test_by None t w words = Err (fault_of kind.ExtraWord w)
test_by (Some p) t w words =
    if t.tested then Err (fault_of kind.ExtraWord w)
    else (if p == 1 then icmp_at t w words
    else (if p == 6 then flags_at t w words
    else Err (fault_of kind.ExtraWord w)))

-- [log or log-input], or what the protocol tests
abbrev pub trailing_by : Option ℕ → Trailing → Word → Words → Result (Trailing × Words) Fault
trailing_by p t w words = if is_log w && not t.logged then Ok (record t { logged = true }, words) else test_by p t w words

-- one trailing word and what belongs to it, where a word is left
unfoldable pub trailing_at : Option ℕ → Trailing → Words → Result (Trailing × Words) Fault
trailing_at p t [] = Ok (t, [])
trailing_at p t (x ∷ xs) = do
  w ← allowed_word (list_refuses list_part.Trailing) (x ∷ xs)
  trailing_by p t w.0 w.1

-- at most one log and one test, in either order (IOS: access-list, extended)
unfoldable pub trailing_words : Option ℕ → Words → Result Trailing Fault
trailing_words p words = do
  a ← trailing_at p no_trailing words
  b ← trailing_at p a.0 a.1
  e ← ended (list_refuses list_part.Trailing) b.1
  Ok b.0

-- ---- extended entries: a protocol, a source, a destination, each with its port test, and trailing words
unfoldable pub extended_entry : ℕ → Bool → Words → Result Entry Fault
extended_entry sequence permit words = do
  p ← proto_at words
  s ← endpoint_at p.1
  m ← port_test_at p.0 s.1
  d ← endpoint_at m.1
  n ← port_test_at p.0 d.1
  t ← trailing_words p.0 n.1
  Ok (record { sequence = sequence; permit = permit; proto = p.0; src = s.0; sport = m.0; dst = d.0; dport = n.0; icmp = t.icmp; flags = t.flags })

-- an entry behind permit or deny
abbrev pub entry_at : Bool → ℕ → Bool → Words → Result Entry Fault
entry_at extended sequence permit words = if extended then extended_entry sequence permit words else standard_entry sequence permit words
