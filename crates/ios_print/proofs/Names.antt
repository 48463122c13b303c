-- Words that begin with a digit are no names.
use Rattle.std.proofs.Common.{◌≡◌, ℕ, ◌/◌, ◌%◌, ◌<◌, ◌≤◌, Bool, true, false, cond, not, ◌&&◌, ◌==◌, List, [], ◌∷◌, ◌++◌, length, refl, arith, tests}
use Rattle.std.specs.Prelude.{Some, None, decimal, nat_lt}
use Rattle.std.specs.List.{list_all}
use Rattle.std.specs.Str.{bytes_eq, all_ascii_digits}
use Rattle.std.specs.Str.Parse.{digits_value}
use Rattle.std.specs.Char.{is_ascii_digit}
use Rattle.ios_words.specs.Words.{is_within, number_of}
use Rattle.ios_words.specs.Names.{value_of, protocols, proto_of, tcp_ports, udp_ports, ports_of, port_of, messages, icmp_of}
use Rattle.ios_lines.specs.Words.{Word}
use Rattle.ios_print.specs.Print.{address_word}
use Rattle.ios_print.proofs.Digits.{Digital, digital_number, digital_address, number_back}

-- a name begins with another byte than a digit
abbrev begins_other : Word → Bool
begins_other [] = false
begins_other (c ∷ cs) = not (is_ascii_digit c)

abbrev are_names : {V : Type 0} → List (Word × V) → Bool
are_names rows = list_all (λ r. begins_other r.0) rows

both : (a b : Bool) → (a && b) ≡ true → (a ≡ true) × (b ≡ true)
both true true h = (refl, refl)
both true false h = absurd (cc)
both false b h = absurd (cc)

not_true : (b : Bool) → not b ≡ true → b ≡ false
not_true true h = absurd (cc)
not_true false h = refl

other_first : (c b : ℕ) → is_ascii_digit c ≡ false → is_ascii_digit b ≡ true → (c == b) ≡ false
other_first c b h k = grind (arith, tests)

other_name : (v w : Word) → begins_other v ≡ true → Digital w → bytes_eq v w ≡ false
other_name [] w h d = absurd (cc)
other_name (c ∷ cs) w h d = rw (d.is, other_first c d.first (not_true (is_ascii_digit c) h) d.digit) refl

no_value : {V : Type 0} (rows : List (Word × V)) (w : Word) → are_names rows ≡ true → Digital w → value_of rows w ≡ None
no_value [] w h d = refl
no_value (r ∷ rows) w h d = let b = both (begins_other r.0) (list_all (λ r. begins_other r.0) rows) h in rw (other_name r.0 w b.0 d) (no_value rows w b.1 d)

pub proto_back : (p : ℕ) → 1 ≤ p → p ≤ 255 → proto_of (decimal p) ≡ Some p
proto_back p h k = rw (no_value protocols (decimal p) refl (digital_number p (omega (arith, k)))) (number_back 1 255 p (omega (arith, k)) h k)

no_port_name : (p : ℕ) (w : Word) → Digital w → value_of (ports_of p) w ≡ None
no_port_name p w d = (elim (p == 6) as (λ b. value_of (cond b tcp_ports (cond (p == 17) udp_ports [])) w ≡ None) [
  | true ↦ no_value tcp_ports w refl d
  | false ↦ (elim (p == 17) as (λ b. value_of (cond b udp_ports []) w ≡ None) [ true ↦ no_value udp_ports w refl d | false ↦ refl ])
])

pub port_back : (p n : ℕ) → n ≤ 65535 → port_of (decimal n) p ≡ Some n
port_back p n h = rw (no_port_name p (decimal n) (digital_number n (omega (arith, h)))) (number_back 0 65535 n (omega (arith, h)) (omega arith) h)

pub no_message : (n : ℕ) → n ≤ 255 → icmp_of (decimal n) ≡ None
no_message n h = no_value messages (decimal n) refl (digital_number n (omega (arith, h)))

-- an address is no number
not_all : (w v : Word) → all_ascii_digits (w ++ 46 ∷ v) ≡ false
not_all [] v = refl
not_all (c ∷ w) v = rw (not_all w v) (end (is_ascii_digit c))
  where
    end : (b : Bool) → (b && false) ≡ false
    end true = refl
    end false = refl

pub no_number : (low high a : ℕ) → number_of low high (address_word a) ≡ None
unfolding address_word
no_number low high a = rw (not_all (decimal (a / 16777216)) (decimal (a / 65536 % 256) ++ (46 ∷ decimal (a / 256 % 256) ++ (46 ∷ decimal (a % 256))))) (end (nat_lt 0 (length (address_word a))) (is_within low high (digits_value 10 (address_word a))) (digits_value 10 (address_word a)))
  where
    end : (b x : Bool) (v : ℕ) → cond ((b && false) && x) (Some v) None ≡ None
    end true x v = refl
    end false x v = refl

pub no_port : (p a : ℕ) → a < 4294967296 → port_of (address_word a) p ≡ None
no_port p a h = rw (no_port_name p (address_word a) (digital_address a h)) (no_number 0 65535 a)
