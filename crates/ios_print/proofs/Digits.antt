-- Numbers, addresses and masks are read as they are written.
use Rattle.std.proofs.Common.{◌≡◌, ℕ, ◌+◌, ◌*◌, ◌/◌, ◌%◌, ◌^◌, ◌<◌, ◌≤◌, Bool, true, false, ◌&&◌, ◌==◌, List, [], ◌∷◌, ◌++◌, length, map, refl, sym, ap, ◌∙◌, arith, tests}
use Rattle.std.specs.Prelude.{Option, Some, None, decimal, codes}
use Rattle.std.specs.List.{slice_split, AllByRecursion}
use Rattle.std.specs.Str.{bytes_eq, all_ascii_digits}
use Rattle.std.specs.Str.Parse.{digits_value}
use Rattle.std.specs.Char.{is_ascii_digit}
use Rattle.std.proofs.lemmas.Bool.{lt-ltb, le-ltb, le-leb}
use Rattle.std.proofs.lemmas.Fmt.{decimal_nonempty, digits_decimal, digits_value-decimal, length-decimal-le}
use Rattle.std.proofs.lemmas.Str.Parse.{IsNumeralModel, numerals_by_value, tells_all_ascii_digits}
use Rattle.net_text.specs.Texts.{is_inside, IsWord}
use Rattle.ios_words.specs.Words.{number_of, octet_of, is_dot, of_four, address_of}
use Rattle.ios_lines.specs.Words.{Word}
use Rattle.ios_print.specs.Print.{address_word}

-- parts between dots
not_cut : (p : ℕ → Bool) (w rest : List ℕ) (y : ℕ) → AllByRecursion (λ c. p c ≡ false) w → p y ≡ true → slice_split p (w ++ y ∷ rest) ≡ w ∷ slice_split p rest
not_cut p [] rest y a h = rw h refl
not_cut p (x ∷ w) rest y a h = rw (a.0, not_cut p w rest y a.1 h) refl

whole : (p : ℕ → Bool) (w : List ℕ) → AllByRecursion (λ c. p c ≡ false) w → slice_split p w ≡ w ∷ []
whole p [] a = refl
whole p (x ∷ w) a = rw (a.0, whole p w a.1) refl

own : IsNumeralModel (λ ds. all_ascii_digits ds ≡ true) (digits_value 10)
own = numerals_by_value (λ ds. all_ascii_digits ds ≡ true) tells_all_ascii_digits

pub all_digits : (n : ℕ) → n < 2 ^ 64 → all_ascii_digits (decimal n) ≡ true
all_digits n h = digits_decimal own n h

pub number_back : (low high n : ℕ) → n < 2 ^ 64 → low ≤ n → n ≤ high → number_of low high (decimal n) ≡ Some n
number_back low high n h a b = rw (lt-ltb 0 (length (decimal n)) (decimal_nonempty n h), all_digits n h, digits_value-decimal own n h, le-leb low n a, le-leb n high b) refl

octet_back : (n : ℕ) → n ≤ 255 → octet_of (decimal n) ≡ Some n
octet_back n h = rw (le-ltb 3 (length (decimal n)) (length-decimal-le 3 n (omega arith) (omega (arith, h)) (omega (arith, h)))) (number_back 0 255 n (omega (arith, h)) (omega arith) h)

both : (a b : Bool) → (a && b) ≡ true → (a ≡ true) × (b ≡ true)
both true true h = (refl, refl)
both true false h = absurd (cc)
both false b h = absurd (cc)

digit_no_dot : (c : ℕ) → is_ascii_digit c ≡ true → is_dot c ≡ false
digit_no_dot c h = grind (arith, tests)

digit_inside : (c : ℕ) → is_ascii_digit c ≡ true → is_inside c ≡ true
digit_inside c h = grind (arith, tests)

no_dots : (w : Word) → all_ascii_digits w ≡ true → AllByRecursion (λ c. is_dot c ≡ false) w
no_dots [] h = tt
no_dots (c ∷ cs) h = let b = both (is_ascii_digit c) (all_ascii_digits cs) h in (digit_no_dot c b.0, no_dots cs b.1)

all_inside : (w : Word) → all_ascii_digits w ≡ true → AllByRecursion (λ c. is_inside c ≡ true) w
all_inside [] h = tt
all_inside (c ∷ cs) h = let b = both (is_ascii_digit c) (all_ascii_digits cs) h in (digit_inside c b.0, all_inside cs b.1)

four_back : (a : ℕ) → a < 4294967296 → ((a / 16777216 * 256 + a / 65536 % 256) * 256 + a / 256 % 256) * 256 + a % 256 ≡ a
four_back a h = omega (arith, h)

pub address_back : (a : ℕ) → a < 4294967296 → address_of (address_word a) ≡ Some a
unfolding address_word
address_back a h =
    let p = a / 16777216 in
    let q = a / 65536 % 256 in
    let r = a / 256 % 256 in
    let s = a % 256 in
    let pb : p ≤ 255 = omega (arith, h) in
    let qb : q ≤ 255 = omega arith in
    let rb : r ≤ 255 = omega arith in
    let sb : s ≤ 255 = omega arith in
    let cut : slice_split is_dot (decimal p ++ (46 ∷ decimal q ++ (46 ∷ decimal r ++ (46 ∷ decimal s)))) ≡ decimal p ∷ decimal q ∷ decimal r ∷ decimal s ∷ [] =
    not_cut is_dot (decimal p) (decimal q ++ (46 ∷ decimal r ++ (46 ∷ decimal s))) 46 (no_dots (decimal p) (all_digits p (omega (arith, pb)))) refl
    ∙ ap (λ x. decimal p ∷ x) (not_cut is_dot (decimal q) (decimal r ++ 46 ∷ decimal s) 46 (no_dots (decimal q) (all_digits q (omega (arith, qb)))) refl
    ∙ ap (λ x. decimal q ∷ x) (not_cut is_dot (decimal r) (decimal s) 46 (no_dots (decimal r) (all_digits r (omega (arith, rb)))) refl
    ∙ ap (λ x. decimal r ∷ x) (whole is_dot (decimal s) (no_dots (decimal s) (all_digits s (omega (arith, sb))))))) in
    ap (λ parts. of_four (map octet_of parts)) cut
    ∙ rw (octet_back p pb, octet_back q qb, octet_back r rb, octet_back s sb) (ap Some (four_back a h))

-- a number is no address
pub no_address : (n : ℕ) → n < 2 ^ 64 → address_of (decimal n) ≡ None
no_address n h = ap (λ parts. of_four (map octet_of parts)) (whole is_dot (decimal n) (no_dots (decimal n) (all_digits n h))) ∙ alone (octet_of (decimal n))
  where
    alone : (o : Option ℕ) → of_four (o ∷ []) ≡ None
    alone None = refl
    alone (Some k) = refl

-- ---- words that begin with a digit are no other words

pub record Digital (w : Word) : Type 0 where
  pub first : ℕ
  pub rest : List ℕ
  pub is : w ≡ first ∷ rest
  pub digit : is_ascii_digit first ≡ true

digital : (w : Word) → 0 < length w → all_ascii_digits w ≡ true → Digital w
digital [] h d = absurd (omega (arith, h))
digital (c ∷ cs) h d = record { first = c; rest = cs; is = refl; digit = (both (is_ascii_digit c) (all_ascii_digits cs) d).0 }

pub digital_number : (n : ℕ) → n < 2 ^ 64 → Digital (decimal n)
digital_number n h = digital (decimal n) (decimal_nonempty n h) (all_digits n h)

more_digital : (w v : Word) → Digital w → Digital (w ++ v)
more_digital w v d = record { first = d.first; rest = d.rest ++ v; is = ap (λ x. x ++ v) d.is; digit = d.digit }

pub digital_address : (a : ℕ) → a < 4294967296 → Digital (address_word a)
unfolding address_word
digital_address a h = more_digital (decimal (a / 16777216)) (46 ∷ decimal (a / 65536 % 256) ++ (46 ∷ decimal (a / 256 % 256) ++ (46 ∷ decimal (a % 256)))) (digital_number (a / 16777216) (omega (arith, h)))

other_first : (b c : ℕ) → is_ascii_digit b ≡ true → is_ascii_digit c ≡ false → (b == c) ≡ false
other_first b c h k = grind (arith, tests)

pub other_word : (w : Word) (c : ℕ) (cs : List ℕ) → Digital w → is_ascii_digit c ≡ false → bytes_eq w (c ∷ cs) ≡ false
other_word w c cs d h = rw (d.is, other_first d.first c d.digit h) refl

-- ---- they are words

digits_word : (w : Word) → 0 < length w → all_ascii_digits w ≡ true → IsWord w
digits_word [] h d = absurd (omega (arith, h))
digits_word (c ∷ cs) h d = let b = both (is_ascii_digit c) (all_ascii_digits cs) d in (digit_inside c b.0, all_inside cs b.1)

pub number_word : (n : ℕ) → n < 2 ^ 64 → IsWord (decimal n)
number_word n h = digits_word (decimal n) (decimal_nonempty n h) (all_digits n h)

inside_both : (w v : Word) → AllByRecursion (λ c. is_inside c ≡ true) w → AllByRecursion (λ c. is_inside c ≡ true) v → AllByRecursion (λ c. is_inside c ≡ true) (w ++ v)
inside_both [] v a b = b
inside_both (c ∷ w) v a b = (a.0, inside_both w v a.1 b)

longer_word : (w v : Word) → IsWord w → AllByRecursion (λ c. is_inside c ≡ true) v → IsWord (w ++ v)
longer_word [] v h b = absurd h
longer_word (c ∷ w) v h b = (h.0, inside_both w v h.1 b)

pub address_is_word : (a : ℕ) → a < 4294967296 → IsWord (address_word a)
unfolding address_word
address_is_word a h = longer_word (decimal (a / 16777216)) (46 ∷ decimal (a / 65536 % 256) ++ (46 ∷ decimal (a / 256 % 256) ++ (46 ∷ decimal (a % 256)))) (number_word (a / 16777216) (omega (arith, h))) (
  refl,
  inside_both (decimal (a / 65536 % 256)) (46 ∷ decimal (a / 256 % 256) ++ 46 ∷ decimal (a % 256)) (all_inside (decimal (a / 65536 % 256)) (all_digits (a / 65536 % 256) (omega arith))) (
    refl,
    inside_both (decimal (a / 256 % 256)) (46 ∷ decimal (a % 256)) (all_inside (decimal (a / 256 % 256)) (all_digits (a / 256 % 256) (omega arith)))
        (refl, all_inside (decimal (a % 256)) (all_digits (a % 256) (omega arith))),
  ),
)

-- only 0 is written so
pub zero_value : (n : ℕ) → n < 2 ^ 64 → decimal n ≡ codes "0" → n ≡ 0
zero_value n h e = sym (digits_value-decimal own n h) ∙ ap (digits_value 10) e
