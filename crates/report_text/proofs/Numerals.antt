-- Numbers, addresses and ternary digits are read as they are written.
use Rattle.std.proofs.Common.{◌≡◌, ℕ, zero, suc, ◌+◌, ◌*◌, ◌/◌, ◌%◌, ◌^◌, ◌<◌, ◌≤◌, Bool, true, false, ◌&&◌, ◌||◌, ◌==◌, List, [], ◌∷◌, ◌++◌, length, length-append, append_assoc, map, refl, sym, ap, subst, ◌∙◌, arith, tests}
use Rattle.std.specs.Prelude.{Some, decimal, codes, bit_and, min}
use Rattle.std.specs.List.{slice_split, list_any}
use Rattle.std.specs.Int.{bit_at}
use Rattle.std.specs.Str.{bytes_eq, all_ascii_digits}
use Rattle.std.specs.Str.Parse.{digits_value}
use Rattle.std.specs.Char.{is_ascii_digit}
use Rattle.std.proofs.lemmas.Bool.{lt-ltb, le-ltb, le-leb, eqb-true, false_from_ne_true}
use Rattle.std.proofs.lemmas.Fmt.{decimal_nonempty, digits_decimal, digits_value-decimal, length-decimal-le, decimal_digit}
use Rattle.std.proofs.lemmas.List.Folds.{list_any-append}
use Rattle.std.proofs.lemmas.Nat.Bits.{bit_at-lt, bit_at_and}
use Rattle.std.proofs.Math.Nat.{pow-suc, div-div-eq-div-mul}
use Rattle.std.proofs.lemmas.Nat.{div-mul-add}
use Rattle.std.proofs.lemmas.Str.Parse.{IsNumeralModel, numerals_by_value, tells_all_ascii_digits}
use Rattle.ios_words.specs.Words.{number_of, octet_of, is_dot, of_four, address_of}
use Rattle.report_text.specs.FieldText.{address_text, digit_text, ternary_text}
use Rattle.report_text.specs.Reading.{known_digit, one_digit, binary_from, ternary_of}
use Rattle.report_text.proofs.Cuts.{has, neither}

-- ---- numbers

own : IsNumeralModel (λ ds. all_ascii_digits ds ≡ true) (digits_value 10)
own = numerals_by_value (λ ds. all_ascii_digits ds ≡ true) tells_all_ascii_digits

pub all_digits : (n : ℕ) → n < 2 ^ 64 → all_ascii_digits (decimal n) ≡ true
all_digits n h = digits_decimal own n h

pub number_back : (low high n : ℕ) → n < 2 ^ 64 → low ≤ n → n ≤ high → number_of low high (decimal n) ≡ Some n
number_back low high n h a b = rw (lt-ltb 0 (length (decimal n)) (decimal_nonempty n h), all_digits n h, digits_value-decimal own n h, le-leb low n a, le-leb n high b) refl

both : (a b : Bool) → (a && b) ≡ true → (a ≡ true) × (b ≡ true)
both true true h = (refl, refl)
both true false h = absurd (cc)
both false b h = absurd (cc)

-- ---- digits are no separators

-- a byte that separates: LF, blank, dot or slash
abbrev pub is_mark : ℕ → Bool
is_mark b = b == 10 || b == 32 || b == 46 || b == 47

digit_no_mark : (b c : ℕ) → is_mark b ≡ true → is_ascii_digit c ≡ true → (c == b) ≡ false
digit_no_mark b c m h = grind (arith, tests)

digits_no_mark : (b : ℕ) (w : List ℕ) → is_mark b ≡ true → all_ascii_digits w ≡ true → has b w ≡ false
digits_no_mark b [] m h = refl
digits_no_mark b (c ∷ cs) m h = let g = both (is_ascii_digit c) (all_ascii_digits cs) h in neither (c == b) (has b cs) (digit_no_mark b c m g.0) (digits_no_mark b cs m g.1)

pub number_plain : (b n : ℕ) → is_mark b ≡ true → n < 2 ^ 64 → has b (decimal n) ≡ false
number_plain b n m h = digits_no_mark b (decimal n) m (all_digits n h)

pub has_both : (b : ℕ) (w v : List ℕ) → has b w ≡ false → has b v ≡ false → has b (w ++ v) ≡ false
has_both b w v h g = list_any-append (λ c. c == b) w v ∙ neither (has b w) (has b v) h g

-- ---- addresses

not_cut : (p : ℕ → Bool) (w rest : List ℕ) (y : ℕ) → list_any p w ≡ false → p y ≡ true → slice_split p (w ++ y ∷ rest) ≡ w ∷ slice_split p rest
not_cut p [] rest y a h = rw h refl
not_cut p (x ∷ w) rest y a h = let g = apart (p x) (list_any p w) a in rw (g.0, not_cut p w rest y g.1 h) refl
  where
    apart : (a b : Bool) → (a || b) ≡ false → (a ≡ false) × (b ≡ false)
    apart true b h = absurd (cc)
    apart false b h = (refl, h)

whole : (p : ℕ → Bool) (w : List ℕ) → list_any p w ≡ false → slice_split p w ≡ w ∷ []
whole p [] a = refl
whole p (x ∷ w) a = let g = apart (p x) (list_any p w) a in rw (g.0, whole p w g.1) refl
  where
    apart : (a b : Bool) → (a || b) ≡ false → (a ≡ false) × (b ≡ false)
    apart true b h = absurd (cc)
    apart false b h = (refl, h)

octet_back : (n : ℕ) → n ≤ 255 → octet_of (decimal n) ≡ Some n
octet_back n h = rw (le-ltb 3 (length (decimal n)) (length-decimal-le 3 n (omega arith) (omega (arith, h)) (omega (arith, h)))) (number_back 0 255 n (omega (arith, h)) (omega arith) h)

four_back : (a : ℕ) → a < 4294967296 → ((a / 16777216 * 256 + a / 65536 % 256) * 256 + a / 256 % 256) * 256 + a % 256 ≡ a
four_back a h = omega (arith, h)

dotless : (n : ℕ) → n ≤ 255 → has 46 (decimal n) ≡ false
dotless n h = number_plain 46 n refl (omega (arith, h))

joined : (a b c d : List ℕ) → a ++ codes "." ++ b ++ codes "." ++ c ++ codes "." ++ d ≡ a ++ (46 ∷ (b ++ (46 ∷ (c ++ (46 ∷ d)))))
joined a b c d = simp append_assoc

-- an address as its parts
pub address_parts : (a : ℕ) → address_text a ≡ decimal (a / 16777216) ++ (46 ∷ (decimal (a / 65536 % 256) ++ (46 ∷ (decimal (a / 256 % 256) ++ (46 ∷ decimal (a % 256))))))
unfolding address_text
address_parts a = joined (decimal (a / 16777216)) (decimal (a / 65536 % 256)) (decimal (a / 256 % 256)) (decimal (a % 256))

pub address_back : (a : ℕ) → a < 2 ^ 32 → address_of (address_text a) ≡ Some a
address_back a h =
    let p = a / 16777216 in
    let q = a / 65536 % 256 in
    let r = a / 256 % 256 in
    let s = a % 256 in
    let pb : p ≤ 255 = omega (arith, h) in
    let qb : q ≤ 255 = omega arith in
    let rb : r ≤ 255 = omega arith in
    let sb : s ≤ 255 = omega arith in
    let cut : slice_split is_dot (decimal p ++ (46 ∷ (decimal q ++ (46 ∷ (decimal r ++ (46 ∷ decimal s)))))) ≡ decimal p ∷ decimal q ∷ decimal r ∷ decimal s ∷ [] =
    not_cut is_dot (decimal p) (decimal q ++ (46 ∷ (decimal r ++ (46 ∷ decimal s)))) 46 (dotless p pb) refl
    ∙ ap (λ x. decimal p ∷ x) (not_cut is_dot (decimal q) (decimal r ++ (46 ∷ decimal s)) 46 (dotless q qb) refl
    ∙ ap (λ x. decimal q ∷ x) (not_cut is_dot (decimal r) (decimal s) 46 (dotless r rb) refl
    ∙ ap (λ x. decimal r ∷ x) (whole is_dot (decimal s) (dotless s sb)))) in
    ap address_of (address_parts a)
    ∙ ap (λ parts. of_four (map octet_of parts)) cut
    ∙ rw (octet_back p pb, octet_back q qb, octet_back r rb, octet_back s sb) (ap Some (four_back a h))

-- an address has no blank, no slash and no line end
pub address_plain : (b a : ℕ) → is_mark b ≡ true → (46 == b) ≡ false → a < 2 ^ 32 → has b (address_text a) ≡ false
address_plain b a m d h =
    let z = decimal (a % 256) in
    let y = decimal (a / 256 % 256) ++ (46 ∷ z) in
    let x = decimal (a / 65536 % 256) ++ (46 ∷ y) in
    let s : has b z ≡ false = number_plain b (a % 256) m (omega arith) in
    let r : has b y ≡ false = has_both b (decimal (a / 256 % 256)) (46 ∷ z) (number_plain b (a / 256 % 256) m (omega arith)) (neither (46 == b) (has b z) d s) in
    let q : has b x ≡ false = has_both b (decimal (a / 65536 % 256)) (46 ∷ y) (number_plain b (a / 65536 % 256) m (omega arith)) (neither (46 == b) (has b y) d r) in
    ap (has b) (address_parts a) ∙ has_both b (decimal (a / 16777216)) (46 ∷ x) (number_plain b (a / 16777216) m (omega (arith, h))) (neither (46 == b) (has b x) d q)

octet_size : (n : ℕ) → n ≤ 255 → length (decimal n) ≤ 3
octet_size n h = length-decimal-le 3 n (omega arith) (omega (arith, h)) (omega (arith, h))

pub address_size : (a : ℕ) → a < 2 ^ 32 → length (address_text a) ≤ 15
address_size a h =
    let z = decimal (a % 256) in
    let y = decimal (a / 256 % 256) ++ (46 ∷ z) in
    let x = decimal (a / 65536 % 256) ++ (46 ∷ y) in
    let e : length (address_text a) ≡ length (decimal (a / 16777216) ++ (46 ∷ x)) = ap (length {A = _}) (address_parts a) in
    omega (
      arith,
      e,
      length-append (decimal (a / 16777216)) (46 ∷ x),
      length-append (decimal (a / 65536 % 256)) (46 ∷ y),
      length-append (decimal (a / 256 % 256)) (46 ∷ z),
      octet_size (a / 16777216) (omega (arith, h)),
      octet_size (a / 65536 % 256) (omega arith),
      octet_size (a / 256 % 256) (omega arith),
      octet_size (a % 256) (omega arith),
    )

-- ---- a word that begins with a digit isn't `*`

digital_star : (w v : List ℕ) → 0 < length w → all_ascii_digits w ≡ true → bytes_eq (w ++ v) (codes "*") ≡ false
digital_star [] v h d = absurd (omega (arith, h))
digital_star (c ∷ cs) v h d = rw (no_star c (both (is_ascii_digit c) (all_ascii_digits cs) d).0) refl
  where
    no_star : (c : ℕ) → is_ascii_digit c ≡ true → (c == 42) ≡ false
    no_star c h = grind (arith, tests)

pub number_star : (n : ℕ) (v : List ℕ) → n < 2 ^ 64 → bytes_eq (decimal n ++ v) (codes "*") ≡ false
number_star n v h = digital_star (decimal n) v (decimal_nonempty n h) (all_digits n h)

-- ---- ternary digits

-- a digit is one byte
star_digit : (y : ℕ) → digit_text 0 y ≡ codes "*"
star_digit y = refl

zero_digit : digit_text 1 0 ≡ codes "0"
zero_digit = decimal_digit 0 (omega arith)

unit_digit : digit_text 1 1 ≡ codes "1"
unit_digit = decimal_digit 1 (omega arith)

-- a property of each digit
digits_are : (P : ℕ → ℕ → List ℕ → Type 0) → ((y : ℕ) → P 0 y (codes "*")) → P 1 0 (codes "0") → P 1 1 (codes "1") → (x y : ℕ) → x < 2 → y < 2 → P x y (digit_text x y)
digits_are P s z u zero y h g = s y
digits_are P s z u (suc zero) zero h g = subst (P 1 0) (sym zero_digit) z
digits_are P s z u (suc zero) (suc zero) h g = subst (P 1 1) (sym unit_digit) u
digits_are P s z u (suc zero) (suc (suc y)) h g = absurd (omega arith)
digits_are P s z u (suc (suc x)) y h g = absurd (omega arith)

pub ternary_size : (k f b : ℕ) → length (ternary_text k f b) ≡ k
unfolding ternary_text
ternary_size zero f b = refl
ternary_size (suc k) f b =
    let one : length (digit_text (bit_at f k) (bit_at b k)) ≡ 1 = digits_are (λ x y w. length w ≡ 1) (λ y. refl) refl refl (bit_at f k) (bit_at b k) (bit_at-lt f k) (bit_at-lt b k) in
    omega (arith, one, length-append (digit_text (bit_at f k) (bit_at b k)) (ternary_text k f b), ternary_size k f b)

known_step : (x y n : ℕ) (rest : List ℕ) → x < 2 → y < 2 → binary_from known_digit n (digit_text x y ++ rest) ≡ binary_from known_digit (n * 2 + x) rest
known_step x y n rest h g = digits_are (λ x y w. binary_from known_digit n (w ++ rest) ≡ binary_from known_digit (n * 2 + x) rest) (λ y. refl) refl refl x y h g

one_step : (x y n : ℕ) (rest : List ℕ) → x < 2 → y < 2 → (x ≡ 0 → y ≡ 0) → binary_from one_digit n (digit_text x y ++ rest) ≡ binary_from one_digit (n * 2 + y) rest
one_step x y n rest h g none =
    digits_are (λ x y w. (x ≡ 0 → y ≡ 0) → binary_from one_digit n (w ++ rest) ≡ binary_from one_digit (n * 2 + y) rest) (λ y e. ap (λ d. binary_from one_digit (n * 2 + d) rest) (sym (e refl))) (λ e. refl) (λ e. refl) x y h g none

pow-suc' : (k : ℕ) → 2 ^ suc k ≡ 2 ^ k * 2
pow-suc' k = omega (arith, pow-suc 2 k)

halves : (f k : ℕ) → f / 2 ^ suc k * 2 + bit_at f k ≡ f / 2 ^ k
halves f k = let e : f / 2 ^ suc k ≡ f / 2 ^ k / 2 = ap (λ n. f / n) (pow-suc' k) ∙ sym (div-div-eq-div-mul f (2 ^ k) 2) in rw e (omega arith)

pub known_back : (k f b : ℕ) → binary_from known_digit (f / 2 ^ k) (ternary_text k f b) ≡ f / 2 ^ 0
unfolding ternary_text
known_back zero f b = refl
known_back (suc k) f b =
    known_step (bit_at f k) (bit_at b k) (f / 2 ^ suc k) (ternary_text k f b) (bit_at-lt f k) (bit_at-lt b k)
    ∙ ap (λ n. binary_from known_digit n (ternary_text k f b)) (halves f k) ∙ known_back k f b

pub one_back : (k f b : ℕ) → bit_and b f ≡ b → binary_from one_digit (b / 2 ^ k) (ternary_text k f b) ≡ b / 2 ^ 0
unfolding ternary_text
one_back zero f b h = refl
one_back (suc k) f b h =
    one_step (bit_at f k) (bit_at b k) (b / 2 ^ suc k) (ternary_text k f b) (bit_at-lt f k) (bit_at-lt b k)
    (λ e. (let m : bit_at b k ≡ min (bit_at b k) (bit_at f k) = ap (λ x. bit_at x k) (sym h) ∙ bit_at_and b f k in omega (arith, m, e)))
    ∙ ap (λ n. binary_from one_digit n (ternary_text k f b)) (halves b k) ∙ one_back k f b h

below_none : (k f : ℕ) → f < 2 ^ k → f / 2 ^ k ≡ 0
below_none k f h = let e : f ≡ 0 * 2 ^ k + f = omega arith in ap (λ n. n / 2 ^ k) e ∙ div-mul-add 0 (2 ^ k) f h

pub ternary_back : (k f b : ℕ) → f < 2 ^ k → b < 2 ^ k → bit_and b f ≡ b → ternary_of (ternary_text k f b) ≡ (f, b)
ternary_back k f b h g d =
    let x : binary_from known_digit 0 (ternary_text k f b) ≡ f = ap (λ n. binary_from known_digit n (ternary_text k f b)) (sym (below_none k f h)) ∙ known_back k f b ∙ omega arith in
    let y : binary_from one_digit 0 (ternary_text k f b) ≡ b = ap (λ n. binary_from one_digit n (ternary_text k f b)) (sym (below_none k b g)) ∙ one_back k f b d ∙ omega arith in
    λ i. (x i, y i)

-- the digits aren't marks
digit_plain : (b x y : ℕ) → is_mark b ≡ true → x < 2 → y < 2 → has b (digit_text x y) ≡ false
digit_plain b x y m h g =
    digits_are (λ x y w. has b w ≡ false) (λ y. neither (42 == b) false (other_mark 42 m refl) refl) (neither (48 == b) false (other_mark 48 m refl) refl) (neither (49 == b) false (other_mark 49 m refl) refl) x y h g
  where
    other_mark : (c : ℕ) → is_mark b ≡ true → is_mark c ≡ false → (c == b) ≡ false
    other_mark c m e = false_from_ne_true (c == b) (λ q. clash (sym (ap is_mark (eqb-true c b q) ∙ m) ∙ e))
      where
        clash : true ≡ false → ⊥
        clash e = cc

pub ternary_plain : (b k f n : ℕ) → is_mark b ≡ true → has b (ternary_text k f n) ≡ false
unfolding ternary_text
ternary_plain b zero f n m = refl
ternary_plain b (suc k) f n m = has_both b (digit_text (bit_at f k) (bit_at n k)) (ternary_text k f n) (digit_plain b (bit_at f k) (bit_at n k) m (bit_at-lt f k) (bit_at-lt n k)) (ternary_plain b k f n m)
