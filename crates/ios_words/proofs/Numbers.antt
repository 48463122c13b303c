-- Numbers and addresses by steps.
use Rattle.std.proofs.Common.{◌≡◌, ℕ, ◌+◌, ◌-◌, ◌*◌, ◌<◌, ◌≤◌, List, length, take, drop, get_or, min, true, arith, rules, tests, drop-cons, add-one}
use Rattle.std.specs.Str.{all_ascii_digits}
use Rattle.std.proofs.lemmas.Int.Digits.{digits_value_more}
use Rattle.std.proofs.lemmas.Str.{digit_value_digit}
use Rattle.std.specs.Char.{is_ascii_digit}
use Rattle.ios_words.specs.Steps.{capped_value}

pub capped_more : (word : List ℕ) (i d n : ℕ) → i < length word → 48 ≤ get_or word i 0 → get_or word i 0 ≤ 57 → d ≡ get_or word i 0 - 48 → n ≡ capped_value (take i word)
    → min (n * 10 + d) 4294967296 ≡ capped_value (take (i + 1) word)
capped_more word i d n l low high e h =
    let more = digits_value_more 10 word i l in
    let digit = digit_value_digit (get_or word i 0) (search rules) in
    omega arith

digit_test : (c : ℕ) → 48 ≤ c → c ≤ 57 → is_ascii_digit c ≡ true
digit_test c low high = search (rules, tests)

pub digits_more : (word : List ℕ) (i : ℕ) → i < length word → 48 ≤ get_or word i 0 → get_or word i 0 ≤ 57 → all_ascii_digits (drop (i + 1) word) ≡ all_ascii_digits (drop i word)
digits_more word i l low high = rw (drop-cons word i 0, digit_test (get_or word i 0) low high, add-one)
