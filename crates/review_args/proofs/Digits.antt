-- What `parse` gives for one to twenty digits.
use Rattle.std.proofs.Common.{◌≡◌, ℕ, ◌≤◌, List, Result, Ok, Err, true, length, arith, tests}
use Rattle.std.specs.Str.{all_ascii_digits}
use Rattle.std.specs.Str.Parse.{ParsesUnsigned, digits_value}
use Rattle.std.specs.Result.{result_ok}
use Rattle.std.proofs.lemmas.Str.Parse.{IsNumeralModel, numerals_by_value, tells_all_ascii_digits, parse_digits}
use Rattle.ios_words.specs.Words.{is_numeral}
use Rattle.review_args.specs.Numbers.{number_within}

own : IsNumeralModel (λ ds. all_ascii_digits ds ≡ true) (digits_value 10)
own = numerals_by_value _ tells_all_ascii_digits

pub parsed : {E : Type 0} (word : List ℕ) (r : Result ℕ E) → ParsesUnsigned 64 10 word r → length word ≤ 20 → is_numeral word ≡ true → result_ok r ≡ number_within 0 18446744073709551615 word
parsed {E} word (Ok x) h short numeral =
    let digits : all_ascii_digits word ≡ true = grind (arith, tests) in
    let read = parse_digits own {E = E} 64 word (Ok x) h digits in
    grind (arith, tests, read)
parsed {E} word (Err e) h short numeral =
    let digits : all_ascii_digits word ≡ true = grind (arith, tests) in
    let read = parse_digits own {E = E} 64 word (Err e) h digits in
    grind (arith, tests, read)
