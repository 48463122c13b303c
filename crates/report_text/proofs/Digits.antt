-- Ternary digits.
use Rattle.std.proofs.Common.{◌≡◌, ℕ, zero, suc, ◌+◌, ◌<◌, ◌≤◌, List, [], ◌∷◌, ◌++◌, arith, ap, sym, ◌∙◌, append_assoc, append-nil}
use Rattle.std.specs.Int.{bit_at}
use Rattle.std.proofs.lemmas.Bool.{cond-false, ne_eqb}
use Rattle.std.proofs.lemmas.Fmt.{decimal_digit}
use Rattle.report_text.specs.FieldText.{digit_text, ternary_text}

pub fixed_digit : (fixed bit d : ℕ) → 0 < fixed → bit ≡ d → d < 10 → digit_text fixed bit ≡ (48 + d) ∷ []
fixed_digit fixed bit d some e below = cond-false _ _ _ (ne_eqb fixed 0 (λ z. omega arith)) ∙ rw e (decimal_digit d below)

-- one more digit, with those below it still to come
pub ternary_more : (out now : List ℕ) (d k m fixed bits : ℕ) → digit_text (bit_at fixed k) (bit_at bits k) ≡ d ∷ [] → m ≡ suc k → now ≡ out ++ d ∷ [] → now ++ ternary_text k fixed bits ≡ out ++ ternary_text m fixed bits
unfolding ternary_text
ternary_more out now d k m fixed bits e above is =
    ap (λ x. x ++ ternary_text k fixed bits) (is ∙ ap (λ x. out ++ x) (sym e))
    ∙ append_assoc out (digit_text (bit_at fixed k) (bit_at bits k)) (ternary_text k fixed bits)
    ∙ ap (λ x. out ++ ternary_text x fixed bits) (sym above)

-- no digit is left
pub none_left : (out : List ℕ) (k fixed bits : ℕ) → k ≤ 0 → out ++ ternary_text k fixed bits ≡ out
unfolding ternary_text
none_left out zero fixed bits h = append-nil out
none_left out (suc k) fixed bits h = absurd (omega arith)
