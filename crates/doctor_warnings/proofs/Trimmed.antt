-- A line whose end is cut off byte by byte.
use Rattle.std.proofs.Common.{◌≡◌, ℕ, true, false, List, [], ◌∷◌, ◌++◌, refl, ap, ◌∙◌}
use Rattle.std.specs.Prelude.{cond}
use Rattle.net_text.specs.Lines.{is_separator}
use Rattle.doctor_warnings.specs.Lines.{keep_word, trimmed}

-- a separator at the end is cut off
pub cut : (front : List ℕ) (last : ℕ) → is_separator last ≡ true → trimmed (front ++ last ∷ []) ≡ trimmed front
cut [] last h = ap (λ b. cond b [] (last ∷ [])) h
cut (b ∷ front) last h = ap (keep_word b) (cut front last h)

kept_by : (b last : ℕ) (front : List ℕ) → keep_word b (front ++ last ∷ []) ≡ b ∷ (front ++ last ∷ [])
kept_by b last [] = refl
kept_by b last (c ∷ front) = refl

-- any other byte at the end is kept with all before it
pub kept : (front : List ℕ) (last : ℕ) → is_separator last ≡ false → trimmed (front ++ last ∷ []) ≡ front ++ last ∷ []
kept [] last h = ap (λ b. cond b [] (last ∷ [])) h
kept (b ∷ front) last h = ap (keep_word b) (kept front last h) ∙ kept_by b last front
