-- The lines before the delimiter, byte by byte.
use Rattle.std.proofs.Common.{◌≡◌, ℕ, ◌+◌, ◌<◌, ◌≤◌, Bool, true, false, cond, List, length, drop, get_or, refl, sym, ap, ◌∙◌, arith, add-one}
use Rattle.std.specs.Prelude.{Option, Some, None, nat_eq, option_map}
use Rattle.std.specs.List.{starts_with}
use Rattle.std.proofs.Math.Seq.{drop-cons}
use Rattle.std.proofs.lemmas.List.{drop_all}
use Rattle.net_text.specs.Lines.{is_line_end}
use Rattle.ios_commands.specs.Banners.{past, lines_before}

from_here : (mark text : List ℕ) (at : ℕ) → at < length text → lines_before mark (drop at text) ≡ cond (starts_with nat_eq (drop at text) mark) (Some 0) (option_map (past (is_line_end (get_or text at 0))) (lines_before mark (drop (at + 1) text)))
from_here mark text at h = rw (add-one, drop-cons text at 0 h) refl

no_line : (k : ℕ) → k + 0 ≡ k
no_line k = omega arith

abbrev pub Counted : List ℕ → List ℕ → ℕ → ℕ → Type 0
Counted mark text at k = option_map (λ n. k + n) (lines_before mark (drop at text)) ≡ lines_before mark text

pub found : (mark text : List ℕ) (at k : ℕ) → at < length text → starts_with nat_eq (drop at text) mark ≡ true → Counted mark text at k → Some k ≡ lines_before mark text
found mark text at k h s e =
    let here : lines_before mark (drop at text) ≡ Some 0 = from_here mark text at h ∙ rw s refl in
    sym (ap Some (no_line k)) ∙ sym (ap (option_map (λ n. k + n)) here) ∙ e

pub not_found : (mark text : List ℕ) (at k : ℕ) → length text ≤ at → Counted mark text at k → None ≡ lines_before mark text
not_found mark text at k h e =
    let here : lines_before mark (drop at text) ≡ None = ap (lines_before mark) (drop_all at text h) in
    sym (ap (option_map (λ n. k + n)) here) ∙ e

step : (k : ℕ) (t : Bool) (o : Option ℕ) → option_map (λ n. k + past t 0 + n) o ≡ option_map (λ n. k + n) (option_map (past t) o)
step k t None = refl
step k true (Some n) = let e : k + (0 + 1) + n ≡ k + (n + 1) = omega arith in ap Some e
step k false (Some n) = let e : k + 0 + n ≡ k + n = omega arith in ap Some e

pub next_byte : (mark text : List ℕ) (at k d b : ℕ) → at < length text → starts_with nat_eq (drop at text) mark ≡ false → b ≡ get_or text at 0 → d ≡ past (is_line_end b) 0 → Counted mark text at k → Counted mark text (at + 1) (k + d)
next_byte mark text at k d b h s g e c =
    let here : lines_before mark (drop at text) ≡ option_map (past (is_line_end b)) (lines_before mark (drop (at + 1) text)) = from_here mark text at h ∙ rw (s, ← g) refl in
    ap (λ x. option_map (λ n. k + x + n) (lines_before mark (drop (at + 1) text))) e ∙ step k (is_line_end b) (lines_before mark (drop (at + 1) text)) ∙ sym (ap (option_map (λ n. k + n)) here) ∙ c
