-- Lines that are the same in two texts.
use Rattle.std.proofs.Common.{◌≡◌, ℕ, ◌+◌, ◌<◌, ◌≤◌, false, true, List, [], ◌∷◌, map, drop, length, get_or, suc, cond, refl, sym, ap, ◌∙◌}
use Rattle.std.specs.Str.{bytes_eq}
use Rattle.std.proofs.lemmas.List.{drop_more, drop_all}
use denote.Ref.{Bor}
use Rattle.view_core.specs.Differing.{same_lines}

abbrev bytes_in : Bor (List ℕ) → List ℕ
bytes_in line = line.now

abbrev pub same_from : List (Bor (List ℕ)) → List (Bor (List ℕ)) → ℕ → ℕ
same_from a b i = same_lines (map (λ line. line.now) (drop i a)) (map (λ line. line.now) (drop i b))

-- one line more is the same in both
pub same_more : (a b : List (Bor (List ℕ))) (i : ℕ) (x y : Bor (List ℕ)) → i < length a → i < length b → x ≡ get_or a i x → y ≡ get_or b i y → bytes_eq x.now y.now ≡ true
    → same_from a b i ≡ suc (same_from a b (i + 1))
same_more a b i x y k n g h e =
    (λ j. same_lines (map bytes_in ((drop_more a i x k ∙ ap (λ z. z ∷ drop (i + 1) a) (sym g)) j)) (map bytes_in ((drop_more b i y n ∙ ap (λ z. z ∷ drop (i + 1) b) (sym h)) j)))
    ∙ ap (λ t. cond t (suc (same_from a b (i + 1))) 0) e

-- the next line differs
pub same_none : (a b : List (Bor (List ℕ))) (i : ℕ) (x y : Bor (List ℕ)) → i < length a → i < length b → x ≡ get_or a i x → y ≡ get_or b i y → bytes_eq x.now y.now ≡ false
    → same_from a b i ≡ 0
same_none a b i x y k n g h e =
    (λ j. same_lines (map bytes_in ((drop_more a i x k ∙ ap (λ z. z ∷ drop (i + 1) a) (sym g)) j)) (map bytes_in ((drop_more b i y n ∙ ap (λ z. z ∷ drop (i + 1) b) (sym h)) j)))
    ∙ ap (λ t. cond t (suc (same_from a b (i + 1))) 0) e

none_right : (xs : List (List ℕ)) → same_lines xs [] ≡ 0
none_right [] = refl
none_right (x ∷ xs) = refl

-- one of the texts has no more lines
pub same_ended : (a b : List (Bor (List ℕ))) (i : ℕ) → length a ≤ i → same_from a b i ≡ 0
same_ended a b i k = ap (λ ls. same_lines (map bytes_in ls) (map bytes_in (drop i b))) (drop_all i a k)

pub same_ended_other : (a b : List (Bor (List ℕ))) (i : ℕ) → length b ≤ i → same_from a b i ≡ 0
same_ended_other a b i k = ap (λ ls. same_lines (map bytes_in (drop i a)) (map bytes_in ls)) (drop_all i b k) ∙ none_right (map bytes_in (drop i a))
