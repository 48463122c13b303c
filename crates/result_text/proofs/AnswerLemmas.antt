-- Answers that are written one by one.
use Rattle.std.proofs.Common.{ℕ, ◌≡◌, ◌<◌, ◌+◌, List, [], ◌∷◌, ◌++◌, take, length, get_or, sym, ap, ◌∙◌, append_assoc, arith}
use Rattle.std.proofs.lemmas.List.{take_more, append-nil, length-take-le}
use Rattle.net_types.specs.declared.question.Answer.{Answer}
use Rattle.result_text.specs.AnswerText.{answer_text, answers_from}

answers_and : (k : ℕ) (xs : List Answer) (a : Answer) → answers_from k (xs ++ a ∷ []) ≡ answers_from k xs ++ answer_text (k + length xs) a
answers_and k [] a = append-nil (answer_text k a) ∙ (let e : k ≡ k + 0 = omega arith in ap (λ n. answer_text n a) e)
answers_and k (x ∷ xs) a =
    let e : k + 1 + length xs ≡ k + length (x ∷ xs) = omega arith in
    ap (λ t. answer_text k x ++ t) (answers_and (k + 1) xs a ∙ ap (λ n. answers_from (k + 1) xs ++ answer_text n a) e)
    ∙ sym (append_assoc (answer_text k x) (answers_from (k + 1) xs) (answer_text (k + length (x ∷ xs)) a))

pub answers_more : (xs : List Answer) (i : ℕ) (a : Answer) (before out : List ℕ) → i < length xs → a ≡ get_or xs i a → out ≡ before ++ answers_from 1 (take i xs) → out ++ answer_text (i + 1) a ≡ before ++ answers_from 1 (take (i + 1) xs)
answers_more xs i a before out l e so_far =
    let all : take (i + 1) xs ≡ take i xs ++ a ∷ [] = take_more xs i a l ∙ ap (λ z. take i xs ++ z ∷ []) (sym e) in
    let n : 1 + length (take i xs) ≡ i + 1 = (let t = length-take-le i xs (omega (arith, l)) in omega (arith, t)) in
    ap (λ o. o ++ answer_text (i + 1) a) so_far
    ∙ append_assoc before (answers_from 1 (take i xs)) (answer_text (i + 1) a)
    ∙ ap (λ t. before ++ t) (sym (ap (answers_from 1) all ∙ answers_and 1 (take i xs) a ∙ ap (λ m. answers_from 1 (take i xs) ++ answer_text m a) n))
