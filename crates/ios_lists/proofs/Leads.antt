-- The ports at the head of words, word by word.
use Rattle.std.proofs.Common.{◌≡◌, ℕ, ◌+◌, ◌-◌, ◌<◌, suc, List, [], ◌∷◌, ◌++◌, length, take, drop, get_or, sym, ap, ◌∙◌, arith, append_assoc}
use Rattle.std.specs.Prelude.{Some}
use Rattle.std.proofs.Math.Seq.{drop-cons}
use Rattle.ios_words.specs.Names.{port_of}
use Rattle.ios_lines.specs.Words.{Word, Words}
use Rattle.ios_lists.specs.Entries.{lead, leading}

words_here : (words : Words) (i : ℕ) (w : Word) → i < length words → w ≡ get_or words i w → drop i words ≡ w ∷ drop (i + 1) words
words_here words i w h e =
    let one : suc i ≡ i + 1 = omega arith in
    drop-cons words i w h ∙ ap (λ n. get_or words i w ∷ drop n words) one ∙ ap (λ x. x ∷ drop (i + 1) words) (sym e)

take_one : (k x : ℕ) (xs : List ℕ) → k < 9 → take (9 - k) (x ∷ xs) ≡ x ∷ take (9 - (k + 1)) xs
take_one k x xs h = let e : 9 - k ≡ suc (9 - (k + 1)) = omega arith in ap (λ m. take m (x ∷ xs)) e

ports_step : (p : ℕ) (words : Words) (i k n : ℕ) (w : Word) → i < length words → w ≡ get_or words i w → k < 9 → port_of w p ≡ Some n
    → take (9 - k) (leading p (drop i words)) ≡ n ∷ take (9 - (k + 1)) (leading p (drop (i + 1) words))
ports_step p words i k n w h g l e =
    ap (λ ws. take (9 - k) (leading p ws)) (words_here words i w h g)
    ∙ ap (λ o. take (9 - k) (lead o (leading p (drop (i + 1) words)))) e
    ∙ take_one k n (leading p (drop (i + 1) words)) l

pub ports_next : (p : ℕ) (words : Words) (i k n : ℕ) (w : Word) (front new start : List ℕ) → i < length words → w ≡ get_or words i w → k < 9 → port_of w p ≡ Some n → new ≡ front ++ n ∷ []
    → front ++ take (9 - k) (leading p (drop i words)) ≡ start → new ++ take (9 - (k + 1)) (leading p (drop (i + 1) words)) ≡ start
ports_next p words i k n w front new start h g l e f t =
    ap (λ xs. xs ++ take (9 - (k + 1)) (leading p (drop (i + 1) words))) f
    ∙ append_assoc front (n ∷ []) (take (9 - (k + 1)) (leading p (drop (i + 1) words)))
    ∙ sym (ap (λ xs. front ++ xs) (ports_step p words i k n w h g l e))
    ∙ t

pub count_next : (p : ℕ) (words : Words) (i k n m : ℕ) (w : Word) → i < length words → w ≡ get_or words i w → k < 9 → port_of w p ≡ Some n
    → k + length (take (9 - k) (leading p (drop i words))) ≡ m → k + 1 + length (take (9 - (k + 1)) (leading p (drop (i + 1) words))) ≡ m
count_next p words i k n m w h g l e t =
    let s : length (take (9 - k) (leading p (drop i words))) ≡ suc (length (take (9 - (k + 1)) (leading p (drop (i + 1) words)))) = ap (length {A = ℕ}) (ports_step p words i k n w h g l e) in
    omega arith
