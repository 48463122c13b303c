-- Texts that are cut at a byte.
use Rattle.std.proofs.Common.{◌≡◌, ℕ, ◌+◌, suc, Bool, true, false, cond, ◌||◌, ◌==◌, List, [], ◌∷◌, ◌++◌, length, take, drop, refl, sym, ap, append-nil, ◌∙◌, arith, position}
use Rattle.std.specs.Prelude.{nat_lt, Some, None}
use Rattle.std.specs.List.{position_or_len, list_any}
use Rattle.std.proofs.lemmas.Bool.{eq-eqb}
use Rattle.std.proofs.lemmas.List.{take_all, drop_all}
use Rattle.net_text.proofs.Parts.{none_passes}
use Rattle.report_text.specs.Reading.{cut_at, next_word, skip_word}

one_more : (n : ℕ) → 1 + n ≡ suc n
one_more n = omega arith

two_more : (n : ℕ) → 1 + n + 1 ≡ suc (n + 1)
two_more n = omega arith

-- what stands before place n, and behind the byte there
abbrev pub parts_at : ℕ → List ℕ → List ℕ × List ℕ
parts_at n xs = (take n xs, drop (n + 1) xs)

later : (x n : ℕ) (xs : List ℕ) → parts_at (1 + n) (x ∷ xs) ≡ (x ∷ take n xs, drop (n + 1) xs)
later x n xs = λ i. (take (one_more n i) (x ∷ xs), drop (two_more n i) (x ∷ xs))

cut_both : (b : ℕ) (xs : List ℕ) → cut_at b xs ≡ parts_at (position_or_len (λ c. c == b) xs) xs
cut_both b [] = refl
cut_both b (x ∷ xs) = go (cut_both b xs) (x == b) refl
  where
    go : cut_at b xs ≡ parts_at (position_or_len (λ c. c == b) xs) xs → (t : Bool) → (x == b) ≡ t → cut_at b (x ∷ xs) ≡ parts_at (position_or_len (λ c. c == b) (x ∷ xs)) (x ∷ xs)
    go h true e = rw e refl
    go h false e = rw e (ap (λ q. (x ∷ q.0, q.1)) h ∙ sym (later x (position_or_len (λ c. c == b) xs) xs))

some_is : (b : Bool) (e i : ℕ) → cond b (Some e) None ≡ Some i → e ≡ i
some_is true e i h = cc
some_is false e i h = absurd (cc)

pub cut_some : (b i : ℕ) (xs : List ℕ) → position (λ c. c == b) xs ≡ Some i → parts_at i xs ≡ cut_at b xs
cut_some b i xs h =
    let e : position_or_len (λ c. c == b) xs ≡ i = some_is (nat_lt (position_or_len (λ c. c == b) xs) (length xs)) (position_or_len (λ c. c == b) xs) i h in
    sym (cut_both b xs ∙ ap (λ n. parts_at n xs) e)

pub cut_none : (b : ℕ) (xs : List ℕ) → position (λ c. c == b) xs ≡ None → cut_at b xs ≡ (xs, [])
cut_none b xs h =
    let e : length xs ≡ position_or_len (λ c. c == b) xs = none_passes (λ c. c == b) xs h in
    cut_both b xs ∙ ap (λ n. parts_at n xs) (sym e) ∙ whole
  where
    whole : parts_at (length xs) xs ≡ (xs, [])
    whole = λ i. (take_all (length xs) xs (omega arith) i, drop_all (length xs + 1) xs (omega arith) i)

-- ---- what is written before a separator

-- b stands in the text
abbrev pub has : ℕ → List ℕ → Bool
has b w = list_any (λ c. c == b) w

-- nothing, or something that begins with b
abbrev pub Tail : ℕ → List ℕ → Type 0
Tail b [] = Unit {0}
Tail b (x ∷ t) = x ≡ b

-- what stands after a tail's first byte
abbrev pub after : List ℕ → List ℕ
after [] = []
after (x ∷ t) = t

pub either : (a b : Bool) → (a || b) ≡ false → (a ≡ false) × (b ≡ false)
either true b h = absurd (cc)
either false b h = (refl, h)

pub neither : (a b : Bool) → a ≡ false → b ≡ false → (a || b) ≡ false
neither a b h g = rw (h, g) refl

pub cut_back : (b : ℕ) (w t : List ℕ) → has b w ≡ false → Tail b t → cut_at b (w ++ t) ≡ (w, after t)
cut_back b [] [] h e = refl
cut_back b [] (x ∷ t) h e = rw (eq-eqb x b e) refl
cut_back b (x ∷ w) t h e = let g = either (x == b) (has b w) h in rw (g.0, cut_back b w t g.1 e) refl

pub cut_whole : (b : ℕ) (w : List ℕ) → has b w ≡ false → cut_at b w ≡ (w, [])
cut_whole b w h = ap (cut_at b) (sym (append-nil w)) ∙ cut_back b w [] h tt

pub next_back : (w t : List ℕ) → has 32 w ≡ false → Tail 32 t → next_word (w ++ t) ≡ w
next_back w t h e = ap (λ q. q.0) (cut_back 32 w t h e)

pub skip_back : (w t : List ℕ) → has 32 w ≡ false → Tail 32 t → skip_word (w ++ t) ≡ after t
skip_back w t h e = ap (λ q. q.1) (cut_back 32 w t h e)
