-- Roots in slots of their own.
use Rattle.std.proofs.Common.{ℕ, ◌≡◌, ◌+◌, ◌<◌, ◌≤◌, List, [], ◌∷◌, ◌++◌, length, take, get_or, refl, sym, ap, ◌∙◌, arith, All, AllPairs}
use Rattle.std.proofs.lemmas.List.{take_more, take_all, length-take-le}
use Rattle.std.proofs.lemmas.List.Elements.{All-nil, All-cons}
use Rattle.std.proofs.lemmas.List.Kept.{AllPairs-cons}
use Rattle.hdr_bits.specs.declared.cube.Cube.{Cube}
use Rattle.cube_alg.specs.declared.Region.{Region}
use Rattle.task_board.specs.Regions.{LieApart}
use Rattle.task_board.proofs.Pairs.{pairs_nil}
use Rattle.steal_pool.specs.Roots.{in_slots}

abbrev root : ℕ → Cube → Region
root slot c = record { slot = slot; cube = c }

snoc : (slot : ℕ) (cs : List Cube) (c : Cube) → in_slots slot (cs ++ c ∷ []) ≡ in_slots slot cs ++ root (slot + length cs) c ∷ []
snoc slot [] c = let e : slot ≡ slot + 0 = omega arith in ap (λ k. root k c ∷ []) e
snoc slot (d ∷ cs) c = let e : (slot + 1) + length cs ≡ slot + length (d ∷ cs) = omega arith in
    ap (λ l. root slot d ∷ l) (snoc (slot + 1) cs c ∙ ap (λ k. in_slots (slot + 1) cs ++ root k c ∷ []) e)

-- one more cube is put into the next slot
pub one_more : (cs : List Cube) (i : ℕ) (d : Cube) (c : Cube) (old new : List Region) → i < length cs → c ≡ get_or cs i d → old ≡ in_slots 0 (take i cs) → new ≡ old ++ root i c ∷ [] → new ≡ in_slots 0 (take (i + 1) cs)
one_more cs i d c old new l is so now =
    let long : 0 + length (take i cs) ≡ i = (let a = length-take-le i cs (omega (arith, l)) in omega (arith, a)) in
    now ∙ ap (λ (rs : List Region). rs ++ root i c ∷ []) so
    ∙ ap (λ k. in_slots 0 (take i cs) ++ root k c ∷ []) (sym long)
    ∙ sym (snoc 0 (take i cs) c)
    ∙ ap (λ (x : Cube). in_slots 0 (take i cs ++ x ∷ [])) is
    ∙ ap (in_slots 0) (sym (take_more cs i d l))

later : (k slot : ℕ) (c : Cube) (cs : List Cube) → k < slot → All (LieApart (root k c)) (in_slots slot cs)
later k slot c [] l = All-nil (LieApart (root k c))
later k slot c (d ∷ cs) l =
    All-cons (LieApart (root k c)) (root slot d) (in_slots (slot + 1) cs)
    (record { apart = λ s h a b. let x = a.same_slot in let y = b.same_slot in absurd (omega (arith, x, y, l)) })
    (later k (slot + 1) c cs (omega (arith, l)))

pub slots_apart : (slot : ℕ) (cs : List Cube) → AllPairs LieApart (in_slots slot cs)
slots_apart slot [] = pairs_nil LieApart
slots_apart slot (c ∷ cs) = AllPairs-cons LieApart (root slot c) (in_slots (slot + 1) cs) (later slot (slot + 1) c cs (omega arith)) (slots_apart (slot + 1) cs)

pub whole_list : (cs : List Cube) (n : ℕ) (roots : List Region) → length cs ≤ n → roots ≡ in_slots 0 (take n cs) → roots ≡ in_slots 0 cs
whole_list cs n roots l so = so ∙ ap (in_slots 0) (take_all n cs l)

pub same_count : (slot : ℕ) (cs : List Cube) → length (in_slots slot cs) ≡ length cs
same_count slot [] = refl
same_count slot (c ∷ cs) = let e = same_count (slot + 1) cs in omega (arith, e)
