-- Lists over the devices in turn.
use Rattle.std.proofs.Common.{◌≡◌, ℕ, suc, ◌+◌, ◌-◌, ◌*◌, ◌≤◌, Bool, true, false, not, ◌==◌, List, [], ◌∷◌, ◌++◌, map, refl, ap, sym, ◌∙◌, append_assoc, append-nil, arith}
use Rattle.std.specs.Prelude.{flat_map}
use Rattle.std.proofs.lemmas.List.{map-id}
use Rattle.std.proofs.lemmas.Grind.{flat_map-append}
use Rattle.std.proofs.lemmas.List.FromFn.{map-range_with_len_more}
use Rattle.net_gen.specs.Draws.{step, state, given, first_port, second_port}
use Rattle.net_gen.specs.Devices.{numbers}

-- one device more
pub mapped_more : {X : Type 0} (f : ℕ → X) (j : ℕ) (x : X) (xs more : List X) → 1 ≤ j → xs ≡ map f (numbers (j - 1)) → x ≡ f j → more ≡ xs ++ x ∷ [] → more ≡ map f (numbers (j + 1 - 1))
mapped_more f j x xs more some e y m =
    let same : j + 1 - 1 ≡ j - 1 + 1 = omega arith in
    let next : 1 + (j - 1) ≡ j = omega arith in
    m ∙ ap (λ v. xs ++ v ∷ []) y ∙ ap (λ ys. ys ++ f j ∷ []) e ∙ sym (ap (λ k. map f (numbers k)) same ∙ map-range_with_len_more f 1 (j - 1) j next)

-- the same behind what was there before
pub mapped_behind : {X : Type 0} (f : ℕ → X) (j : ℕ) (x : X) (old xs more : List X) → 1 ≤ j → xs ≡ old ++ map f (numbers (j - 1)) → x ≡ f j → more ≡ xs ++ x ∷ [] → more ≡ old ++ map f (numbers (j + 1 - 1))
mapped_behind f j x old xs more some e y m =
    let next = mapped_more f j x (map f (numbers (j - 1))) (map f (numbers (j - 1)) ++ x ∷ []) some refl y refl in
    m ∙ ap (λ v. v ++ x ∷ []) e ∙ append_assoc old (map f (numbers (j - 1))) (x ∷ []) ∙ ap (λ v. old ++ v) next

-- one device more, of what each gives
pub joined_more : {X : Type 0} (f : ℕ → List X) (j : ℕ) (xs more : List X) → 1 ≤ j → xs ≡ flat_map f (numbers (j - 1)) → more ≡ xs ++ f j → more ≡ flat_map f (numbers (j + 1 - 1))
joined_more f j xs more some e m =
    let all : numbers (j + 1 - 1) ≡ numbers (j - 1) ++ j ∷ [] =
    sym (mapped_more (λ (x : ℕ). x) j j (numbers (j - 1)) (numbers (j - 1) ++ j ∷ []) some (sym (map-id (numbers (j - 1)))) refl refl ∙ map-id (numbers (j + 1 - 1))) in
    m ∙ ap (λ v. v ++ f j) e ∙ ap (λ v. flat_map f (numbers (j - 1)) ++ v) (sym (append-nil (f j))) ∙ sym (ap (flat_map f) all ∙ flat_map-append f (numbers (j - 1)) (j ∷ []))

-- two draws more
pub first_drawn : (number s t j : ℕ) → 1 ≤ j → s ≡ state number (2 * (j - 1)) → t ≡ given (step s) → t ≡ first_port number j
unfolding state
first_drawn number s t j some e d =
    let one : 2 * j - 1 ≡ suc (2 * (j - 1)) = omega arith in
    d ∙ ap (λ x. given (step x)) e ∙ sym (ap (λ k. given (state number k)) one)

pub next_state : (number s t j : ℕ) → 1 ≤ j → s ≡ state number (2 * (j - 1)) → t ≡ step (step s) → t ≡ state number (2 * (j + 1 - 1))
unfolding state
next_state number s t j some e d =
    let two : 2 * (j + 1 - 1) ≡ suc (suc (2 * (j - 1))) = omega arith in
    d ∙ ap (λ x. step (step x)) e ∙ sym (ap (state number) two)

pub second_drawn : (number s t j : ℕ) → 1 ≤ j → s ≡ state number (2 * (j - 1)) → t ≡ given (step (step s)) → t ≡ second_port number j
unfolding state
second_drawn number s t j some e d =
    let two : 2 * j ≡ suc (suc (2 * (j - 1))) = omega arith in
    d ∙ ap (λ x. given (step (step x))) e ∙ sym (ap (λ k. given (state number k)) two)

-- all of n devices
pub all_mapped : {X : Type 0} (f : ℕ → X) (j n : ℕ) (xs : List X) → j ≡ n + 1 → xs ≡ map f (numbers (j - 1)) → xs ≡ map f (numbers n)
all_mapped f j n xs end e =
    let last : j - 1 ≡ n = omega arith in
    e ∙ ap (λ k. map f (numbers k)) last
