-- How many rows a group stands for.
use Rattle.std.proofs.Common.{◌≡◌, ◌≤◌, ◌<◌, ◌^◌, ◌+◌, ◌-◌, ◌*◌, take, drop, get_or, ℕ, zero, suc, ◌==◌, false, List, [], ◌∷◌, ◌++◌, length, map, refl, sym, ap, subst, ◌∙◌, arith, All}
use Rattle.std.specs.List.{flat_map}
use Rattle.std.specs.List.Sorted.{IsPermutation}
use Rattle.std.proofs.Math.Nat.{suc-mul, le-mul_of_pos_right}
use Rattle.std.proofs.lemmas.List.{length-append, length-map, take_all}
use Rattle.std.proofs.lemmas.List.Elements.{All-nil, All-cons}
use Rattle.std.proofs.lemmas.List.Sorted.{length_permutation}
use Rattle.net_types.specs.declared.network.Row.{Row}
use Rattle.report_groups.specs.declared.types.Draft.{Draft}
use Rattle.report_groups.specs.declared.types.Pattern.{Pattern}
use Rattle.report_groups.specs.Groups.{cells_of, cell_of, choices}
use Rattle.report_groups.specs.Drafts.{shown, IsCounted, Settles}
use Rattle.report_groups.proofs.Joins.{one_each}

-- one of the first list beside each choice of the others
pub length_choices : {A : Type 0} (xs : List A) (rest : List (List A)) → length (choices (xs ∷ rest)) ≡ length xs * length (choices rest)
length_choices [] rest = omega (arith)
length_choices (x ∷ xs) rest =
    length-append (map (λ c. x ∷ c) (choices rest)) (choices (xs ∷ rest))
    ∙ ((λ i. length-map (choices rest) (λ c. x ∷ c) i + length_choices xs rest i)
    ∙ (omega (arith) ∙ sym (suc-mul (length xs) (length (choices rest)))))

-- the choices of the other lists are not more
pub fewer_choices : {A : Type 0} (xs : List A) (rest : List (List A)) (n : ℕ) → 0 < length xs → length (choices (xs ∷ rest)) < n → length (choices rest) < n
fewer_choices xs rest n some l =
    let e = length_choices xs rest in
    let m = le-mul_of_pos_right (length (choices rest)) some in
    omega (arith, e, m, l)

pub all_counted : (ds : List Draft) → length (flat_map cells_of (map shown ds)) < 2 ^ 64 → All IsCounted ds
all_counted [] l = All-nil IsCounted
all_counted (d ∷ ds) l =
    let e = length-append (cells_of (shown d)) (flat_map cells_of (map shown ds)) in
    All-cons IsCounted d ds (omega (arith, e, l)) (all_counted ds (omega (arith, e, l)))

-- settled groups stand for as many rows as there are
pub settled_rows : (ds : List Draft) (rs : List Row) (settled : List Draft) → map (λ d. cells_of (shown d)) ds ≡ map (λ row. cell_of row ∷ []) rs → Settles (map shown ds) (map shown settled) → length (flat_map cells_of (map shown settled)) ≡ length rs
settled_rows ds rs settled e s =
    length_permutation (flat_map cells_of (map shown ds)) (flat_map cells_of (map shown settled)) s.same
    ∙ (ap length (one_each ds rs e) ∙ length-map rs cell_of)

pub positive : (n : ℕ) → (n == 0) ≡ false → 0 < n
positive zero e = absurd cc
positive (suc n) e = omega arith

-- the choices by the first list and the others, as a slice gives these
pub count_at : (fs : List (List Pattern)) (f : List Pattern) → 1 ≤ length fs → f ≡ get_or fs 0 f → length (choices fs) ≡ length f * length (choices (take (length fs - 1) (drop 1 fs)))
count_at [] f h e = absurd (omega (arith, h))
count_at (g ∷ fs) f h e =
    let rest : take (length (g ∷ fs) - 1) (drop 1 (g ∷ fs)) ≡ fs = take_all (length (g ∷ fs) - 1) fs (omega arith) in
    length_choices g fs ∙ (λ i. length (sym e i) * length (choices (sym rest i)))

-- where the first list isn't empty, the choices of the others are not more
pub fewer_at : (fs : List (List Pattern)) (f : List Pattern) (n : ℕ) → 1 ≤ length fs → f ≡ get_or fs 0 f → 0 < length f → length (choices fs) < n → length (choices (take (length fs - 1) (drop 1 fs))) < n
fewer_at [] f n h e some l = absurd (omega (arith, h))
fewer_at (g ∷ fs) f n h e some l =
    let rest : take (length (g ∷ fs) - 1) (drop 1 (g ∷ fs)) ≡ fs = take_all (length (g ∷ fs) - 1) fs (omega arith) in
    let some' : 0 < length g = subst (λ (x : List Pattern). 0 < length x) e some in
    subst (λ (x : List (List Pattern)). length (choices x) < n) (sym rest) (fewer_choices g fs n some' l)
