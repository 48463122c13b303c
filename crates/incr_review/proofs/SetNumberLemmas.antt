-- One number for all headers of a set.
use Rattle.std.proofs.Common.{ℕ, ◌≡◌, ◌<◌, true, if◌then◌else◌, [], ◌∷◌, Some, None, ap, ◌∙◌, arith}
use Rattle.std.proofs.lemmas.Bool.Decides.{nat_tests}
use Rattle.hdr_bits.specs.declared.cube.Cube.{Cube}
use Rattle.hdr_bits.specs.CubeBits.{IsIn, is_in}
use Rattle.hdr_bits.proofs.Masks.{mask_from_in}
use Rattle.cube_diagram.specs.Combined.{if_both}
use Rattle.cube_diagram.specs.Entries.{cubes_value}
use Rattle.cube_diagram.specs.Functions.{Functions, Keeps, count_of, value_at}

in_test : (c : Cube) (h : ℕ) → IsIn c h → is_in c h ≡ true
in_test c h i = let e = mask_from_in c h i in grind (arith, nat_tests, e)

pub number_is : (f t m : Functions) (set next everywhere inside : ℕ) (all : Cube) → Keeps f t → set < count_of f → ((h : ℕ) → IsIn all h) → ((h : ℕ) → value_at t everywhere h ≡ cubes_value (all ∷ []) next h) → ((h : ℕ) → value_at m inside h ≡ if_both (value_at t everywhere h) (value_at t set h)) → (h : ℕ) → value_at m inside h ≡ if_both (Some next) (value_at f set h)
number_is f t m set next everywhere inside all p ls ins made both h =
    let every : value_at t everywhere h ≡ Some next = made h ∙ ap (λ b. if b then Some next else None) (in_test all h (ins h)) in
    both h ∙ (ap (λ x. if_both x (value_at t set h)) every ∙ ap (if_both (Some next)) (p.value set ls h))
