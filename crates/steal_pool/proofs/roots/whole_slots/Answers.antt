use Rattle.std.proofs.Common.{◌≡◌, ℕ, ◌+◌, List, length, replicate, All, Any, sym, subst, ◌∙◌, ap, arith}
use Rattle.std.proofs.lemmas.List.{length-replicate}
use Rattle.std.proofs.lemmas.List.Elements.{All-replicate}
use Rattle.hdr_bits.specs.declared.cube.Cube.{Cube}
use Rattle.hdr_bits.specs.CubeBits.{IsIn}
use Rattle.cube_alg.specs.declared.Region.{Region}
use Rattle.task_board.specs.Regions.{Holds}
use Rattle.steal_pool.specs.Roots.{in_slots}
use Rattle.steal_pool.proofs.WholeLemmas.{slot_holds, star_holds}
use Rattle.steal_pool.proofs.roots.whole_slots.Goals as goal

pub returns-clause-whole : goal.returns-clause-whole
returns-clause-whole c k h l =
    let all = c.all.result in
    let cubes : List Cube = c.as_slice.result.now in
    let are : cubes ≡ replicate c.args.slots all = c.as_slice.ensures.value ∙ c.in_ok-cubes.ensures.items_if_clones_equal (λ y e. e) in
    let each : All (λ (x : Cube). IsIn x h) cubes = subst (All (λ (x : Cube). IsIn x h)) (sym are) (All-replicate (λ (x : Cube). IsIn x h) c.args.slots all (star_holds all h c.all.ensures)) in
    let count : length cubes ≡ c.args.slots = ap (λ (xs : List Cube). length xs) are ∙ length-replicate c.args.slots all in
    subst (λ (rs : List Region). Any (Holds k h) rs) (sym c.in_ok-roots.ensures.roots) (let own : 0 + k ≡ k = omega arith in subst (λ (n : ℕ). Any (Holds n h) (in_slots 0 cubes)) own (slot_holds cubes 0 k h each (omega (arith, l, count))))
