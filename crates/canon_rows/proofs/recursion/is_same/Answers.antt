use Rattle.std.proofs.Common.{Bool, true, ◌&&◌, eqb, refl, ap, ◌≡◌, map, List, [], ◌∷◌}
use Rattle.std.specs.Cmp.Lexicographic.{pointwise}
use Rattle.std.specs.Bool.{Decides}
use Rattle.std.proofs.lemmas.Bool.{and_parts, and_from, eqb-true, eq-eqb}
use Rattle.canon_rows.specs.declared.Piece.{Piece}
use Rattle.canon_rows.specs.PlainRows.{plain}
use Rattle.canon_rows.proofs.recursion.is_same.Goals as goal

-- lists that are equal by a test of the pieces are equal as plain lists
same_map : (E : Piece → Piece → Bool) → ((p q : Piece) → Decides (E p q) (plain p ≡ plain q)) → (xs ys : List Piece) → Decides (pointwise E xs ys) (map plain xs ≡ map plain ys)
same_map E d [] [] = (λ e. refl, λ e. refl)
same_map E d [] (y ∷ ys) = (λ e. absurd cc, λ e. absurd cc)
same_map E d (x ∷ xs) [] = (λ e. absurd cc, λ e. absurd cc)
same_map E d (x ∷ xs) (y ∷ ys) =
    let h = same_map E d xs ys in
    (λ e. let p = and_parts (E x y) (pointwise E xs ys) e in let a = (d x y).0 p.0 in let b = h.0 p.1 in cc, λ e. and_from (E x y) (pointwise E xs ys) ((d x y).1 cc) (h.1 cc))

decides : (p q : Piece) → Decides ((eqb p.cube.fixed q.cube.fixed && eqb p.cube.bits q.cube.bits) && eqb p.value q.value) (plain p ≡ plain q)
decides p q =
    (λ e. let a = and_parts _ (eqb p.value q.value) e in let b : (eqb p.cube.fixed q.cube.fixed ≡ true) × (eqb p.cube.bits q.cube.bits ≡ true) = and_parts _ _ a.0 in let f = eqb-true p.cube.fixed q.cube.fixed b.0 in let g = eqb-true p.cube.bits q.cube.bits b.1 in let v = eqb-true p.value q.value a.1 in cc, λ e. and_from _ _ (and_from _ _ (eq-eqb _ _ (ap (λ t. t.fixed) e)) (eq-eqb _ _ (ap (λ t. t.bits) e))) (eq-eqb _ _ (ap (λ t. t.value) e)))

pub returns : goal.returns
returns c = rw c.eq.ensures (same_map _ (λ p q. decides p q) c.args.low.now c.args.high.now)
