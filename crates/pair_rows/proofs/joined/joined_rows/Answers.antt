use Rattle.std.proofs.Common.{◌≡◌, ◌++◌, ◌∷◌, [], List, length, refl, sym, ap, subst, ◌∙◌, append_assoc, arith}
use Rattle.std.specs.Prelude.{⊤}
use Rattle.std.specs.List.Sorted.{IsPermutation}
use Rattle.std.specs.Vec.Iter.{into_iter_items}
use Rattle.std.proofs.lemmas.List.{append-nil}
use Rattle.hdr_bits.specs.CubeBits.{IsIn}
use Rattle.net_types.specs.declared.network.Row.{Row}
use Rattle.task_board.specs.declared.leaf.Leaf.{Leaf}
use Rattle.task_board.specs.Regions.{Holds}
use Rattle.pair_rows.specs.Pairs.{AreRowsFor}
use Rattle.pair_rows.specs.Slots.{HoldsHeader}
use Rattle.pair_rows.proofs.ListLemmas.{any_moved}
use Rattle.pair_rows.proofs.RowLemmas.{rows_together, rows_of_fewer}
use Rattle.pair_rows.proofs.SlotLemmas.{held_by_last}
use Rattle.pair_rows.proofs.joined.joined_rows.Goals as goal

pub loop-leaf-preserved : goal.loop-leaf-preserved
loop-leaf-preserved g c =
    let gives = g.K.Pairing.gives c.args.slot in
    let done : List (Leaf ⊤) = c.loop-leaf.yielded in
    let leaf : Leaf ⊤ = c.in-Some.leaf in
    let left : List (Leaf ⊤) = into_iter_items c.loop-leaf.leaf-iterator in
    let rest : List (Leaf ⊤) = into_iter_items c.next.new.self in
    let step : (done ++ leaf ∷ []) ++ rest ≡ done ++ left = append_assoc done (leaf ∷ []) rest ∙ ap (λ (ls : List (Leaf ⊤)). done ++ ls) (sym c.in-Some.ensures.steps.0) in
    let back : done ++ left ≡ (done ++ leaf ∷ []) ++ rest = sym {A = List (Leaf ⊤)} step in
    let rows : List Row = c.loop-leaf.rows.items in
    let more : List Row = c.in-Some-of_region.more.items in
    let grown : c.add_behind.new.rows.items ≡ rows ++ more = c.in_ok-is_next.ensures.added c.if-not-is_next.false in
    let order = c.in_ok-is_next.ensures.ordered c.if-not-is_next.false c.loop-leaf.invariant.rows.ordered c.in-Some-of_region.ensures.ordered in
    let together : AreRowsFor gives (HoldsHeader c.args.slot (done ++ leaf ∷ [])) (rows ++ more) =
    rows_together gives (HoldsHeader c.args.slot done) (IsIn leaf.region.cube) (HoldsHeader c.args.slot (done ++ leaf ∷ [])) rows more c.loop-leaf.invariant.rows c.in-Some-of_region.ensures order (λ h. held_by_last done leaf c.args.slot h)
    in
    record {
      moved = subst (IsPermutation c.args.leaves.items) back c.loop-leaf.invariant.moved;
      rows = subst (AreRowsFor gives (HoldsHeader c.args.slot (done ++ leaf ∷ []))) (sym {A = List Row} grown) together;
    }

no_items : {A : Type 0} (xs : List A) → 0 ≡ length xs → xs ≡ []
no_items [] e = refl
no_items (x ∷ xs) e = absurd (omega (arith, e))

pub returns : goal.returns
returns g c =
    let gives = g.K.Pairing.gives c.args.slot in
    let leaves : List (Leaf ⊤) = c.args.leaves.items in
    let done : List (Leaf ⊤) = c.loop-leaf.yielded in
    let left : List (Leaf ⊤) = into_iter_items c.loop-leaf.leaf-iterator in
    let none : left ≡ [] = no_items left (let z = c.in-None.ensures.steps.0 in omega (arith, z, c.loop-leaf.leaf-iterator.rest.ok.0)) in
    let whole : done ++ left ≡ done = ap (λ (ls : List (Leaf ⊤)). done ++ ls) none ∙ append-nil done in
    let moved : IsPermutation leaves done = subst (IsPermutation leaves) whole c.loop-leaf.invariant.moved in
    rows_of_fewer gives (HoldsHeader c.args.slot done) (HoldsHeader c.args.slot leaves) c.loop-leaf.rows.items c.loop-leaf.invariant.rows (λ h i. any_moved (λ (l : Leaf ⊤). Holds c.args.slot h l.region) leaves done moved i)
