-- From numbers of pairs of labels to rows.
use Rattle.std.proofs.Common.{◌≡◌, ◌⊎◌, inl, inr, ◌↔◌, ℕ, ◌^◌, ◌<◌, List, [], ◌∷◌, ◌++◌, Option, Some, None, IsSome, All, AllPairs, Any, Contains, map, slice_get, refl, sym, ap, subst, ◌∙◌, arith, true≢false}
use Rattle.std.specs.Prelude.{filter_map, is_some}
use Rattle.std.specs.List.{AllByRecursion}
use Rattle.std.proofs.lemmas.Nat.{and_le_r}
use Rattle.std.proofs.lemmas.List.{map-append}
use Rattle.std.proofs.lemmas.List.Elements.{All-head, All-tail, All-append, All-nil, All-weaker, All-contains}
use Rattle.hdr_bits.specs.declared.cube.Cube.{Cube}
use Rattle.hdr_bits.specs.CubeBits.{IsIn}
use Rattle.hdr_bits.specs.Rows.{IsRow, ComesBefore, AreRows}
use Rattle.hdr_bits.proofs.Masks.{in_from_mask}
use Rattle.canon_rows.specs.Laws.{TellSameApart}
use Rattle.canon_rows.proofs.LikeFunctions.{row_of_other, rows_of_other}
use Rattle.canon_rows.proofs.RowLaws.{rows_are_disjoint}
use Rattle.cube_alg.specs.declared.cut.Piece.{Piece}
use Rattle.cube_diagram.specs.Paths.{HasValue, AreRowsWithin}
use Rattle.net_types.specs.declared.network.Row.{Row}
use Rattle.pair_rows.specs.Pairs.{Pair, AreDistinct, IsNumberOf, HasLabelPair, AreRowsFor, AreRowsWithPairs, cubes_of, shown, shown_by}
use Rattle.pair_rows.proofs.ListLemmas.{any_left, any_right, any_map, recursion_append}

-- ---- functions that tell the same headers apart
some_value : {A : Type 0} (o : Option A) → IsSome o → (x : A) × (o ≡ Some x)
some_value None s = absurd (true≢false (sym s))
some_value (Some x) s = (x, refl)

some_of : (pairs : List Pair) (o : Option ℕ) (q : Option Pair) → IsNumberOf pairs o q → IsSome o ↔ IsSome q
some_of pairs None q t = (λ s. absurd (true≢false (sym s)), λ s. absurd (true≢false (sym s ∙ ap is_some t)))
some_of pairs (Some v) q t = (λ s. t.1, λ s. refl)

same_of : (pairs : List Pair) → AreDistinct pairs → (o o' : Option ℕ) (q q' : Option Pair) → IsNumberOf pairs o q → IsNumberOf pairs o' q' → (o ≡ o') ↔ (q ≡ q')
same_of pairs d None None q q' t t' = (λ e. t ∙ sym t', λ e. refl)
same_of pairs d None (Some w) q q' t t' = (λ e. absurd cc, λ e. absurd (true≢false (sym t'.1 ∙ ap is_some (sym e ∙ t))))
same_of pairs d (Some v) None q q' t t' = (λ e. absurd cc, λ e. absurd (true≢false (sym t.1 ∙ ap is_some (e ∙ t'))))
same_of pairs d (Some v) (Some w) q q' t t' = (
  λ e. t.0 ∙ (let same : v ≡ w = cc in ap (slice_get pairs) same) ∙ sym t'.0,
  λ e. let s = some_value q t.1 in
      let one : slice_get pairs v ≡ Some s.0 = sym t.0 ∙ s.1 in
      let other : slice_get pairs w ≡ Some s.0 = sym t'.0 ∙ sym e ∙ s.1 in
      ap Some (d.apart v w s.0 one other),
)

tells_same : (pairs : List Pair) → AreDistinct pairs → (f : ℕ → Option ℕ) (g : ℕ → Option Pair) → ((h : ℕ) → h < 2 ^ 112 → IsNumberOf pairs (f h) (g h)) → TellSameApart f g
tells_same pairs d f g t =
    record {
      some = λ h l. some_of pairs (f h) (g h) (t h l);
      same = λ h k l i. same_of pairs d (f h) (f k) (g h) (g k) (t h l) (t k i);
    }

-- ---- rows of numbers
own_bits : (c : Cube) → c.bits < 2 ^ 112
own_bits c = let m = and_le_r c.bits c.fixed in omega (arith, m, c.digits, c.below)

-- the number of a row is in the table, and each header of the row has its pair
numbered : (pairs : List Pair) (f : ℕ → Option ℕ) (g : ℕ → Option Pair) → ((h : ℕ) → h < 2 ^ 112 → IsNumberOf pairs (f h) (g h)) → (p : Piece) → HasValue f p → (pair : Pair) × (slice_get pairs p.value ≡ Some pair) × ((h : ℕ) → h < 2 ^ 112 → IsIn p.cube h → g h ≡ Some pair)
numbered pairs f g t p v =
    let own : IsNumberOf pairs (Some p.value) (g p.cube.bits) = subst (λ o. IsNumberOf pairs o (g p.cube.bits)) (v p.cube.bits (own_bits p.cube) (in_from_mask p.cube p.cube.bits p.cube.digits)) (t p.cube.bits (own_bits p.cube)) in
    let s = some_value (g p.cube.bits) own.1 in
    let at : slice_get pairs p.value ≡ Some s.0 = sym own.0 ∙ s.1 in
    (s.0, at, λ h l m. (let here : IsNumberOf pairs (Some p.value) (g h) = subst (λ o. IsNumberOf pairs o (g h)) (v h l m) (t h l) in here.0 ∙ at))

row_facts : (pairs : List Pair) (f : ℕ → Option ℕ) (g : ℕ → Option Pair) → ((h : ℕ) → h < 2 ^ 112 → IsNumberOf pairs (f h) (g h)) → (ps : List Piece) → All (HasValue f) ps → (rows : List Row) → map shown rows ≡ filter_map (shown_by pairs) ps → (map (λ r. r.cube) rows ≡ map (λ p. p.cube) ps) × AllByRecursion (HasLabelPair g) rows
row_facts pairs f g t [] a [] e = (refl, tt)
row_facts pairs f g t [] a (r ∷ rows) e = absurd cc
row_facts pairs f g t (p ∷ ps) a [] e =
    let n = numbered pairs f g t p (All-head (HasValue f) p ps a) in
    let more : filter_map (shown_by pairs) (p ∷ ps) ≡ (p.cube, n.0) ∷ filter_map (shown_by pairs) ps = rw n.1 refl in
    absurd (cc (e ∙ more))
row_facts pairs f g t (p ∷ ps) a (r ∷ rows) e =
    let n = numbered pairs f g t p (All-head (HasValue f) p ps a) in
    let more : filter_map (shown_by pairs) (p ∷ ps) ≡ (p.cube, n.0) ∷ filter_map (shown_by pairs) ps = rw n.1 refl in
    let whole : shown r ∷ map shown rows ≡ (p.cube, n.0) ∷ filter_map (shown_by pairs) ps = e ∙ more in
    let head : shown r ≡ (p.cube, n.0) = cc in
    let rest : map shown rows ≡ filter_map (shown_by pairs) ps = cc in
    let later = row_facts pairs f g t ps (All-tail (HasValue f) p ps a) rows rest in
    let has : HasLabelPair g r = λ h l m. n.2 h l (subst (λ c. IsIn c h) (ap (λ x. x.0) head) m) ∙ sym (ap (λ x. Some x.1) head) in
    (λ i. (head i).0 ∷ later.0 i, (has, later.1))

-- all rows of the function
pub rows_of_pairs : (pairs : List Pair) → AreDistinct pairs → (f : ℕ → Option ℕ) (pieces : List Piece) → AreRows f (map (λ p. p.cube) pieces) → All (HasValue f) pieces → (rows : List Row) → map shown rows ≡ filter_map (shown_by pairs) pieces → (g : ℕ → Option Pair) → ((h : ℕ) → h < 2 ^ 112 → IsNumberOf pairs (f h) (g h)) → AreRowsWithPairs g rows
rows_of_pairs pairs d f pieces are values rows shows g t =
    let facts = row_facts pairs f g t pieces values rows shows in
    record {
      cubes = subst (AreRows g) (sym facts.0) (rows_of_other f g (tells_same pairs d f g t) (map (λ p. p.cube) pieces) are);
      pairs = facts.1;
    }

-- the rows of the function in a cube
pub rows_of_cube : (pairs : List Pair) → AreDistinct pairs → (f : ℕ → Option ℕ) (cube : Cube) (pieces : List Piece) → AreRowsWithin f cube pieces → (rows : List Row) → map shown rows ≡ filter_map (shown_by pairs) pieces → (g : ℕ → Option Pair) → ((h : ℕ) → h < 2 ^ 112 → IsNumberOf pairs (f h) (g h)) → AreRowsFor g (IsIn cube) rows
rows_of_cube pairs d f cube pieces are rows shows g t =
    let facts = row_facts pairs f g t pieces are.values rows shows in
    let cubes : List Cube = map (λ p. p.cube) pieces in
    record {
      each = subst (All (IsRow g)) (sym facts.0) (All-weaker (IsRow f) (IsRow g) (row_of_other f g (tells_same pairs d f g t)) cubes are.each);
      covers = λ h l i s. subst (Any (λ c. IsIn c h)) (sym facts.0) (any_map (λ (p : Piece). p.cube) (λ (c : Cube). IsIn c h) pieces (are.covers h l i ((some_of pairs (f h) (g h) (t h l)).1 s)));
      ordered = subst (AllPairs ComesBefore) (sym facts.0) are.ordered;
      pairs = facts.1;
    }

-- ---- rows together
pub no_rows : (g : ℕ → Option Pair) (headers : ℕ → Type 0) → ((h : ℕ) → headers h → ⊥) → AreRowsFor g headers []
no_rows g headers none =
    record {
      each = All-nil (IsRow g);
      covers = λ h l i s. absurd (none h i);
      ordered = λ i j d l k. absurd (omega (arith, l, k));
      pairs = tt;
    }

-- of the headers of two lists of rows
pub rows_together : (g : ℕ → Option Pair) (some others both : ℕ → Type 0) (xs ys : List Row) → AreRowsFor g some xs → AreRowsFor g others ys → AllPairs ComesBefore (cubes_of (xs ++ ys)) → ((h : ℕ) → both h → some h ⊎ others h) → AreRowsFor g both (xs ++ ys)
rows_together g some others both xs ys a b order either =
    let all : cubes_of (xs ++ ys) ≡ cubes_of xs ++ cubes_of ys = map-append (λ (r : Row). r.cube) xs ys in
    record {
      each = subst (All (IsRow g)) (sym all) (All-append (IsRow g) (cubes_of xs) (cubes_of ys) a.each b.each);
      covers = λ h l i s.
          subst (Any (λ c. IsIn c h)) (sym all)
          (elim (either h i) [
            | inl p ↦ any_left (λ (c : Cube). IsIn c h) (cubes_of xs) (cubes_of ys) (a.covers h l p s)
            | inr p ↦ any_right (λ (c : Cube). IsIn c h) (cubes_of xs) (cubes_of ys) (b.covers h l p s)
          ]);
      ordered = order;
      pairs = recursion_append (HasLabelPair g) xs ys a.pairs b.pairs;
    }

-- of fewer headers
pub rows_of_fewer : (g : ℕ → Option Pair) (headers fewer : ℕ → Type 0) (rows : List Row) → AreRowsFor g headers rows → ((h : ℕ) → fewer h → headers h) → AreRowsFor g fewer rows
rows_of_fewer g headers fewer rows a less = record { each = a.each; covers = λ h l i s. a.covers h l (less h i) s; ordered = a.ordered; pairs = a.pairs }

-- of all headers: each row has a header, which is in one of these
pub rows_of_all : (g : ℕ → Option Pair) (headers : ℕ → Type 0) (rows : List Row) → AreRowsFor g headers rows → ((h : ℕ) → h < 2 ^ 112 → headers h) → AreRowsWithPairs g rows
rows_of_all g headers rows a all =
    record {
      cubes = record {
        each = a.each;
        every = λ c r.
            let own = own_bits c in
            let member = in_from_mask c c.bits c.digits in
            let found = a.covers c.bits own (all c.bits own) (r.something c.bits own member) in
            let there : Contains (cubes_of rows) found.1 = (found.0, found.2, found.3) in
            let same : found.1 ≡ c = rows_are_disjoint g found.1 c (All-contains (IsRow g) (cubes_of rows) found.1 a.each there) r c.bits own found.4 member in
            subst (Contains (cubes_of rows)) same there;
        ordered = a.ordered;
      };
      pairs = a.pairs;
    }
