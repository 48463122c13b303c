-- How many rows a report has, by the functions of its ingresses.
use Rattle.std.proofs.Common.{ℕ, ◌≡◌, ◌<◌, ◌+◌, ◌^◌, ◌↔◌, List, [], ◌∷◌, ◌++◌, Option, Some, None, IsSome, All, map, length, take, get_or, slice_get, refl, sym, ap, ◌∙◌, subst, arith, true≢false}
use Rattle.std.specs.Prelude.{is_some}
use Rattle.std.specs.List.{AllByRecursion, AllZip}
use Rattle.std.proofs.lemmas.Nat.{and_le_r}
use Rattle.std.proofs.lemmas.List.{length-map}
use Rattle.std.proofs.lemmas.List.Elements.{All-head, All-tail}
use Rattle.std.proofs.lemmas.List.Sums.{sum_by-append}
use Rattle.hdr_bits.specs.declared.cube.Cube.{Cube}
use Rattle.hdr_bits.specs.Rows.{IsRow, AreRows}
use Rattle.hdr_bits.proofs.Masks.{in_from_mask}
use Rattle.canon_rows.specs.Laws.{TellSameApart}
use Rattle.canon_rows.proofs.LikeFunctions.{rows_of_other}
use Rattle.canon_rows.proofs.RowLaws.{rows_are_constant}
use Rattle.cube_diagram.specs.Functions.{value_at}
use Rattle.cube_diagram.specs.RowCounts.{IsRowCount}
use Rattle.net_types.specs.declared.network.Place.{Place}
use Rattle.net_types.specs.declared.network.Row.{Row}
use Rattle.net_types.specs.declared.network.Section.{Section}
use Rattle.net_types.specs.World.{World}
use Rattle.net_types.specs.Report.{IsSection, affected}
use Rattle.pair_rows.specs.declared.function.PairFunction.{PairFunction}
use Rattle.pair_rows.specs.Functions.{IsFunctionOf}
use Rattle.pair_rows.specs.Pairs.{Pair, AreDistinct, AreRowsWithPairs, HasLabelPair, IsNumberOf}
use Rattle.incr_review.specs.Reviews.{row_total}
use Rattle.incr_review.proofs.SectionLemmas.{is_section, sections_more}

-- ---- functions that tell the same headers apart
some_value : {A : Type 0} (o : Option A) → IsSome o → (x : A) × (o ≡ Some x)
some_value None s = absurd (true≢false (sym s))
some_value (Some x) s = (x, refl)

some_of : (pairs : List Pair) (o : Option ℕ) (q : Option Pair) → IsNumberOf pairs o q → IsSome o ↔ IsSome q
some_of pairs None q t = (λ s. absurd (true≢false (sym s)), λ s. absurd (true≢false (sym s ∙ ap is_some t)))
some_of pairs (Some v) q t = (λ s. t.1, λ s. refl)

same_of : (pairs : List Pair) → AreDistinct pairs → (o u : Option ℕ) (q r : Option Pair) → IsNumberOf pairs o q → IsNumberOf pairs u r → (o ≡ u) ↔ (q ≡ r)
same_of pairs d None None q r s t = (λ e. s ∙ sym t, λ e. refl)
same_of pairs d None (Some w) q r s t = (λ e. absurd cc, λ e. absurd (true≢false (sym t.1 ∙ ap is_some (sym e ∙ s))))
same_of pairs d (Some v) None q r s t = (λ e. absurd cc, λ e. absurd (true≢false (sym s.1 ∙ ap is_some (e ∙ t))))
same_of pairs d (Some v) (Some w) q r s t = (
  λ e. s.0 ∙ (let same : v ≡ w = cc in ap (slice_get pairs) same) ∙ sym t.0,
  λ e. let x = some_value q s.1 in
      let one : slice_get pairs v ≡ Some x.0 = sym s.0 ∙ x.1 in
      let other : slice_get pairs w ≡ Some x.0 = sym t.0 ∙ sym e ∙ x.1 in
      ap Some (d.apart v w x.0 one other),
)

numbers_tell : (g : ℕ → Option Pair) (given : PairFunction) → AreDistinct given.pairs → IsFunctionOf g given → TellSameApart (value_at given.table given.function) g
numbers_tell g given d t =
    let f = value_at given.table given.function in
    record {
      some = λ h l. some_of given.pairs (f h) (g h) (t.each h l);
      same = λ h k l m. same_of given.pairs d (f h) (f k) (g h) (g k) (t.each h l) (t.each k m);
    }

-- ---- the rows of cubes
own_bits : (c : Cube) → c.bits < 2 ^ 112
own_bits c = let m = and_le_r c.bits c.fixed in omega (arith, m, c.digits, c.below)

abbrev pair_or_none : Option Pair → Pair
pair_or_none None = ([], [])
pair_or_none (Some pair) = pair

-- the cube with the pair of its headers
abbrev row_of : (ℕ → Option Pair) → Cube → Row
row_of g c = record { cube = c; old = (pair_or_none (g c.bits)).0; new = (pair_or_none (g c.bits)).1 }

has_pair : (g : ℕ → Option Pair) (c : Cube) → IsRow g c → HasLabelPair g (row_of g c)
has_pair g c r h l m =
    let own = own_bits c in
    let member = in_from_mask c c.bits c.digits in
    let s = some_value (g c.bits) (r.something c.bits own member) in
    rows_are_constant g c r h c.bits l own m member ∙ s.1 ∙ ap (λ (q : Pair). Some (q.0, q.1)) (sym (ap pair_or_none s.1))

same_cubes : (g : ℕ → Option Pair) (cs : List Cube) → map (λ (r : Row). r.cube) (map (row_of g) cs) ≡ cs
same_cubes g [] = refl
same_cubes g (c ∷ cs) = ap (λ z. c ∷ z) (same_cubes g cs)

have_pairs : (g : ℕ → Option Pair) (cs : List Cube) → All (IsRow g) cs → AllByRecursion (HasLabelPair g) (map (row_of g) cs)
have_pairs g [] a = tt
have_pairs g (c ∷ cs) a = (has_pair g c (All-head (IsRow g) c cs a), have_pairs g cs (All-tail (IsRow g) c cs a))

-- as many rows as were counted
pub counted_rows : (g : ℕ → Option Pair) (given : PairFunction) (n : ℕ) → AreDistinct given.pairs → IsFunctionOf g given → IsRowCount (value_at given.table given.function) n → (rows : List Row) × AreRowsWithPairs g rows × (length rows ≡ n)
counted_rows g given n d t c =
    let are = rows_of_other (value_at given.table given.function) g (numbers_tell g given d t) c.rows c.are in (
      map (row_of g) c.rows,
      record { cubes = subst (AreRows g) (sym (same_cubes g c.rows)) are; pairs = have_pairs g c.rows are.each },
      length-map c.rows (row_of g) ∙ c.count,
    )

-- ---- section by section
pub record Counted (old new : World) (t : ℕ) (ingress : List Place) (count : ℕ) : Type 0 where
  pub sections : List Section
  pub are : AllZip (IsSection old new t) ingress sections
  pub count_is : count ≡ row_total sections

pub none_counted : (old new : World) (t : ℕ) → Counted old new t [] 0
none_counted old new t = record { sections = []; are = tt; count_is = refl }

pub counted_more : (old new : World) (t : ℕ) (ingress : List Place) (i : ℕ) (d : Place) (given : PairFunction) (count rows all : ℕ) → i < length ingress → AreDistinct given.pairs → IsFunctionOf (affected old new t (get_or ingress i d)) given → IsRowCount (value_at given.table given.function) rows → all ≡ count + rows → Counted old new t (take i ingress) count → Counted old new t (take (i + 1) ingress) all
counted_more old new t ingress i d given count rows all l dis f c e before =
    let p = get_or ingress i d in
    let r = counted_rows (affected old new t p) given rows dis f c in
    let s : Section = record { place = p; rows = r.0 } in
    let sum = sum_by-append (λ (x : Section). length x.rows) before.sections (s ∷ []) in
    let one : row_total (s ∷ []) ≡ 0 + length r.0 = refl in
    let b = before.count_is in
    let n = r.2 in
    record {
      sections = before.sections ++ s ∷ [];
      are = sections_more old new t ingress i d before.sections s l before.are (is_section old new t p r.0 r.1);
      count_is = omega (arith, sum, one, b, n, e);
    }
