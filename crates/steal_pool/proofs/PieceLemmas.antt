-- What the work on one part adds to the pieces of a region.
use Rattle.std.proofs.Common.{ℕ, ◌≡◌, ◌+◌, ◌≤◌, List, [], ◌∷◌, ◌++◌, length, map, Option, refl, sym, ap, subst, append-nil, length-append, arith, All, AllPairs, Any}
use Rattle.std.proofs.lemmas.List.{length-map, map-append}
use Rattle.std.proofs.lemmas.List.Elements.{All-nil, All-head, All-append, All-weaker}
use Rattle.chunk_rope.specs.Shown.{Shown}
use Rattle.cube_alg.specs.declared.Region.{Region}
use Rattle.task_board.specs.declared.leaf.Leaf.{Leaf}
use Rattle.task_board.specs.declared.leaf.Part.{Part}
use Rattle.task_board.specs.Regions.{Holds, LieApart, LiesWithin}
use Rattle.task_board.specs.Stands.{part_of, IsRight, IsWorked}
use Rattle.task_board.proofs.Pairs.{all_left, all_right}
use Rattle.task_board.proofs.Worked.{worked_nothing, worked_whole, worked_parts}
use Rattle.task_board.proofs.Joined.{worked_step}
use Rattle.steal_pool.specs.Work.{FixesMore, HasNone, Divide}
use Rattle.steal_pool.specs.Pieces.{AreFiner, AddsWork}

-- the parts that are to be opened have these regions
pub part_regions : (rs : List Region) → map (λ (p : Part). p.region) (map (λ (r : Region). part_of r 0) rs) ≡ rs
part_regions [] = refl
part_regions (r ∷ rs) = ap (λ xs. r ∷ xs) (part_regions rs)

module _ {V : Type 0} (gives : ℕ → ℕ → Option V) (region : Region) where
  pub adds_nothing : (old : Shown (Leaf V)) (parts : List Part) → HasNone gives region → AddsWork gives region old old parts parts 0
  adds_nothing old parts none = record {
    leaves = [];
    parts = [];
    worked = worked_nothing gives region none.none;
    finer = All-nil (FixesMore region);
    finished = sym (append-nil old.items);
    rest = sym (append-nil parts);
    counted = refl;
    few = omega arith;
    room = omega arith;
  }

  pub adds_whole : (value : V) (old new : Shown (Leaf V)) (parts : List Part) → IsRight gives (record { region = region; value = value }) → new.items ≡ old.items ++ record { region = region; value = value } ∷ [] → new.spare + 1 ≡ old.spare → AddsWork gives region old new parts parts 1
  adds_whole value old new parts right items spare = record {
    leaves = record { region = region; value = value } ∷ [];
    parts = [];
    worked = worked_whole gives region value right.value;
    finer = All-nil (FixesMore region);
    finished = items;
    rest = sym (append-nil parts);
    counted = refl;
    few = omega arith;
    room = omega (arith, spare);
  }

  pub adds_parts : (old : Shown (Leaf V)) (regions : List Region) (before after : List Part) (count : ℕ) → Divide region regions → after ≡ before ++ map (λ (r : Region). part_of r 0) regions → count ≡ length regions → AddsWork gives region old old before after count
  adds_parts old regions before after count divide rest counted =
      let parts = map (λ (r : Region). part_of r 0) regions in let same = part_regions regions in let many = length-map regions (λ (r : Region). part_of r 0) in let few = divide.few in record {
        leaves = [];
        parts = parts;
        worked = worked_parts gives region parts (subst (AllPairs LieApart) (sym same) divide.apart) (subst (All (λ r. LiesWithin r region)) (sym same) divide.inside) (λ slot h lt i. subst (Any (Holds slot h)) (sym same) (divide.covers slot h i));
        finer = subst (All (FixesMore region)) (sym same) divide.finer;
        finished = sym (append-nil old.items);
        rest = rest;
        counted = omega (arith, counted, many);
        few = omega (arith, counted, few);
        room = omega arith;
      }

  -- a part that was taken off is worked on: what came of it takes its place
  pub worked_on : (p : Part) (old new : Shown (Leaf V)) (all before after : List Part) (count : ℕ) → all ≡ before ++ p ∷ [] → AddsWork gives p.region old new before after count → IsWorked gives region old.items all → IsWorked gives region new.items after
  worked_on p old new all before after count is adds worked =
      subst (λ (ls : List (Leaf V)). IsWorked gives region ls after) (sym adds.finished)
      (subst (λ (ps : List Part). IsWorked gives region (old.items ++ adds.leaves) ps) (sym adds.rest)
      (worked_step gives region old.items adds.leaves before adds.parts p (subst (λ (ps : List Part). IsWorked gives region old.items ps) is worked) adds.worked))

  pub counts_on : (p : Part) (old new : Shown (Leaf V)) (all before after : List Part) (count pieces : ℕ) → all ≡ before ++ p ∷ [] → AddsWork gives p.region old new before after count → pieces ≡ length old.items + length all → length new.items + length after + 1 ≡ pieces + count
  counts_on p old new all before after count pieces is adds counted =
      let a = length-append old.items adds.leaves in let b = length-append before adds.parts in let d = length-append before (p ∷ []) in
      let e : length new.items ≡ length (old.items ++ adds.leaves) = ap (λ (ls : List (Leaf V)). length ls) adds.finished in
      let f : length after ≡ length (before ++ adds.parts) = ap (λ (ps : List Part). length ps) adds.rest in
      let g : length all ≡ length (before ++ p ∷ []) = ap (λ (ps : List Part). length ps) is in
      let n = adds.counted in omega (arith, a, b, d, e, f, g, n, counted)

  pub room_on : (p : Part) (old new : Shown (Leaf V)) (before after : List Part) (count : ℕ) → AddsWork gives p.region old new before after count → 256 ≤ length old.items + old.spare → 256 ≤ length new.items + new.spare
  room_on p old new before after count adds room =
      let a = length-append old.items adds.leaves in
      let e : length new.items ≡ length (old.items ++ adds.leaves) = ap (λ (ls : List (Leaf V)). length ls) adds.finished in
      let r = adds.room in omega (arith, a, e, r, room)

-- the second of three regions has more fixed bits than the first, and the third than the second
fixes_on : (r s t : Region) → FixesMore r s → FixesMore s t → FixesMore r t
fixes_on r s t f g = record {
  at = g.at;
  within = g.within;
  star = f.others g.at g.within g.star;
  digit = g.digit;
  others = λ k lt e. f.others k lt (g.others k lt e);
}

-- what came of a part that has more fixed bits than the region has more of them too
pub finer_on : {V : Type 0} (gives : ℕ → ℕ → Option V) (r : Region) (p : Part) (old new : Shown (Leaf V)) (all before after : List Part) (count : ℕ) → all ≡ before ++ p ∷ [] → AddsWork gives p.region old new before after count → AreFiner r all → AreFiner r after
finer_on gives r p old new all before after count is adds finer =
    let F = FixesMore r in
    let rs = map (λ (q : Part). q.region) before in
    let both = subst (All F) (map-append (λ (q : Part). q.region) before (p ∷ [])) (subst (AreFiner r) is finer) in
    subst (AreFiner r) (sym adds.rest)
    (subst (All F) (sym (map-append (λ (q : Part). q.region) before adds.parts))
    (All-append F rs (map (λ (q : Part). q.region) adds.parts) (all_left F rs (p.region ∷ []) both)
    (All-weaker (FixesMore p.region) F (λ t g. fixes_on r p.region t (All-head F p.region [] (all_right F rs (p.region ∷ []) both)) g) (map (λ (q : Part). q.region) adds.parts) adds.finer)))
