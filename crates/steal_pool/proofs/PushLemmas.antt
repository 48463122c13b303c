-- Parts that are pushed one after the other.
use Rattle.std.proofs.Common.{ℕ, true, false, is_ok, ◌≡◌, ◌+◌, ◌-◌, ◌≤◌, ◌<◌, ◌↔◌, List, [], ◌∷◌, ◌++◌, length, map, take, min, true≢false, refl, sym, ap, ◌∙◌, append-nil, append_assoc, length-append, arith}
use Rattle.std.proofs.lemmas.List.{map-append, length-map, length-take, take_all, take-append-le}
use Rattle.std.specs.Prelude.{Result, IsErr, MatchResult}
use Rattle.std.specs.declared.result.Result.TheVariants.{Ok, Err}
use Rattle.cube_alg.specs.declared.Region.{Region}
use Rattle.task_board.specs.declared.leaf.Part.{Part}
use Rattle.task_board.specs.Stands.{part_of}
use Rattle.steal_pool.specs.declared.rule.Task.{Task}
use Rattle.steal_pool.specs.Seats.{OwnerSeat}
use Rattle.steal_pool.specs.Pushes.{PushesParts}

pub pushes_none : (s : OwnerSeat) → PushesParts s s []
pushes_none s = record {
  tasks = [];
  pushed = λ i. record s { pushed = sym (append-nil s.pushed) i };
  are = sym (take_all (s.capacity - length s.pushed) [] (omega arith));
}

abbrev as_part : Task → Part
as_part t = part_of t.region t.ticket

module _ (old mid new : OwnerSeat) (parts : List Part) (p : Part) (before : PushesParts old mid parts) where
  abbrev room : ℕ
  room = old.capacity - length old.pushed

  -- the number of tasks that were pushed so far
  counted : length before.tasks ≡ min room (length parts)
  counted = let a = length-map before.tasks as_part in let b : length (map as_part before.tasks) ≡ length (take room parts) = ap (λ (l : List Part). length l) before.are in let c = length-take room parts in omega (arith, a, b, c)

  pushed_so_far : length mid.pushed ≡ length old.pushed + length before.tasks
  pushed_so_far = ap (λ (s : OwnerSeat). length s.pushed) before.pushed ∙ length-append old.pushed before.tasks

  same_capacity : mid.capacity ≡ old.capacity
  same_capacity = ap (λ (s : OwnerSeat). s.capacity) before.pushed

  pushes_one : (task : Task) → (mid.capacity ≤ length mid.pushed → ⊥) → new ≡ record mid { pushed = mid.pushed ++ task ∷ [] } → as_part task ≡ p → PushesParts old new (parts ++ p ∷ [])
  pushes_one task some now is =
      let n = counted in let s = pushed_so_far in let c = same_capacity in
      let few : length parts < room = omega (arith, n, s, c, some) in
      let more = length-append parts (p ∷ []) in record {
        tasks = before.tasks ++ task ∷ [];
        pushed = now ∙ ap (λ (m : OwnerSeat). record m { pushed = m.pushed ++ task ∷ [] }) before.pushed ∙ ap (λ (l : List Task). record old { pushed = l }) (append_assoc old.pushed before.tasks (task ∷ []));
        are = map-append as_part before.tasks (task ∷ [])
            ∙ ap (λ (l : List Part). l ++ as_part task ∷ []) (before.are ∙ take_all room parts (omega (arith, few)))
            ∙ ap (λ (q : Part). parts ++ q ∷ []) is
            ∙ sym (take_all room (parts ++ p ∷ []) (omega (arith, few, more)));
      }

  pushes_full : mid.capacity ≤ length mid.pushed → new ≡ mid → PushesParts old new (parts ++ p ∷ [])
  pushes_full full now =
      let n = counted in let s = pushed_so_far in let c = same_capacity in
      let long : room ≤ length parts = omega (arith, n, s, c, full) in record {
        tasks = before.tasks;
        pushed = now ∙ before.pushed;
        are = before.are ∙ sym (take-append-le room parts (p ∷ []) long);
      }

-- one more part is pushed, or the lane takes no more
pub pushes_more : (old mid new : OwnerSeat) (parts : List Part) (p : Part) (r : Result ℕ Region) → PushesParts old mid parts → (IsErr r ↔ (mid.capacity ≤ length mid.pushed))
    → MatchResult r (λ place. (place ≡ length mid.pushed) × (new ≡ record mid { pushed = mid.pushed ++ record { place = place; ticket = p.ticket; region = p.region } ∷ [] })) (λ s. (s ≡ p.region) × (new ≡ mid)) → PushesParts old new (parts ++ p ∷ [])
pushes_more old mid new parts p (Ok place) before full rule = pushes_one old mid new parts p before (record { place = place; ticket = p.ticket; region = p.region }) (λ l. true≢false (sym (full.1 l))) rule.1 (λ i. p)
pushes_more old mid new parts p (Err s) before full rule = pushes_full old mid new parts p before (full.0 refl) rule.1

-- a push that was taken is one more
pub push_counts : (mid new : OwnerSeat) (p : Part) (r : Result ℕ Region)
    → MatchResult r (λ place. (place ≡ length mid.pushed) × (new ≡ record mid { pushed = mid.pushed ++ record { place = place; ticket = p.ticket; region = p.region } ∷ [] })) (λ s. (s ≡ p.region) × (new ≡ mid))
    → (is_ok r ≡ true → length new.pushed ≡ length mid.pushed + 1) × (is_ok r ≡ false → length new.pushed ≡ length mid.pushed)
push_counts mid new p (Ok place) rule =
    let task : Task = record { place = place; ticket = p.ticket; region = p.region } in
    let n : length new.pushed ≡ length (mid.pushed ++ task ∷ []) = ap (λ (s : OwnerSeat). length s.pushed) rule.1 in
    let m = length-append mid.pushed (task ∷ []) in (λ t. omega (arith, n, m), λ f. absurd cc)
push_counts mid new p (Err s) rule = (λ t. absurd cc, λ f. ap (λ (s : OwnerSeat). length s.pushed) rule.1)
