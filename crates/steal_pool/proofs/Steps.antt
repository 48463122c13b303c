-- Each step keeps the rule of a lane.
use Rattle.std.proofs.Common.{◌≡◌, ◌≢◌, ℕ, zero, suc, ◌+◌, ◌≤◌, List, [], ◌∷◌, ◌++◌, length, set, take, drop, sym, refl, ap, ◌∙◌, subst, ⊎_elim, append_assoc, arith}
use mathlib.Core.Option.{some, some-ne-none, some-injective}
use lib.ListN.{get_elem?}
use Rattle.crossbeam_deque.specs.Tasks as tasks
use Rattle.crossbeam_deque.proofs.Lists.{at_set, at_snoc}
use Rattle.steal_pool.specs.declared.rule.View.{View}
use Rattle.steal_pool.specs.declared.rule.Task.{Task}
use Rattle.steal_pool.specs.Paths.{Path, Word, total, begins, extensions}
use Rattle.steal_pool.specs.Lane.{seat, Numbered, IsLane, TakesFirst, Gathers}
use Rattle.steal_pool.proofs.PathLemmas.{total_append, total_parts, no_paths, ends}

total_set : (f : View → ℕ) (views : List View) (port : ℕ) (v w : View) → get_elem? views port ≡ some v → total f (set views port w) + f v ≡ total f views + f w
total_set f [] port v w at = absurd (some-ne-none v (sym at))
total_set f (x ∷ xs) zero v w at = let e : f x ≡ f v = ap f (some-injective _ _ at) in omega (arith, e)
total_set f (x ∷ xs) (suc j) v w at = let e = total_set f xs j v w at in omega (arith, e)

numbered_snoc : (k : ℕ) (xs : List Task) (x : Task) → Numbered k xs → x.place ≡ k + length xs → Numbered k (xs ++ x ∷ [])
numbered_snoc k [] x n is = (omega (arith, is), tt)
numbered_snoc k (y ∷ ys) x n is = (n.0, numbered_snoc (k + 1) ys x n.1 (omega (arith, is)))

abbrev Each : (ℕ → View → Type 0) → List View → Type 0
Each F views = (port : ℕ) (v : View) → get_elem? views port ≡ some v → F port v

each_set : (F : ℕ → View → Type 0) (views : List View) (port : ℕ) (w : View) → F port w → ((j : ℕ) (u : View) → j ≢ port → get_elem? views j ≡ some u → F j u) → Each F (set views port w)
each_set F views port w mine others j u e = ⊎_elim (λ (x : (j ≡ port) × (w ≡ u)). subst (λ (y : ℕ × View). F y.0 y.1) (λ i. (sym x.0 i, x.1 i)) mine)
    (λ (x : (j ≢ port) × (get_elem? views j ≡ some u)). others j u x.0 x.1) (at_set views port j w u e)

abbrev Knows : List Task → ℕ → View → Type 0
Knows pushed j u = j ≡ 0 → u.pushed ≡ pushed

abbrev Spent : ℕ → View → Type 0
Spent j u = j ≢ 0 → u.paths ≡ [] → u.taken ≡ []

owns : (views : List View) (pushed : List Task) → ((v : View) → get_elem? views 0 ≡ some v → v.pushed ≡ pushed) → Each (Knows pushed) views
owns views pushed own j u e is = own u (subst (λ k. get_elem? views k ≡ some u) is e)

takes_keeps : (port : ℕ) (v : View) → (port ≢ 0 → v.paths ≢ []) → (xs items : List Task) (views : List View) → IsLane (xs ++ items) views → get_elem? views port ≡ some v → IsLane items (set views port (seat v.pushed (v.taken ++ xs) v.paths))
takes_keeps port v live xs items views r at = let w = seat v.pushed (v.taken ++ xs) v.paths in let own = owns views r.pushed r.owner in record {
  pushed = r.pushed;
  gone = r.gone ++ xs;
  order = r.order ∙ sym (append_assoc r.gone xs items);
  places = r.places;
  owner = λ y q. each_set (Knows r.pushed) views port w (own port v at) (λ j u _ e. own j u e) 0 y q refl;
  seats = λ h. let s = total_set (λ u. total h u.taken) views port v w at in let o = r.seats h in omega (arith, s, o, total_append h v.taken xs, total_append h r.gone xs);
  shares = λ x. let s = total_set (λ u. total (begins x) u.paths) views port v w at in let o = r.shares x in omega (arith, s, o);
  spent = each_set Spent views port w (λ thief none. absurd (live thief none)) (λ j u _ e. r.spent j u e);
}

pub takes : (port : ℕ) (v : View) → (port ≢ 0 → v.paths ≢ []) → tasks.Takes IsLane port v 1 (TakesFirst v)
takes port v live xs items views _ _ r at = let s = takes_keeps port v live xs items views r at in (seat v.pushed (v.taken ++ xs) v.paths, s, (port, items, views, r, at, s, refl))

pub takes_owner : (v : View) → tasks.Takes IsLane 0 v 1 (TakesFirst v)
takes_owner v = takes 0 v (λ thief. absurd (thief refl))

pub pushes : (v : View) (x : Task) → x.place ≡ length v.pushed → tasks.Pushes IsLane 0 v (x ∷ []) (λ w. w ≡ seat (v.pushed ++ x ∷ []) v.taken v.paths)
pushes v x is items views r at = let w = seat (v.pushed ++ x ∷ []) v.taken v.paths in let own : v.pushed ≡ r.pushed = r.owner v at in (
  w,
  record {
    pushed = r.pushed ++ x ∷ [];
    gone = r.gone;
    order = ap (λ l. l ++ x ∷ []) r.order ∙ append_assoc r.gone items (x ∷ []);
    places = numbered_snoc 0 r.pushed x r.places (let e : length v.pushed ≡ length r.pushed = ap (λ l. length l) own in omega (arith, is, e));
    owner = λ u e. each_set (Knows (r.pushed ++ x ∷ [])) views 0 w (λ _. ap (λ l. l ++ x ∷ []) own) (λ j y other _ p. absurd (other p)) 0 u e refl;
    seats = λ h. let s = total_set (λ u. total h u.taken) views 0 v w at in let o = r.seats h in omega (arith, s, o);
    shares = λ y. let s = total_set (λ u. total (begins y) u.paths) views 0 v w at in let o = r.shares y in omega (arith, s, o);
    spent = each_set Spent views 0 w (λ thief. absurd (thief refl)) (λ j u _ e. r.spent j u e);
  },
  refl,
)

-- a summand is at most the sum
total_at : (f : View → ℕ) (views : List View) (port : ℕ) (v : View) → get_elem? views port ≡ some v → f v ≤ total f views
total_at f [] port v at = absurd (some-ne-none v (sym at))
total_at f (x ∷ xs) zero v at = let e : f x ≡ f v = ap f (some-injective _ _ at) in omega (arith, e)
total_at f (x ∷ xs) (suc j) v at = let e = total_at f xs j v at in omega (arith, e)

total_none : (f : View → ℕ) (views : List View) → Each (λ j u. f u ≡ 0) views → total f views ≡ 0
total_none f [] zeros = refl
total_none f (x ∷ xs) zeros = let a = zeros 0 x refl in let b = total_none f xs (λ j u e. zeros (suc j) u e) in omega (arith, a, b)

abbrev nobody : View
nobody = seat [] [] []

-- where the owner's paths make the whole, the others have none and have taken nothing, so that what all took is what the owner took
pub gathers : (v : View) (items : List Task) (views : List View) → IsLane items views → get_elem? views 0 ≡ some v → Gathers v items
gathers v items views r at all h =
    let rest = set views 0 nobody in
    let alone : (w : Word) → total (λ u. total (begins w) u.paths) rest ≡ 0 = λ w. let s = total_set (λ u. total (begins w) u.paths) views 0 v nobody at in let o = r.shares w in let a = all w in omega (arith, s, o, a) in
    let bare : (j : ℕ) (u : View) → get_elem? rest j ≡ some u → u.paths ≡ [] = λ j u e. no_paths u.paths (λ w. let b = total_at (λ y. total (begins w) y.paths) rest j u e in omega (arith, b, alone w)) in
    let idle : Each (λ j u. u.paths ≡ [] → u.taken ≡ []) rest = each_set (λ j u. u.paths ≡ [] → u.taken ≡ []) views 0 nobody (λ _. refl) (λ j u thief e. r.spent j u e thief) in
    let none = total_none (λ u. total h u.taken) rest (λ j u e. ap (total h) (idle j u e (bare j u e))) in
    let s = total_set (λ u. total h u.taken) views 0 v nobody at in let o = r.seats h in
    let own : total h v.pushed ≡ total h (r.gone ++ items) = ap (total h) (r.owner v at ∙ r.order) in omega (arith, none, s, o, own, total_append h r.gone items)

total_snoc : (f : View → ℕ) (views : List View) (w : View) → total f (views ++ w ∷ []) ≡ total f views + f w
total_snoc f views w = let e = total_append f views (w ∷ []) in omega (arith, e)

pub forks : (v : View) → tasks.Forks IsLane 0 v (seat v.pushed v.taken (drop 1 v.paths)) (seat [] [] (take 1 v.paths))
forks v items [] r at = absurd (some-ne-none v (sym at))
forks v items (x ∷ xs) r at = let w = seat v.pushed v.taken (drop 1 v.paths) in let new = seat [] [] (take 1 v.paths) in let views = x ∷ xs in let vs = set views 0 w in record {
  pushed = r.pushed;
  gone = r.gone;
  order = r.order;
  places = r.places;
  owner = λ u e. ap (λ (y : View). y.pushed) (sym (some-injective _ _ e)) ∙ r.owner v at;
  seats = λ h. let s = total_set (λ u. total h u.taken) views 0 v w at in let o = r.seats h in let n = total_snoc (λ u. total h u.taken) vs new in omega (arith, s, o, n);
  shares = λ y. let s = total_set (λ u. total (begins y) u.paths) views 0 v w at in let o = r.shares y in let n = total_snoc (λ u. total (begins y) u.paths) vs new in omega (arith, s, o, n, total_parts (begins y) v.paths);
  spent = λ j u e. ⊎_elim (λ there. each_set Spent views 0 w (λ thief. absurd (thief refl)) (λ k y _ at'. r.spent k y at') j u there)
      (λ (is : new ≡ u). λ _ _. ap (λ (y : View). y.taken) (sym is)) (at_snoc vs new u j e);
}

pub merges : (v : View) (other : ℕ) (u : View) (paths : List Path) → ((w : Word) → total (begins w) paths ≡ total (begins w) v.paths + total (begins w) u.paths) → tasks.Merges IsLane 0 v other u (seat v.pushed (v.taken ++ u.taken) paths) (seat [] [] [])
merges v other u paths same items views r at two at' = let both = seat v.pushed (v.taken ++ u.taken) paths in let vs = set views 0 both in record {
  pushed = r.pushed;
  gone = r.gone;
  order = r.order;
  places = r.places;
  owner = λ y e. each_set (Knows r.pushed) vs other nobody (λ p. absurd (two p)) (λ j z _ there. each_set (Knows r.pushed) views 0 both (λ _. r.owner v at) (λ k q apart _ p. absurd (apart p)) j z there) 0 y e refl;
  seats = λ h. let s = total_set (λ y. total h y.taken) views 0 v both at in let t = total_set (λ y. total h y.taken) vs other u nobody at' in let o = r.seats h in omega (arith, s, t, o, total_append h v.taken u.taken);
  shares = λ w. let s = total_set (λ y. total (begins w) y.paths) views 0 v both at in let t = total_set (λ y. total (begins w) y.paths) vs other u nobody at' in let o = r.shares w in omega (arith, s, t, o, same w);
  spent = each_set Spent vs other nobody (λ _ _. refl) (λ j y _ there. each_set Spent views 0 both (λ thief. absurd (thief refl)) (λ k z _ e. r.spent k z e) j y there);
}

at_one : (first : View) → first.taken ≡ [] → Each Spent (first ∷ [])
at_one first none zero v e thief _ = absurd (thief refl)
at_one first none (suc j) v e thief _ = absurd (some-ne-none v (sym e))

pub begins_so : (k : ℕ) → IsLane [] (seat [] [] (extensions k []) ∷ [])
begins_so k = record {
  pushed = [];
  gone = [];
  order = refl;
  places = tt;
  owner = λ v e. ap (λ (y : View). y.pushed) (sym (some-injective _ _ e));
  seats = λ h. refl;
  shares = λ w. let e = ends w k [] in omega (arith, e);
  spent = at_one (seat [] [] (extensions k [])) refl;
}
