-- The computed routes are those that the rules say: the valid ones are the least set, the installed ones the best of
-- them, and the choices of a lookup the union over the routes of the longest prefix.
use Rattle.std.proofs.Common.{◌≡◌, ◌↔◌, ◌⊎◌, inl, inr, ℕ, zero, suc, ◌<◌, ◌≤◌, Bool, true, false, cond, not, ◌&&◌, ◌||◌, List, [], ◌∷◌, length, refl, sym, ap, subst, arith}
use Rattle.std.specs.Prelude.{filter, flat_map, Contains, nat_lt}
use Rattle.std.specs.List.{list_any}
use lib.Dec.{leb}
use Rattle.std.proofs.lemmas.Bool.Decides.{nat_tests, leb_tells}
use Rattle.net_types.specs.declared.config.Config.{Config}
use Rattle.net_types.specs.declared.config.Route.{Route}
use Rattle.net_types.specs.declared.config.RouteExit.{RouteExit}
use Rattle.net_types.specs.declared.config.RouteExit.TheVariants as exit
use Rattle.net_types.specs.declared.network.Hop.{Hop}
use Rattle.net_types.specs.declared.network.Hop.TheVariants.{Discard, Out}
use Rattle.net_types.specs.Routes.{IsValid, anchored, recursive, IsInstalled, IsBest, IsChoice, LeadsTo, all_routes, is_usable, is_anchored, leads_into, stands_on, valid_within, valid, route_holds, same_prefix, beats, is_unbeaten, installed, is_longer, is_longest, best, exit_hops, or_discard, route_hops, hops_within}
use Rattle.net_types.proofs.Members.{here, there, in_cons, in_none, in_one, in_filter, to_filter, from_any, to_any, in_flat_map, to_flat_map}

-- ---- tests

both_true : (a b : Bool) → (a && b) ≡ true → (a ≡ true) × (b ≡ true)
both_true true b e = (refl, e)
both_true false b e = cc

true_both : (a b : Bool) → a ≡ true → b ≡ true → (a && b) ≡ true
true_both a b e g = rw (e, g)

either_true : (a b : Bool) → (a || b) ≡ true → (a ≡ true) ⊎ (b ≡ true)
either_true true b e = inl refl
either_true false b e = inr e

true_left : (a b : Bool) → a ≡ true → (a || b) ≡ true
true_left a b e = rw e

true_right : (a b : Bool) → b ≡ true → (a || b) ≡ true
true_right true b e = refl
true_right false b e = e

not_true : (b : Bool) → not b ≡ true → b ≡ true → ⊥
not_true true e g = cc
not_true false e g = cc

true_not : (b : Bool) → (b ≡ true → ⊥) → not b ≡ true
true_not true f = absurd (f refl)
true_not false f = refl

-- ---- filters

length_filter_le : {A : Type 0} (p : A → Bool) (xs : List A) → length (filter p xs) ≤ length xs
length_filter_le p [] = omega arith
length_filter_le p (x ∷ xs) =
    elim (p x) as (λ b. length (cond b (x ∷ filter p xs) (filter p xs)) ≤ length (x ∷ xs)) [
      | true ↦ omega (arith, length_filter_le p xs)
      | false ↦ omega (arith, length_filter_le p xs)
    ]

-- a wider test keeps the same items, or more
filter_grows : {A : Type 0} (p q : A → Bool) → ((x : A) → p x ≡ true → q x ≡ true) → (xs : List A) → (filter p xs ≡ filter q xs) ⊎ (length (filter p xs) < length (filter q xs))
filter_grows p q wider [] = inl refl
filter_grows p q wider (x ∷ xs) = grown (p x) (q x) x (filter p xs) (filter q xs) (wider x) (filter_grows p q wider xs)
  where
    grown : {A : Type 0} (b d : Bool) (x : A) (ys zs : List A) → (b ≡ true → d ≡ true) → (ys ≡ zs) ⊎ (length ys < length zs) → (cond b (x ∷ ys) ys ≡ cond d (x ∷ zs) zs) ⊎ (length (cond b (x ∷ ys) ys) < length (cond d (x ∷ zs) zs))
    grown true true x ys zs f (inl e) = inl (ap (λ us. x ∷ us) e)
    grown true true x ys zs f (inr l) = inr (omega (arith, l))
    grown true false x ys zs f g = absurd (let both : false ≡ true = f refl in cc)
    grown false true x ys zs f (inl e) = inr (omega (arith, ap length e))
    grown false true x ys zs f (inr l) = inr (omega (arith, l))
    grown false false x ys zs f g = g

-- ---- valid routes

-- the parts of the test
stands_usable : (c : Config) (rs : List Route) (r : Route) → stands_on c rs r ≡ true → is_usable c r ≡ true
stands_usable c rs r e = (both_true (is_usable c r) (is_anchored c r.exit || leads_into rs r.exit) e).0

stands_by : (c : Config) (rs : List Route) (r : Route) → stands_on c rs r ≡ true → (is_anchored c r.exit ≡ true) ⊎ (leads_into rs r.exit ≡ true)
stands_by c rs r e = either_true (is_anchored c r.exit) (leads_into rs r.exit) (both_true (is_usable c r) (is_anchored c r.exit || leads_into rs r.exit) e).1

-- a route that leads into others has a next hop that one of them holds
record HasNext (rs : List Route) (e : RouteExit) : Type 0 where
  next : ℕ
  exit_is : e ≡ exit.Next next
  by : Route
  among : Contains rs by
  holds : route_holds next by ≡ true

next_of : (rs : List Route) (e : RouteExit) → leads_into rs e ≡ true → HasNext rs e
next_of rs exit.Null h = absurd (let g : false ≡ true = h in cc)
next_of rs (exit.Port name) h = absurd (let g : false ≡ true = h in cc)
next_of rs (exit.Both name next) h = absurd (let g : false ≡ true = h in cc)
next_of rs (exit.Next next) h =
    let i = from_any (route_holds next) rs h in
    record { next = next; exit_is = refl; by = i.0; among = i.1; holds = i.2 }

of_next : (rs : List Route) (e : RouteExit) (next : ℕ) (by : Route) → e ≡ exit.Next next → Contains rs by → route_holds next by ≡ true → leads_into rs e ≡ true
of_next rs e next by is h t = rw is (to_any (route_holds next) rs by h t)

module _ (c : Config) where
  stands_on_more : (rs ts : List Route) → ((q : Route) → Contains rs q → Contains ts q) → (r : Route) → stands_on c rs r ≡ true → stands_on c ts r ≡ true
  stands_on_more rs ts more r e =
      true_both (is_usable c r) (is_anchored c r.exit || leads_into ts r.exit) (stands_usable c rs r e) (elim (stands_by c rs r e) [
        | inl a ↦ true_left (is_anchored c r.exit) (leads_into ts r.exit) a
        | inr l ↦ let n = next_of rs r.exit l in true_right (is_anchored c r.exit) (leads_into ts r.exit) (of_next ts r.exit n.next n.by n.exit_is (more n.by n.among) n.holds)
      ])

  -- what the rules make of routes that are valid is valid
  valid_by : (rs : List Route) → ((q : Route) → Contains rs q → IsValid c q) → (r : Route) → Contains (filter (stands_on c rs) (all_routes c)) r → IsValid c r
  valid_by rs all r h =
      let i = in_filter (stands_on c rs) (all_routes c) r h in
      elim (stands_by c rs r i.1) [
        | inl a ↦ anchored r i.0 (stands_usable c rs r i.1) a
        | inr l ↦ let n = next_of rs r.exit l in recursive r n.next n.by i.0 (stands_usable c rs r i.1) n.exit_is (all n.by n.among) n.holds
      ]

  pub within_is_valid : (n : ℕ) (r : Route) → Contains (valid_within c n) r → IsValid c r
  within_is_valid zero r h = valid_by [] (λ q g. absurd (in_none q g)) r h
  within_is_valid (suc n) r h = valid_by (valid_within c n) (λ q g. within_is_valid n q g) r h

  -- more steps give no fewer routes
  within_more : (n : ℕ) (r : Route) → Contains (valid_within c n) r → Contains (valid_within c (suc n)) r
  within_more zero r h =
      let i = in_filter (stands_on c []) (all_routes c) r h in
      to_filter (stands_on c (valid_within c 0)) (all_routes c) r i.0 (stands_on_more [] (valid_within c 0) (λ q g. absurd (in_none q g)) r i.1)
  within_more (suc n) r h =
      let i = in_filter (stands_on c (valid_within c n)) (all_routes c) r h in
      to_filter (stands_on c (valid_within c (suc n))) (all_routes c) r i.0 (stands_on_more (valid_within c n) (valid_within c (suc n)) (within_more n) r i.1)

  -- a step that adds no route is the last one that does
  next_valid : List Route → List Route
  next_valid rs = filter (stands_on c rs) (all_routes c)

  grows : (n : ℕ) → (valid_within c n ≡ valid_within c (suc n)) ⊎ (length (valid_within c n) < length (valid_within c (suc n)))
  grows zero = filter_grows (stands_on c []) (stands_on c (valid_within c 0)) (stands_on_more [] (valid_within c 0) (λ q g. absurd (in_none q g))) (all_routes c)
  grows (suc n) = filter_grows (stands_on c (valid_within c n)) (stands_on c (valid_within c (suc n))) (stands_on_more (valid_within c n) (valid_within c (suc n)) (within_more n)) (all_routes c)

  stays_or_many : (n : ℕ) → (valid_within c n ≡ valid_within c (suc n)) ⊎ (n < length (valid_within c (suc n)))
  stays_or_many zero = elim (grows 0) [ inl e ↦ inl e | inr l ↦ inr (omega (arith, l)) ]
  stays_or_many (suc n) = elim (stays_or_many n) [
    | inl e ↦ inl (ap (λ rs. filter (stands_on c rs) (all_routes c)) e)
    | inr l ↦ elim (grows (suc n)) [ inl e ↦ inl e | inr g ↦ inr (omega (arith, l, g)) ]
  ]

  -- one more step gives nothing new
  pub valid_stays : valid c ≡ filter (stands_on c (valid c)) (all_routes c)
  valid_stays = elim (stays_or_many (length (all_routes c))) [
    | inl e ↦ e
    | inr l ↦ absurd (let m = length_filter_le (stands_on c (valid c)) (all_routes c) in omega (arith, l, m))
  ]

  stands_valid : (r : Route) → Contains (all_routes c) r → stands_on c (valid c) r ≡ true → Contains (valid c) r
  stands_valid r m s = subst (λ rs. Contains rs r) (sym valid_stays) (to_filter (stands_on c (valid c)) (all_routes c) r m s)

  pub valid_from : (r : Route) → IsValid c r → Contains (valid c) r
  valid_from _ (anchored r m u a) = stands_valid r m (true_both (is_usable c r) (is_anchored c r.exit || leads_into (valid c) r.exit) u (true_left (is_anchored c r.exit) (leads_into (valid c) r.exit) a))
  valid_from _ (recursive r next by m u is v t) =
      stands_valid r m (true_both (is_usable c r) (is_anchored c r.exit || leads_into (valid c) r.exit) u (true_right (is_anchored c r.exit) (leads_into (valid c) r.exit) (of_next (valid c) r.exit next by is (valid_from by v) t)))

  pub valid_is_least : (r : Route) → Contains (valid c) r ↔ IsValid c r
  valid_is_least r = (within_is_valid (length (all_routes c)) r, valid_from r)

  -- ---- installed routes

  pub to_installed : (r : Route) → IsInstalled c r → Contains (installed c) r
  to_installed r i =
      to_filter (is_unbeaten (valid c)) (valid c) r (valid_from r i.valid) (true_not (list_any (beats r) (valid c)) (λ e.
      let q = from_any (beats r) (valid c) e in
      let b = both_true (same_prefix q.0.prefix r.prefix) (nat_lt q.0.distance r.distance) q.2 in
      let l = i.least q.0 (within_is_valid (length (all_routes c)) q.0 q.1) b.0 in
      let t : nat_lt q.0.distance r.distance ≡ true = b.1 in
      grind (arith, nat_tests, l, t)))

  pub from_installed : (r : Route) → Contains (installed c) r → IsInstalled c r
  from_installed r h =
      let i = in_filter (is_unbeaten (valid c)) (valid c) r h in
      record {
        valid = within_is_valid (length (all_routes c)) r i.0;
        least = λ q v s. not_below r.distance q.distance (λ l. not_true (list_any (beats r) (valid c)) i.1 (to_any (beats r) (valid c) q (valid_from q v) (true_both (same_prefix q.prefix r.prefix) (nat_lt q.distance r.distance) s l)));
      }
    where
      not_below : (a b : ℕ) → (nat_lt b a ≡ true → ⊥) → a ≤ b
      not_below a b f = elim (leb_tells (suc b) a) [ inl e ↦ absurd (f e.0) | inr e ↦ omega (arith, e.1) ]

  pub installed_is_best : (r : Route) → Contains (installed c) r ↔ IsInstalled c r
  installed_is_best r = (from_installed r, to_installed r)

-- ---- choices

module _ (rs : List Route) (a : ℕ) where
  from_best : (r : Route) → Contains (best rs a) r → IsBest rs a r
  from_best r h =
      let held = filter (route_holds a) rs in
      let i = in_filter (is_longest held) held r h in
      let j = in_filter (route_holds a) rs r i.0 in
      record {
        among = j.0;
        holds = j.1;
        longest = λ q m t. not_longer r q (λ l. not_true (list_any (is_longer r) held) i.1 (to_any (is_longer r) held q (to_filter (route_holds a) rs q m t) l));
      }
    where
      not_longer : (r q : Route) → (is_longer r q ≡ true → ⊥) → q.prefix.length ≤ r.prefix.length
      not_longer r q f = elim (leb_tells (suc r.prefix.length) q.prefix.length) [ inl e ↦ absurd (f e.0) | inr e ↦ omega (arith, e.1) ]

  to_best : (r : Route) → IsBest rs a r → Contains (best rs a) r
  to_best r b =
      let held = filter (route_holds a) rs in
      to_filter (is_longest held) held r (to_filter (route_holds a) rs r b.among b.holds) (true_not (list_any (is_longer r) held) (λ e.
      let q = from_any (is_longer r) held e in
      let i = in_filter (route_holds a) rs q.0 q.1 in
      let l = b.longest q.0 i.0 i.1 in
      let t : nat_lt r.prefix.length q.0.prefix.length ≡ true = q.2 in
      grind (arith, nat_tests, l, t)))

  -- among routes that hold the address one is the longest
  longest_of : (xs : List Route) (x : Route) → Contains xs x → (r : Route) × Contains xs r × ((q : Route) → Contains xs q → q.prefix.length ≤ r.prefix.length)
  longest_of [] x h = absurd (in_none x h)
  longest_of (y ∷ []) x h = (y, here y [], λ q g. let e : y ≡ q = in_one y q g in rw (sym e) (omega arith))
  longest_of (y ∷ z ∷ zs) x h =
      let i = longest_of (z ∷ zs) z (here z zs) in
      longer y (z ∷ zs) i.0 i.1 i.2 (leb_tells y.prefix.length i.0.prefix.length)
    where
      longer : (y : Route) (zs : List Route) (r : Route) → Contains zs r → ((q : Route) → Contains zs q → q.prefix.length ≤ r.prefix.length) → ((leb y.prefix.length r.prefix.length ≡ true) × (y.prefix.length ≤ r.prefix.length)) ⊎ ((leb y.prefix.length r.prefix.length ≡ false) × (r.prefix.length < y.prefix.length)) → (s : Route) × Contains (y ∷ zs) s × ((q : Route) → Contains (y ∷ zs) q → q.prefix.length ≤ s.prefix.length)
      longer y zs r m l (inl e) = (r, there y r zs m, λ q g. elim (in_cons y q zs g) [ inl c ↦ subst (λ (u : Route). u.prefix.length ≤ r.prefix.length) c e.1 | inr c ↦ l q c ])
      longer y zs r m l (inr e) = (y, here y zs, λ q g. elim (in_cons y q zs g) [ inl c ↦ subst (λ (u : Route). u.prefix.length ≤ y.prefix.length) c (omega arith) | inr c ↦ omega (arith, l q c, e.1) ])

  -- so where some route holds the address, there are best ones
  some_best : (x : Route) → Contains rs x → route_holds a x ≡ true → (r : Route) × Contains (best rs a) r
  some_best x m t =
      let held = filter (route_holds a) rs in
      let i = longest_of held x (to_filter (route_holds a) rs x m t) in
      let j = in_filter (route_holds a) rs i.0 i.1 in
      (i.0, to_best i.0 (record { among = j.0; holds = j.1; longest = λ q g u. i.2 q (to_filter (route_holds a) rs q g u) }))

in_or_discard : (hs : List Hop) (hop : Hop) → Contains hs hop → Contains (or_discard hs) hop
in_or_discard [] hop h = absurd (in_none hop h)
in_or_discard (x ∷ hs) hop h = h

from_or_discard : (hs : List Hop) (hop : Hop) → Contains (or_discard hs) hop → Contains hs hop ⊎ ((hs ≡ []) × (hop ≡ Discard))
from_or_discard [] hop h = inr (refl, sym (in_one Discard hop h))
from_or_discard (x ∷ hs) hop h = inl h

-- by each exit
module _ (again : ℕ → List Hop) (Again : ℕ → Hop → Type 0) (a : ℕ) where
  from_exit : ((b : ℕ) (hop : Hop) → Contains (again b) hop → Again b hop) → (e : RouteExit) (hop : Hop) → Contains (exit_hops again a e) hop → LeadsTo Again a e hop
  from_exit f exit.Null hop h = sym (in_one Discard hop h)
  from_exit f (exit.Port name) hop h = sym (in_one (Out name a) hop h)
  from_exit f (exit.Both name next) hop h = sym (in_one (Out name next) hop h)
  from_exit f (exit.Next next) hop h = f next hop h

  to_exit : ((b : ℕ) (hop : Hop) → Again b hop → Contains (again b) hop) → (e : RouteExit) (hop : Hop) → LeadsTo Again a e hop → Contains (exit_hops again a e) hop
  to_exit f exit.Null hop h = subst (Contains (Discard ∷ [])) (sym h) (here Discard [])
  to_exit f (exit.Port name) hop h = subst (Contains (Out name a ∷ [])) (sym h) (here (Out name a) [])
  to_exit f (exit.Both name next) hop h = subst (Contains (Out name next ∷ [])) (sym h) (here (Out name next) [])
  to_exit f (exit.Next next) hop h = f next hop h

some_exit : (again : ℕ → List Hop) → ((b : ℕ) → (hop : Hop) × Contains (again b) hop) → (a : ℕ) (e : RouteExit) → (hop : Hop) × Contains (exit_hops again a e) hop
some_exit again f a exit.Null = (Discard, here Discard [])
some_exit again f a (exit.Port name) = (Out name a, here (Out name a) [])
some_exit again f a (exit.Both name next) = (Out name next, here (Out name next) [])
some_exit again f a (exit.Next next) = f next

module _ (rs : List Route) where
  some_hop : (n a : ℕ) → (hop : Hop) × Contains (hops_within rs n a) hop
  some_hop zero a = (Discard, here Discard [])
  some_hop (suc n) a = first_of_these (flat_map (route_hops (λ b. hops_within rs n b) a) (best rs a))
    where
      first_of_these : (hs : List Hop) → (hop : Hop) × Contains (or_discard hs) hop
      first_of_these [] = (Discard, here Discard [])
      first_of_these (x ∷ hs) = (x, here x hs)

  pub choice_from_hops : (n a : ℕ) (hop : Hop) → Contains (hops_within rs n a) hop → IsChoice rs n a hop
  choice_from_hops zero a hop h = sym (in_one Discard hop h)
  choice_from_hops (suc n) a hop h =
      let by = route_hops (λ b. hops_within rs n b) a in
      elim (from_or_discard (flat_map by (best rs a)) hop h) [
        | inl g ↦
            let i = in_flat_map by (best rs a) hop g in
            inr (i.0, from_best rs a i.0 i.1, from_exit (λ b. hops_within rs n b) (λ b g. IsChoice rs n b g) a (choice_from_hops n) i.0.exit hop i.2)
        | inr g ↦ inl (
          λ r m t.
              (let b = some_best rs a r m t in
              let s = some_exit (λ b. hops_within rs n b) (some_hop n) a b.0.exit in
              let c : Contains [] s.0 = subst (λ (hs : List Hop). Contains hs s.0) g.0 (to_flat_map by (best rs a) s.0 b.0 b.1 s.1) in
              in_none s.0 c),
          g.1,
        )
      ]

  pub hops_from_choice : (n a : ℕ) (hop : Hop) → IsChoice rs n a hop → Contains (hops_within rs n a) hop
  hops_from_choice zero a hop e = subst (Contains (Discard ∷ [])) (sym e) (here Discard [])
  hops_from_choice (suc n) a hop (inl (none, e)) =
      let by = route_hops (λ b. hops_within rs n b) a in
      let empty : best rs a ≡ [] = no_item (best rs a) (λ r m. let b = from_best rs a r m in none r b.among b.holds) in
      subst (λ (qs : List Route). Contains (or_discard (flat_map by qs)) hop) (sym empty) (subst (Contains (Discard ∷ [])) (sym e) (here Discard []))
    where
      no_item : {A : Type 0} (xs : List A) → ((x : A) → Contains xs x → ⊥) → xs ≡ []
      no_item [] f = refl
      no_item (x ∷ xs) f = absurd (f x (here x xs))
  hops_from_choice (suc n) a hop (inr (r, b, l)) =
      let by = route_hops (λ b. hops_within rs n b) a in
      in_or_discard (flat_map by (best rs a)) hop (to_flat_map by (best rs a) hop r (to_best rs a r b) (to_exit (λ b. hops_within rs n b) (λ b g. IsChoice rs n b g) a (hops_from_choice n) r.exit hop l))

  pub hops_are_choices : (n a : ℕ) (hop : Hop) → Contains (hops_within rs n a) hop ↔ IsChoice rs n a hop
  hops_are_choices n a hop = (choice_from_hops n a hop, hops_from_choice n a hop)
