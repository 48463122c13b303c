-- Which prefixes hold an address, found by the prefixes of each length.
use Rattle.std.proofs.Common.{◌≡◌, ℕ, ◌+◌, ◌<◌, ◌≤◌, ◌⊎◌, cond, inl, inr, ⊎_elim, Bool, true, false, List, [], ◌∷◌, refl, sym, ap, ◌∙◌, arith, eqb-true, eq-eqb, ltb-true, lt-ltb}
use Rattle.std.specs.Prelude.{◌&&◌, ◌||◌, ◌==◌, nat_lt}
use Rattle.std.specs.List.{list_any}
use Rattle.std.proofs.lemmas.Bool.{false≢true, cases_lt}
use Rattle.net_types.specs.declared.config.Route.{Route}
use Rattle.net_types.specs.declared.config.Subnet.{Subnet}
use Rattle.net_types.specs.Routes.{prefix_number, route_holds}
use Rattle.rib_build.specs.Prefixes.{has_prefix}
use Rattle.net_types.proofs.Runs.{and_left, and_right, and_both, not_true}
use Rattle.rib_build.proofs.Any.{any_weaker, any_either}

-- a route that holds the address, of a prefix that lacks fewer than so many bits of 32
abbrev pub holds_beyond : ℕ → ℕ → Route → Bool
holds_beyond less a r = nat_lt 32 (r.prefix.length + less) && route_holds a r

by_length : (a l : ℕ) (r : Route) → has_prefix (prefix_number l a) l r ≡ true → route_holds a r ≡ true
by_length a l r e =
    let m : r.prefix.length ≡ l = eqb-true _ _ (and_left (r.prefix.length == l) _ e) in
    let n : prefix_number l r.prefix.address ≡ prefix_number l a = eqb-true _ _ (and_right (r.prefix.length == l) _ e) in
    eq-eqb _ _ (ap (λ k. prefix_number k a) m ∙ sym n ∙ ap (λ k. prefix_number k r.prefix.address) (sym m))

pub found_by_length : (a l : ℕ) (rs : List Route) → list_any (has_prefix (prefix_number l a) l) rs ≡ true → list_any (route_holds a) rs ≡ true
found_by_length a l = any_weaker (has_prefix (prefix_number l a) l) (route_holds a) (by_length a l)

pub none_longer : (a : ℕ) (rs : List Route) → list_any (holds_beyond 0 a) rs ≡ false
none_longer a [] = refl
none_longer a (r ∷ rs) =
    let f : holds_beyond 0 a r ≡ false = not_true _ (λ e. (let b : 32 < r.prefix.length + 0 = ltb-true _ _ (and_left (nat_lt 32 (r.prefix.length + 0)) _ e) in let m = r.prefix.in_range in absurd (omega (arith, b, m)))) in
    ap (λ b. b || list_any (holds_beyond 0 a) rs) f ∙ none_longer a rs

beyond_or_at : (m less l : ℕ) → l + less ≡ 32 → 32 < m + (less + 1) → (32 < m + less) ⊎ (m ≡ l)
beyond_or_at m less l e b = ⊎_elim (λ s. inl s) (λ (n : m + less ≤ 32). inr (omega (arith, e, b, n))) (cases_lt 32 (m + less))

split_at : (a less l : ℕ) → l + less ≡ 32 → (r : Route) → holds_beyond (less + 1) a r ≡ true → (holds_beyond less a r ≡ true) ⊎ (has_prefix (prefix_number l a) l r ≡ true)
split_at a less l e32 r e =
    let b : 32 < r.prefix.length + (less + 1) = ltb-true _ _ (and_left (nat_lt 32 (r.prefix.length + (less + 1))) _ e) in
    let h : route_holds a r ≡ true = and_right (nat_lt 32 (r.prefix.length + (less + 1))) _ e in
    ⊎_elim
    (λ (s : 32 < r.prefix.length + less). inl (and_both _ _ (lt-ltb _ _ s) h))
    (λ (m : r.prefix.length ≡ l). inr (and_both _ _ (eq-eqb _ _ m) (eq-eqb _ _ (ap (λ k. prefix_number k r.prefix.address) (sym m) ∙ sym (eqb-true _ _ h) ∙ ap (λ k. prefix_number k a) m))))
    (beyond_or_at r.prefix.length less l e32 b)

pub none_more : (a less l : ℕ) (rs : List Route) → l + less ≡ 32 → list_any (holds_beyond less a) rs ≡ false → list_any (has_prefix (prefix_number l a) l) rs ≡ false → list_any (holds_beyond (less + 1) a) rs ≡ false
none_more a less l rs e32 e f =
    not_true _ (λ h. ⊎_elim (λ g. false≢true (sym e ∙ g)) (λ g. false≢true (sym f ∙ g)) (any_either (holds_beyond (less + 1) a) (holds_beyond less a) (has_prefix (prefix_number l a) l) (split_at a less l e32) rs h))

pub none_at_all : (a : ℕ) (rs : List Route) → list_any (holds_beyond 33 a) rs ≡ false → list_any (route_holds a) rs ≡ false
none_at_all a rs e =
    not_true _ (λ h. false≢true (sym e ∙ any_weaker (route_holds a) (holds_beyond 33 a) (λ r g. (let b : 32 < r.prefix.length + 33 = omega arith in and_both _ _ (lt-ltb _ _ b) g)) rs h))

-- ---- one more prefix
fill : (t b known : Bool) → cond (b && t) true known ≡ (known || ((t && b) || false))
fill true true true = refl
fill true true false = refl
fill true false true = refl
fill true false false = refl
fill false true true = refl
fill false true false = refl
fill false false true = refl
fill false false false = refl

pub one_more : (m l n number other : ℕ) (known : Bool) → (m ≡ l → n ≡ other) → cond ((n == number) && (m == l)) true known ≡ (known || (((m == l) && (other == number)) || false))
one_more m l n number other known h =
    elim (m == l) as (λ t. (m == l) ≡ t → cond ((n == number) && t) true known ≡ (known || ((t && (other == number)) || false))) [
      | true ↦ λ e. rw (h (eqb-true m l e)) (fill true (other == number) known)
      | false ↦ λ e. fill_none (n == number) (other == number) known
    ] refl
  where
    fill_none : (b o known : Bool) → cond (b && false) true known ≡ (known || ((false && o) || false))
    fill_none true o true = refl
    fill_none true o false = refl
    fill_none false o true = refl
    fill_none false o false = refl

pub prefix_added : (number length n : ℕ) (s : Subnet) (route : Route) (routes : List Route) (known : Bool) → has_prefix (prefix_number s.length s.address) s.length route ≡ true → n ≡ prefix_number s.length s.address → known ≡ list_any (has_prefix number length) routes → cond ((n == number) && (s.length == length)) true known ≡ (list_any (has_prefix number length) routes || (has_prefix number length route || false))
prefix_added number length n s route routes known same e f =
    let m : route.prefix.length ≡ s.length = eqb-true _ _ (and_left (route.prefix.length == s.length) _ same) in
    let b : prefix_number s.length route.prefix.address ≡ prefix_number s.length s.address = eqb-true _ _ (and_right (route.prefix.length == s.length) _ same) in
    rw (← f, ← m) (one_more route.prefix.length length n number (prefix_number length route.prefix.address) known (λ q. e ∙ (sym b ∙ ap (λ k. prefix_number k route.prefix.address) (sym m ∙ q))))
