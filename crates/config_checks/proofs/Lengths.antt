-- The greatest length at which a route holds an address.
use Rattle.std.proofs.Common.{◌≡◌, ℕ, suc, true, false, List, refl, sym, ap, ◌∙◌, eqb-true, eq-eqb}
use Rattle.std.specs.Prelude.{◌==◌, Some, None}
use Rattle.std.specs.List.{list_any}
use Rattle.net_types.specs.declared.config.Route.{Route}
use Rattle.net_types.specs.Routes.{prefix_number}
use Rattle.net_types.proofs.Runs.{and_left, and_right, and_both, same_tests, any_same}
use Rattle.rib_build.specs.Prefixes.{has_prefix}
use Rattle.config_checks.specs.Findings.{holds_at, longest, longest_below}

-- the first bits of the address are those of the prefix
at_prefix : (l a : ℕ) (r : Route) → has_prefix (prefix_number l a) l r ≡ true → holds_at l a r ≡ true
at_prefix l a r e =
    let m : r.prefix.length ≡ l = eqb-true _ _ (and_left (r.prefix.length == l) _ e) in
    let n : prefix_number l r.prefix.address ≡ prefix_number l a = eqb-true _ _ (and_right (r.prefix.length == l) _ e) in
    and_both _ _ (eq-eqb _ _ m) (eq-eqb _ _ (ap (λ k. prefix_number k a) m ∙ sym n ∙ ap (λ k. prefix_number k r.prefix.address) (sym m)))

from_prefix : (l a : ℕ) (r : Route) → holds_at l a r ≡ true → has_prefix (prefix_number l a) l r ≡ true
from_prefix l a r e =
    let m : r.prefix.length ≡ l = eqb-true _ _ (and_left (r.prefix.length == l) _ e) in
    let n : prefix_number r.prefix.length a ≡ prefix_number r.prefix.length r.prefix.address = eqb-true _ _ (and_right (r.prefix.length == l) _ e) in
    and_both _ _ (eq-eqb _ _ m) (eq-eqb _ _ (ap (λ k. prefix_number k r.prefix.address) (sym m) ∙ sym n ∙ ap (λ k. prefix_number k a) m))

pub any_at : (l a : ℕ) (rs : List Route) → list_any (has_prefix (prefix_number l a) l) rs ≡ list_any (holds_at l a) rs
any_at l a = any_same (has_prefix (prefix_number l a) l) (holds_at l a) (λ r. same_tests _ _ (at_prefix l a r) (from_prefix l a r))

pub itself : (r : Route) → has_prefix (prefix_number r.prefix.length r.prefix.address) r.prefix.length r ≡ true
itself r =
    let n = prefix_number r.prefix.length r.prefix.address in
    and_both (r.prefix.length == r.prefix.length) (n == n) (eq-eqb r.prefix.length r.prefix.length refl) (eq-eqb n n refl)

pub found : (rs : List Route) (a n l : ℕ) → n ≡ suc l → list_any (holds_at l a) rs ≡ true → longest_below rs a n ≡ Some l
unfolding longest_below
found rs a n l e h = rw (e, h) refl

pub passed : (rs : List Route) (a n l : ℕ) → n ≡ suc l → list_any (holds_at l a) rs ≡ false → longest_below rs a n ≡ longest_below rs a l
unfolding longest_below
passed rs a n l e h = rw (e, h) refl

pub longest_is : (rs : List Route) (a : ℕ) → longest rs a ≡ longest_below rs a 33
unfolding longest
longest_is rs a = refl

pub none_left : (rs : List Route) (a n : ℕ) → n ≡ 0 → longest_below rs a n ≡ None
unfolding longest_below
none_left rs a n e = rw e refl
