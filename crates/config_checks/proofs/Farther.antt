-- The greatest distance of the routes of each prefix, one more route.
use Rattle.std.proofs.Common.{◌≡◌, ℕ, ◌<◌, ◌≤◌, Bool, true, false, cond, Option, Some, None, refl, sym, ap, ◌∙◌, arith, eqb-true}
use Rattle.std.specs.Prelude.{◌&&◌, ◌||◌, ◌==◌, nat_le, nat_lt}
use Rattle.std.proofs.lemmas.Bool.{leb-true, leb-false, le-leb}
use Rattle.config_checks.specs.Held.{is_from}
use Rattle.net_types.proofs.Runs.{and_left, and_right}

or_false : (b : Bool) → b ≡ (b || false)
or_false true = refl
or_false false = refl

-- a greater distance takes the place of a smaller one
greater : (o : Option ℕ) (e d : ℕ) → is_from o e ≡ false → nat_le d e ≡ (is_from o d || nat_le d e)
greater None e d h = refl
greater (Some f) e d h =
    elim (nat_le d f) as (λ t. nat_le d f ≡ t → nat_le d e ≡ (t || nat_le d e)) [
      | true ↦ λ g. (let l : f < e = leb-false e f h in let m : d ≤ f = leb-true d f g in le-leb d e (omega arith))
      | false ↦ λ g. refl
    ] refl

and_true : (a b : Bool) → b ≡ true → (a && b) ≡ a
and_true true b e = e
and_true false b e = refl

-- a distance that may become valid
pub distance_added : (has : ℕ → ℕ → Option ℕ) (a l e address length d : ℕ) (new : Option ℕ) → nat_lt e 255 ≡ true → is_from (has a l) e ≡ false → new ≡ cond ((a == address) && (l == length)) (Some e) (has address length)
    → is_from new d ≡ (is_from (has address length) d || (((a == address) && (l == length)) && (nat_le d e && nat_lt e 255)))
distance_added has a l e address length d new may h is =
    ap (λ o. is_from o d) is ∙ (elim ((a == address) && (l == length)) as (λ t. ((a == address) && (l == length)) ≡ t → is_from (cond t (Some e) (has address length)) d ≡ (is_from (has address length) d || (t && (nat_le d e && nat_lt e 255)))) [
      | true ↦ λ g.
          (let x : a ≡ address = eqb-true _ _ (and_left (a == address) _ g) in
          let y : l ≡ length = eqb-true _ _ (and_right (a == address) _ g) in
          greater (has address length) e d (rw (x, y) at h) ∙ ap (λ b. is_from (has address length) d || b) (sym (and_true (nat_le d e) (nat_lt e 255) may)))
      | false ↦ λ g. or_false (is_from (has address length) d)
    ] refl)
