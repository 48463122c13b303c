-- The sides of the rules of address translation, one more rule.
use Rattle.std.proofs.Common.{◌≡◌, Bool, true, false, cond, ◌||◌, ◌&&◌, List, [], ◌∷◌, ◌++◌, refl, sym, ap, ◌∙◌, ◌==◌}
use Rattle.std.specs.List.{list_any}
use Rattle.std.proofs.lemmas.Bool.{eqb-true}
use Rattle.net_types.specs.declared.config.NatRule.{NatRule}
use Rattle.ios_commands.specs.declared.translation.NatSide.{NatSide}
use Rattle.ios_commands.specs.declared.translation.NatSide.TheVariants as side
use Rattle.ios_commands.specs.Translation.{same_side}
use Rattle.ios_lines.proofs.Steps.{any_more}

both : (a b : Bool) → (a && b) ≡ true → (a ≡ true) × (b ≡ true)
both true true h = (refl, refl)
both true false h = absurd (cc)
both false b h = absurd (cc)

pub same_side_is : (s t : NatSide) → same_side s t ≡ true → s ≡ t
same_side_is (side.Plain a) (side.Plain b) h = ap side.Plain (eqb-true a b h)
same_side_is (side.Tcp a m) (side.Tcp b n) h = let p = both (a == b) (m == n) h in let x = eqb-true a b p.0 in let y = eqb-true m n p.1 in cc
same_side_is (side.Udp a m) (side.Udp b n) h = let p = both (a == b) (m == n) h in let x = eqb-true a b p.0 in let y = eqb-true m n p.1 in cc
same_side_is (side.Outer a) (side.Outer b) h = ap side.Outer (eqb-true a b h)
same_side_is (side.Plain a) (side.Tcp b n) h = absurd (cc)
same_side_is (side.Plain a) (side.Udp b n) h = absurd (cc)
same_side_is (side.Tcp a m) (side.Plain b) h = absurd (cc)
same_side_is (side.Tcp a m) (side.Udp b n) h = absurd (cc)
same_side_is (side.Udp a m) (side.Plain b) h = absurd (cc)
same_side_is (side.Udp a m) (side.Tcp b n) h = absurd (cc)
same_side_is (side.Plain a) (side.Outer b) h = absurd (cc)
same_side_is (side.Tcp a m) (side.Outer b) h = absurd (cc)
same_side_is (side.Udp a m) (side.Outer b) h = absurd (cc)
same_side_is (side.Outer a) (side.Plain b) h = absurd (cc)
same_side_is (side.Outer a) (side.Tcp b n) h = absurd (cc)
same_side_is (side.Outer a) (side.Udp b n) h = absurd (cc)

no_more : (b : Bool) → b ≡ (b || false)
no_more true = refl
no_more false = refl

abbrev pub Knows : (NatRule → NatSide) → List NatSide → List NatRule → Type 0
Knows f ks rs = (s : NatSide) → list_any (same_side s) ks ≡ list_any (λ r. same_side s (f r)) rs

pub knows_more : (f : NatRule → NatSide) (ks : List NatSide) (rs : List NatRule) (r : NatRule) → Knows f ks rs → Knows f (cond (list_any (same_side (f r)) ks) ks (ks ++ f r ∷ [])) (rs ++ r ∷ [])
knows_more f ks rs r known s = (elim (list_any (same_side (f r)) ks) as (λ b. list_any (same_side (f r)) ks ≡ b → list_any (same_side s) (cond b ks (ks ++ f r ∷ [])) ≡ list_any (λ x. same_side s (f x)) (rs ++ r ∷ [])) [
  | true ↦ λ h. known s ∙ (elim (same_side s (f r)) as (λ b. same_side s (f r) ≡ b → list_any (λ x. same_side s (f x)) rs ≡ list_any (λ x. same_side s (f x)) (rs ++ r ∷ [])) [
    | true ↦ λ e.
        let z : s ≡ f r = same_side_is s (f r) e in
        let a : list_any (λ x. same_side s (f x)) rs ≡ true = sym (known s) ∙ ap (λ t. list_any (same_side t) ks) z ∙ h in
        a ∙ sym (any_more (λ x. same_side s (f x)) rs r ∙ ap (λ t. t || same_side s (f r)) a)
    | false ↦ λ e. no_more (list_any (λ x. same_side s (f x)) rs) ∙ sym (any_more (λ x. same_side s (f x)) rs r ∙ ap (λ t. list_any (λ x. same_side s (f x)) rs || t) e)
  ]) refl
  | false ↦ λ h. any_more (same_side s) ks (f r) ∙ ap (λ t. t || same_side s (f r)) (known s) ∙ sym (any_more (λ x. same_side s (f x)) rs r)
]) refl

-- a side is put in by a test that is the same
pub knows_after : (f : NatRule → NatSide) (ks new : List NatSide) (rs more : List NatRule) (r : NatRule) (v : NatSide) (test : NatSide → Bool) → ((b : NatSide) → test b ≡ same_side v b)
    → new ≡ cond (list_any test ks) ks (ks ++ v ∷ []) → v ≡ f r → more ≡ rs ++ r ∷ [] → Knows f ks rs → Knows f new more
knows_after f ks new rs more r v test says e g h known s =
    ap (list_any (same_side s)) (e ∙ ap (λ b. cond b ks (ks ++ v ∷ [])) (any_says ks) ∙ ap (λ w. cond (list_any (same_side w) ks) ks (ks ++ w ∷ [])) g)
    ∙ knows_more f ks rs r known s
    ∙ ap (list_any (λ x. same_side s (f x))) (sym h)
  where
    any_says : (xs : List NatSide) → list_any test xs ≡ list_any (same_side v) xs
    any_says [] = refl
    any_says (x ∷ xs) = rw (says x, any_says xs) refl
