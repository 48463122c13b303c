-- One of a list, and the values of a function.
use Rattle.std.proofs.Common.{ℕ, ◌≡◌, ◌<◌, ◌+◌, ◌⊎◌, ◌↔◌, inl, inr, nat_eq, Bool, true, false, cond, List, [], ◌∷◌, ◌++◌, Option, Some, None, IsSome, IsNone, take, get_or, length, refl, ap, sym, ◌∙◌, subst, true≢false}
use Rattle.std.specs.Prelude.{Contains, ◌||◌, IfSome}
use Rattle.std.specs.List.{list_any}
use Rattle.std.proofs.lemmas.Bool.Decides.{eqb_tells}
use Rattle.std.proofs.lemmas.List.{take_more}
use Rattle.std.proofs.lemmas.List.Elements.{Contains-append_cases, Contains-append_left, Contains-append_right}
use Rattle.net_types.proofs.Members.{here, there, in_cons, in_one, in_none}
use Rattle.hdr_bits.specs.declared.header.Header.{Header}
use Rattle.hdr_bits.specs.declared.cube.Cube.{Cube}
use Rattle.hdr_bits.specs.Bits.{bit_of}
use Rattle.hdr_bits.specs.HeaderBits.{number, IsHeader}
use Rattle.hdr_bits.specs.CubeBits.{IsIn, IsStar, digit_at}
use Rattle.cube_diagram.specs.Functions.{Functions, Keeps, count_of, value_at}
use Rattle.cube_diagram.specs.Reach.{GivesOnly}
use Rattle.set_walk.specs.Sets.{InSet}
use Rattle.place_ways.specs.Adding.{ByOne, TellsAddresses}
use Rattle.place_ways.specs.Parts.{IsAmong}
use Rattle.place_ways.proofs.SetLemmas.{kept_set}

module _ {A : Type 0} (P : A → Type 0) where
  pub one_none : ByOne P [] → ⊥
  one_none x = in_none x.one x.among

  one_more : (xs : List A) (y : A) → ByOne P (xs ++ y ∷ []) ↔ (ByOne P xs ⊎ P y)
  one_more xs y = (
    λ x. elim (Contains-append_cases xs (y ∷ []) x.one x.among) [
      | inl c ↦ inl (record { one = x.one; among = c; is = x.is })
      | inr c ↦ inr (subst P (sym (in_one y x.one c)) x.is)
    ],
    λ x. elim x [
      | inl z ↦ record { one = z.one; among = Contains-append_left xs (y ∷ []) z.one z.among; is = z.is }
      | inr z ↦ record { one = y; among = Contains-append_right xs (y ∷ []) y (here y []); is = z }
    ],
  )

  -- of the first items of a list
  pub one_taken : (xs : List A) (i : ℕ) (y : A) → i < length xs → y ≡ get_or xs i y → ByOne P (take (i + 1) xs) ↔ (ByOne P (take i xs) ⊎ P y)
  one_taken xs i y l e =
      let taken : take (i + 1) xs ≡ take i xs ++ y ∷ [] = take_more xs i y l ∙ ap (λ z. take i xs ++ z ∷ []) (sym e) in
      subst (λ zs. ByOne P zs ↔ (ByOne P (take i xs) ⊎ P y)) (sym taken) (one_more (take i xs) y)

-- a stage told in the older table
pub stage_kept : (f g : Functions) (function given one n : ℕ) (h : Header) (P : Type 0) → Keeps f g → function < count_of f → given < count_of f → ((value_at g function n ≡ Some one) × (InSet g given h × P)) ↔ ((value_at f function n ≡ Some one) × (InSet f given h × P))
stage_kept f g function given one n h P k lf lg =
    let e = k.value function lf n in
    let z = kept_set f g given h k lg in
    (λ x. (sym e ∙ x.0, (z.0 x.1.0, x.1.1)), λ x. (e ∙ x.0, (z.1 x.1.0, x.1.1)))

-- ---- all values of a function
star_agrees : (o : Option ℕ) (P : ℕ → Type 0) → IsNone o → IfSome o P
star_agrees None P h = tt
star_agrees (Some x) P h = absurd (true≢false h)

pub in_all : (all : Cube) (n : ℕ) → ((k : ℕ) → k < 112 → IsStar all k) → IsIn all n
in_all all n stars k l = star_agrees (digit_at all k) (λ b. bit_of n k ≡ b) (stars k l)

pub some_value : (o : Option ℕ) → IsSome o → (v : ℕ) × (o ≡ Some v)
some_value (Some v) s = (v, refl)
some_value None s = absurd (true≢false (sym s))

pub among_values : (value : ℕ → Option ℕ) (all : Cube) (xs : List ℕ) (h : Header) → ((k : ℕ) → k < 112 → IsStar all k) → GivesOnly value all xs → IsSome (value (number h)) → IsAmong (λ g. value (number g)) xs h
among_values value all xs h stars only s =
    let v = some_value (value (number h)) s in
    record { one = v.0; among = only.each (number h) v.0 (in_all all (number h) stars) v.1; is = v.1 }

-- ---- addresses
any_in : (d : ℕ) (xs : List ℕ) → list_any (λ a. nat_eq d a) xs ≡ true → Contains xs d
any_in d [] e = absurd (true≢false (sym e))
any_in d (x ∷ xs) e =
    elim (eqb_tells d x) [
      | inl p ↦ subst (λ y. Contains (x ∷ xs) y) (sym p.1) (here x xs)
      | inr p ↦ there x d xs (any_in d xs (sym (ap (λ b. b || list_any (λ a. nat_eq d a) xs) p.0) ∙ e))
    ]

in_any : (d : ℕ) (xs : List ℕ) → Contains xs d → list_any (λ a. nat_eq d a) xs ≡ true
in_any d [] c = absurd (in_none d c)
in_any d (x ∷ xs) c =
    elim (eqb_tells d x) [
      | inl p ↦ ap (λ b. b || list_any (λ a. nat_eq d a) xs) p.0
      | inr p ↦ ap (λ b. b || list_any (λ a. nat_eq d a) xs) p.0 ∙ elim (in_cons x d xs c) [
        | inl q ↦ absurd (p.1 (sym q))
        | inr q ↦ in_any d xs q
      ]
    ]

if_some : (b : Bool) (d : ℕ) → IsSome (cond b (Some d) None) → b ≡ true
if_some true d s = refl
if_some false d s = absurd (true≢false (sym s))

if_value : (b : Bool) (d v : ℕ) → cond b (Some d) None ≡ Some v → d ≡ v
if_value true d v e = cc
if_value false d v e = absurd cc

-- the address that the function tells is the header's destination
pub told_value : (f : Functions) (xs : List ℕ) (function a : ℕ) (h : Header) → TellsAddresses f xs function → IsHeader h → value_at f function (number h) ≡ Some a → h.dst ≡ a
told_value f xs function a h t v e = if_value (list_any (λ x. nat_eq h.dst x) xs) h.dst a (sym (t.exact h v) ∙ e)

pub told_in : (f : Functions) (xs : List ℕ) (function : ℕ) (h : Header) → TellsAddresses f xs function → IsHeader h → InSet f function h → Contains xs h.dst × (value_at f function (number h) ≡ Some h.dst)
told_in f xs function h t v i =
    let e = t.exact h v in
    let b = if_some (list_any (λ x. nat_eq h.dst x) xs) h.dst (subst (λ o. IsSome o) e i) in
    (any_in h.dst xs b, e ∙ ap (λ x. cond x (Some h.dst) None) b)

pub told_out : (f : Functions) (xs : List ℕ) (function : ℕ) (h : Header) → TellsAddresses f xs function → IsHeader h → (InSet f function h → ⊥) → Contains xs h.dst → ⊥
told_out f xs function h t v n c =
    n (subst (λ o. IsSome o) (sym (t.exact h v ∙ ap (λ x. cond x (Some h.dst) None) (in_any h.dst xs c))) refl)
