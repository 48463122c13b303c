-- Lists that grow by one, and the headers to addresses.
use Rattle.std.proofs.Common.{ℕ, ◌≡◌, ◌<◌, ◌+◌, ◌*◌, ◌/◌, ◌^◌, ◌⊎◌, inl, inr, take, get_or, List, [], ◌∷◌, ◌++◌, length, slice_get, Option, Some, None, IsSome, refl, ap, sym, ◌∙◌, subst, arith}
use Rattle.std.specs.Prelude.{Contains}
use Rattle.std.specs.Option.{option_or}
use Rattle.std.proofs.lemmas.Bool.{cases_lt}
use Rattle.std.proofs.lemmas.List.{get_or_default, take_more}
use Rattle.std.proofs.lemmas.List.Elements.{Contains-push_cases}
use Rattle.std.proofs.lemmas.Option.{slice_get-get_or}
use Rattle.hdr_bits.specs.declared.header.Header.{Header}
use Rattle.hdr_bits.specs.HeaderBits.{number, IsHeader}
use Rattle.hdr_bits.specs.CubeBits.{IsIn}
use Rattle.cube_alg.specs.declared.cut.Piece.{Piece}
use Rattle.cube_alg.specs.Pieces.{value_of}
use Rattle.cube_alg.proofs.ValueLemmas.{value_of-append, value_one}
use Rattle.net_types.specs.declared.config.NatRule.{NatRule}
use Rattle.net_types.specs.declared.network.NetDevice.{NetDevice}
use Rattle.cube_diagram.specs.Functions.{IsByDestination, SameDestination}
use Rattle.std.proofs.lemmas.Nat.{div-mul-add}
use Rattle.change_scope.specs.Translated.{AreNamed, HasMore, IsNamed, header_to}
use Rattle.change_scope.proofs.TurnLemmas.{named_more}

-- what is among one more item
pub taken : {A : Type 0} (xs : List A) (i : ℕ) (x z : A) → i < length xs → x ≡ get_or xs i x → Contains (take (i + 1) xs) z → Contains (take i xs) z ⊎ (z ≡ x)
taken xs i x z l e c =
    elim (Contains-push_cases (take i xs) (get_or xs i x) z (subst (λ ys. Contains ys z) (take_more xs i x l) c)) [
      | inl k ↦ inl k
      | inr k ↦ inr (sym (e ∙ k))
    ]

-- ---- rules and devices
pub rule_next : (old new : List ℕ) (rules : List NatRule) (i : ℕ) (d : NatRule) → i < length rules → HasMore old new → IsNamed new (get_or rules i d) → AreNamed old (take i rules) → AreNamed new (take (i + 1) rules)
rule_next old new rules i d l m one all x c =
    elim (taken rules i (get_or rules i d) x l (get_or_default rules i d (get_or rules i d) l) c) [
      | inl k ↦ named_more old new (take i rules) m all x k
      | inr k ↦ subst (IsNamed new) (sym k) one
    ]

pub device_next : (old new : List ℕ) (ds : List NetDevice) (i : ℕ) (d : NetDevice) → i < length ds → d ≡ get_or ds i d → HasMore old new → AreNamed new d.config.nat → ((x : NetDevice) → Contains (take i ds) x → AreNamed old x.config.nat) → (x : NetDevice) → Contains (take (i + 1) ds) x → AreNamed new x.config.nat
device_next old new ds i d l e m one all x c =
    elim (taken ds i d x l e c) [
      | inl k ↦ named_more old new x.config.nat m (all x k)
      | inr k ↦ subst (λ (z : NetDevice). AreNamed new z.config.nat) (sym k) one
    ]

-- ---- headers to addresses
dst_of : (h : Header) → IsHeader h → number h / 2 ^ 80 ≡ h.dst
dst_of h v =
    let rest = h.src * 2 ^ 48 + h.proto * 2 ^ 40 + h.dport * 2 ^ 24 + h.sport * 2 ^ 8 + h.flags in
    let src = v.src in
    let proto = v.proto in
    let dport = v.dport in
    let sport = v.sport in
    let flags = v.flags in
    let e : number h ≡ h.dst * 2 ^ 80 + rest = omega arith in
    ap (λ n. n / 2 ^ 80) e ∙ div-mul-add h.dst (2 ^ 80) rest (omega (arith, src, proto, dport, sport, flags))

pub same_destination : (h g : Header) → IsHeader h → IsHeader g → h.dst ≡ g.dst → SameDestination (number h) (number g)
same_destination h g v u e = dst_of h v ∙ (e ∙ sym (dst_of g u))

some_one : (x : Option ℕ) (v : ℕ) → x ≡ Some v → IsSome x
some_one x v e = subst (λ o. IsSome o) (sym e) refl

pub destinations_closed : (value set : ℕ → Option ℕ) → IsByDestination value set → (h g : Header) → IsHeader h → IsHeader g → h.dst ≡ g.dst → IsSome (set (number h)) → IsSome (set (number g))
destinations_closed value set t h g v u e s =
    elim (t.only (number h)) [
      | inl n ↦ let z : IsSome {T = ℕ} None = subst (λ o. IsSome o) n s in absurd cc
      | inr x ↦ some_one (set (number g)) 1 (t.has (number g) x.1 (sym (same_destination h g v u e) ∙ x.2) x.3)
    ]

to_fits : (h : Header) → IsHeader h → IsHeader (header_to h.dst)
to_fits h v = record { dst = v.dst; src = omega arith; proto = omega arith; dport = omega arith; sport = omega arith; flags = omega arith }

pub headers_there : (value set : ℕ → Option ℕ) (addresses : List ℕ) → IsByDestination value set → ((a : ℕ) → Contains addresses a → IsSome (value (number (header_to a)))) → (h : Header) → IsHeader h → Contains addresses h.dst → IsSome (set (number h))
headers_there value set addresses t all h v c =
    some_one (set (number h)) 1 (t.has (number h) (number (header_to h.dst)) (same_destination h (header_to h.dst) v (to_fits h v) refl) (all h.dst c))

pub to_small : (a : ℕ) → a < 2 ^ 32 → number (header_to a) < 2 ^ 112
to_small a l = omega (arith, l)

or_first : (x y : Option ℕ) → IsSome x → IsSome (option_or x y)
or_first None y e = absurd cc
or_first (Some u) y e = refl

or_second : (x y : Option ℕ) → IsSome y → IsSome (option_or x y)
or_second None y e = e
or_second (Some u) y e = refl

-- one more address
pub pieces_next : (xs : List ℕ) (i a : ℕ) (pieces : List Piece) (p : Piece) → i < length xs → a ≡ get_or xs i a → IsIn p.cube (number (header_to a)) → ((x : ℕ) → Contains (take i xs) x → IsSome (value_of pieces (number (header_to x)))) → (x : ℕ) → Contains (take (i + 1) xs) x → IsSome (value_of (pieces ++ p ∷ []) (number (header_to x)))
pieces_next xs i a pieces p l e one all x c =
    let n = number (header_to x) in
    subst (λ o. IsSome o) (sym (value_of-append pieces (p ∷ []) n)) (elim (taken xs i a x l e c) [
      | inl k ↦ or_first (value_of pieces n) (value_of (p ∷ []) n) (all x k)
      | inr k ↦ or_second (value_of pieces n) (value_of (p ∷ []) n) (some_one (value_of (p ∷ []) n) p.value (value_one p n (subst (λ z. IsIn p.cube (number (header_to z))) (sym k) one)))
    ])

-- ---- one more position of two lists
pub pair_next : {A B : Type 0} (P : A → B → Type 0) (xs : List A) (ys : List B) (n : ℕ) (x : A) (y : B) → slice_get xs n ≡ Some x → slice_get ys n ≡ Some y → ((i : ℕ) → i < n → (u : A) (v : B) → slice_get xs i ≡ Some u → slice_get ys i ≡ Some v → P u v) → P x y → (i : ℕ) → i < n + 1 → (u : A) (v : B) → slice_get xs i ≡ Some u → slice_get ys i ≡ Some v → P u v
pair_next P xs ys n x y e o all one i l u v c d =
    elim (cases_lt i n) [
      | inl less ↦ all i less u v c d
      | inr more ↦
          let j : i ≡ n = omega (arith, l, more) in
          let eu : Some u ≡ Some x = sym c ∙ (ap (slice_get xs) j ∙ e) in
          let ev : Some v ≡ Some y = sym d ∙ (ap (slice_get ys) j ∙ o) in
          let fu : x ≡ u = cc in
          let fv : y ≡ v = cc in
          subst (λ z. P z v) fu (subst (P x) fv one)
    ]

pub at_index : {A : Type 0} (xs : List A) (i : ℕ) (x : A) → i < length xs → x ≡ get_or xs i x → slice_get xs i ≡ Some x
at_index xs i x l e = slice_get-get_or xs i x l ∙ ap Some (sym e)
