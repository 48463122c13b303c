-- What a reader gives, if it gives anything.
use Rattle.std.proofs.Common.{◌≡◌, ℕ, ◌+◌, ◌*◌, ◌<◌, ◌≤◌, Bool, true, false, cond, ◌&&◌, List, [], ◌∷◌, length, map, refl, arith}
use Rattle.std.specs.Prelude.{Option, Some, None, Result, Ok, Err, ok_or, nat_lt, nat_le}
use Rattle.std.specs.List.{AllByRecursion, slice_split}
use Rattle.std.specs.Str.Parse.{digits_value}
use Rattle.std.proofs.lemmas.Bool.{leb-true, ltb-false}
use Rattle.net_text.specs.Texts.{IsWord}
use Rattle.ios_words.specs.Words.{is_numeral, is_within, number_of, octet_of, is_dot, of_four, address_of, mask_length_of}
use Rattle.ios_lines.specs.declared.fault.Fault.{Fault}
use Rattle.ios_lines.specs.declared.fault.Kind.TheVariants as kind
use Rattle.ios_lines.specs.Words.{◌>>=◌, Word, Words, fault_of, next_word, allowed_word, address_at, mask_at, number_at}

abbrev pub Each : Words → Type 0
Each ws = AllByRecursion IsWord ws

abbrev pub Has : {A : Type 0} → (A → Type 0) → Result A Fault → Type 0
Has P (Ok x) = P x
Has P (Err e) = Unit {0}

pub then_has : {A B : Type 0} (P : A → Type 0) (Q : B → Type 0) (r : Result A Fault) (f : A → Result B Fault) → Has P r → ((x : A) → P x → Has Q (f x)) → Has Q (r >>= f)
then_has P Q (Ok x) f h g = g x h
then_has P Q (Err e) f h g = tt

pub some_has : {A : Type 0} (P : A → Type 0) (o : Option A) (e : Fault) → ((x : A) → o ≡ Some x → P x) → Has P (ok_or o e)
some_has P None e h = tt
some_has P (Some x) e h = h x refl

pub if_has : {A : Type 0} (P : A → Type 0) (b : Bool) (r s : Result A Fault) → (b ≡ true → Has P r) → (b ≡ false → Has P s) → Has P (cond b r s)
if_has P true r s h k = h refl
if_has P false r s h k = k refl

-- ---- words

pub next_has : (ws : Words) → Each ws → Has (λ w. IsWord w.0 × Each w.1) (next_word ws)
next_has [] e = tt
next_has (w ∷ ws) e = (e.0, e.1)

pub allowed_has : (c : Word → Bool) (ws : Words) → Each ws → Has (λ w. IsWord w.0 × (c w.0 ≡ false) × Each w.1) (allowed_word c ws)
unfolding allowed_word
allowed_has c [] e = tt
allowed_has c (w ∷ ws) e = if_has (λ v. IsWord v.0 × (c v.0 ≡ false) × Each v.1) (c w) (Err (fault_of kind.NotCovered w)) (Ok (w, ws)) (λ h. tt) (λ h. (e.0, h, e.1))

both : (a b : Bool) → (a && b) ≡ true → (a ≡ true) × (b ≡ true)
both true true h = (refl, refl)
both true false h = absurd (cc)
both false b h = absurd (cc)

pub number_bounds : (low high : ℕ) (w : Word) (n : ℕ) → number_of low high w ≡ Some n → (low ≤ n) × (n ≤ high)
number_bounds low high w n h = (elim (is_numeral w && is_within low high (digits_value 10 w)) as (λ b. (is_numeral w && is_within low high (digits_value 10 w)) ≡ b → cond b (Some (digits_value 10 w)) None ≡ Some n → (low ≤ n) × (n ≤ high)) [
  | true ↦ λ e k.
      let v : digits_value 10 w ≡ n = cc in
      let i = both (nat_le low (digits_value 10 w)) (nat_le (digits_value 10 w) high) (both (is_numeral w) (is_within low high (digits_value 10 w)) e).1 in
      (omega (arith, leb-true low (digits_value 10 w) i.0, v), omega (arith, leb-true (digits_value 10 w) high i.1, v))
  | false ↦ λ e k. absurd (cc)
]) refl h

octet_bound : (p : Word) (n : ℕ) → octet_of p ≡ Some n → n ≤ 255
octet_bound p n h = (elim (nat_lt 3 (length p)) as (λ b. cond b None (number_of 0 255 p) ≡ Some n → n ≤ 255) [
  | true ↦ λ k. absurd (cc)
  | false ↦ λ k. (number_bounds 0 255 p n k).1
]) h

abbrev IsOctet : Option ℕ → Type 0
IsOctet None = Unit {0}
IsOctet (Some n) = n ≤ 255

is_octet : (p : Word) → IsOctet (octet_of p)
is_octet p = (elim (octet_of p) as (λ o. octet_of p ≡ o → IsOctet o) [ None ↦ λ e. tt | Some n ↦ λ e. octet_bound p n e ]) refl

are_octets : (ps : List Word) → AllByRecursion IsOctet (map octet_of ps)
are_octets [] = tt
are_octets (p ∷ ps) = (is_octet p, are_octets ps)

four_bound : (os : List (Option ℕ)) (a : ℕ) → AllByRecursion IsOctet os → of_four os ≡ Some a → a < 4294967296
four_bound [] a h e = absurd (cc)
four_bound (None ∷ os) a h e = absurd (cc)
four_bound (Some p ∷ []) a h e = absurd (cc)
four_bound (Some p ∷ None ∷ os) a h e = absurd (cc)
four_bound (Some p ∷ Some q ∷ []) a h e = absurd (cc)
four_bound (Some p ∷ Some q ∷ None ∷ os) a h e = absurd (cc)
four_bound (Some p ∷ Some q ∷ Some r ∷ []) a h e = absurd (cc)
four_bound (Some p ∷ Some q ∷ Some r ∷ None ∷ os) a h e = absurd (cc)
four_bound (Some p ∷ Some q ∷ Some r ∷ Some s ∷ []) a h e =
    let v : ((p * 256 + q) * 256 + r) * 256 + s ≡ a = cc in
    omega (arith, v, h.0, h.1.0, h.1.1.0, h.1.1.1.0)
four_bound (Some p ∷ Some q ∷ Some r ∷ Some s ∷ o ∷ os) a h e = absurd (cc)

pub address_bound : (w : Word) (a : ℕ) → address_of w ≡ Some a → a < 4294967296
address_bound w a h = four_bound (map octet_of (slice_split is_dot w)) a (are_octets (slice_split is_dot w)) h

pub address_has : (c : Word → Bool) (ws : Words) → Each ws → Has (λ a. (a.0 < 4294967296) × Each a.1) (address_at c ws)
unfolding address_at
address_has c ws e = then_has (λ w. IsWord w.0 × (c w.0 ≡ false) × Each w.1) (λ a. (a.0 < 4294967296) × Each a.1) (allowed_word c ws) _ (allowed_has c ws e) (λ w h.
    then_has (λ a. a < 4294967296) (λ a. (a.0 < 4294967296) × Each a.1) (ok_or (address_of w.0) (fault_of kind.BadWord w.0)) _ (some_has (λ a. a < 4294967296) (address_of w.0) (fault_of kind.BadWord w.0) (address_bound w.0)) (λ a k. (k, h.2)))

pub mask_has : (c : Word → Bool) (least : ℕ) (ws : Words) → Each ws → Has (λ m. (least ≤ m.0) × Each m.1) (mask_at c least ws)
unfolding mask_at
mask_has c least ws e = then_has (λ w. IsWord w.0 × (c w.0 ≡ false) × Each w.1) (λ m. (least ≤ m.0) × Each m.1) (allowed_word c ws) _ (allowed_has c ws e) (λ w h.
    then_has (λ a. Unit {0}) (λ m. (least ≤ m.0) × Each m.1) (ok_or (address_of w.0) (fault_of kind.BadWord w.0)) _ (some_has (λ a. Unit {0}) (address_of w.0) (fault_of kind.BadWord w.0) (λ x k. tt)) (λ a k.
    then_has (λ n. Unit {0}) (λ m. (least ≤ m.0) × Each m.1) (ok_or (mask_length_of a) (fault_of kind.BadMask w.0)) _ (some_has (λ n. Unit {0}) (mask_length_of a) (fault_of kind.BadMask w.0) (λ x k. tt)) (λ n k.
    if_has (λ m. (least ≤ m.0) × Each m.1) (nat_lt n least) (Err (fault_of kind.BadMask w.0)) (Ok (n, w.1)) (λ b. tt) (λ b. (ltb-false n least b, h.2)))))

pub number_has : (c : Word → Bool) (low high : ℕ) (ws : Words) → Each ws → Has (λ n. (low ≤ n.0) × (n.0 ≤ high) × Each n.1) (number_at c low high ws)
unfolding number_at
number_has c low high ws e = then_has (λ w. IsWord w.0 × (c w.0 ≡ false) × Each w.1) (λ n. (low ≤ n.0) × (n.0 ≤ high) × Each n.1) (allowed_word c ws) _ (allowed_has c ws e) (λ w h.
    then_has (λ n. (low ≤ n) × (n ≤ high)) (λ n. (low ≤ n.0) × (n.0 ≤ high) × Each n.1) (ok_or (number_of low high w.0) (fault_of kind.BadWord w.0)) _ (some_has (λ n. (low ≤ n) × (n ≤ high)) (number_of low high w.0) (fault_of kind.BadWord w.0) (number_bounds low high w.0)) (λ n k. (k.0, k.1, h.2)))
