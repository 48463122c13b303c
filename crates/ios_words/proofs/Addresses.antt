-- An address by steps is the one by parts.
use Rattle.std.proofs.Common.{◌≡◌, ◌⊎◌, inl, inr, ℕ, ◌+◌, ◌*◌, Bool, true, false, cond, ◌&&◌, List, [], ◌∷◌, length, take, drop, map, refl, arith, add-one, tests}
use Rattle.std.specs.Prelude.{Option, Some, None, option_and_then, option_map, nat_lt}
use Rattle.std.specs.List.{slice_split, position_or_len}
use Rattle.std.specs.Str.{all_ascii_digits}
use Rattle.std.specs.Str.Parse.{digits_value}
use Rattle.std.specs.Char.{is_ascii_digit}
use Rattle.std.proofs.lemmas.Bool.{lt-ltb, le-ltb}
use Rattle.net_text.proofs.Parts.{parted}
use Rattle.ios_words.specs.Words.{is_dot, is_within, octet_of, of_four, address_of}
use Rattle.ios_words.specs.Steps.{dotted_of, address_steps}

abbrev pub Whole : List ℕ → Type 0
Whole w = (dotted_of w ≡ None) × (slice_split is_dot w ≡ w ∷ [])

abbrev pub Cut : List ℕ → Type 0
Cut w = (p : List ℕ) × (r : List ℕ) × (dotted_of w ≡ option_map (λ n. (n, r)) (octet_of p)) × (slice_split is_dot w ≡ p ∷ slice_split is_dot r)

dots : (w : List ℕ) → Whole w ⊎ Cut w
dots w = elim (parted is_dot w) [
  | inl h ↦ inr (take (position_or_len is_dot w) w, drop (position_or_len is_dot w + 1) w, rw (lt-ltb _ _ h.0) refl, rw add-one h.1)
  | inr h ↦ inl (rw (le-ltb (position_or_len is_dot w) (length w) (omega (arith, h.0))) refl, h.1)
]

some_part : (w : List ℕ) → (p : List ℕ) × (ps : List (List ℕ)) × (slice_split is_dot w ≡ p ∷ ps)
some_part w = elim (dots w) [
  | inl h ↦ (w, [], h.1)
  | inr h ↦ (h.0, slice_split is_dot h.1, h.3)
]

digit_no_dot : (c : ℕ) → is_ascii_digit c ≡ true → is_dot c ≡ false
digit_no_dot c h = grind (arith, tests)

both : (a b : Bool) → (a && b) ≡ true → (a ≡ true) × (b ≡ true)
both true true h = (refl, refl)
both true false h = absurd (cc)
both false b h = absurd (cc)

no_digits : (a b x : Bool) (v : ℕ) → cond a None (cond ((b && false) && x) (Some v) None) ≡ None
no_digits true b x v = refl
no_digits false true x v = refl
no_digits false false x v = refl

digits_whole : (w : List ℕ) → all_ascii_digits w ≡ true → slice_split is_dot w ≡ w ∷ []
digits_whole [] h = refl
digits_whole (c ∷ cs) h = let b = both (is_ascii_digit c) (all_ascii_digits cs) h in rw (digit_no_dot c b.0, digits_whole cs b.1)

octet_cut : (w : List ℕ) → Cut w → octet_of w ≡ None
octet_cut w h = (elim (all_ascii_digits w) as (λ b. all_ascii_digits w ≡ b → octet_of w ≡ None) [
  | true ↦ λ e. let one = digits_whole w e in let s = some_part h.1 in let two = h.3 in let more = s.2 in absurd (cc)
  | false ↦ λ e. rw e (no_digits (nat_lt 3 (length w)) (nat_lt 0 (length w)) (is_within 0 255 (digits_value 10 w)) (digits_value 10 w))
]) refl

fourth : (a b c : ℕ) (z : List ℕ) → option_and_then (λ d. Some (((a * 256 + b) * 256 + c) * 256 + d)) (octet_of z) ≡ of_four (Some a ∷ Some b ∷ Some c ∷ map octet_of (slice_split is_dot z))
fourth a b c z = elim (dots z) [
  | inl h ↦ rw h.1 (elim (octet_of z) as (λ o. option_and_then (λ d. Some (((a * 256 + b) * 256 + c) * 256 + d)) o ≡ of_four (Some a ∷ Some b ∷ Some c ∷ o ∷ [])) [ None ↦ refl | Some d ↦ refl ])
  | inr h ↦ let s = some_part h.1 in
      rw (octet_cut z h, h.3, s.2) (elim (octet_of h.0) as (λ o. None ≡ of_four (Some a ∷ Some b ∷ Some c ∷ o ∷ octet_of s.0 ∷ map octet_of s.1)) [ None ↦ refl | Some d ↦ refl ])
]

abbrev fourth_of : ℕ → ℕ → ℕ × List ℕ → Option ℕ
fourth_of a b c = option_and_then (λ d. Some (((a * 256 + b) * 256 + c.0) * 256 + d)) (octet_of c.1)

third : (a b : ℕ) (z : List ℕ) → option_and_then (fourth_of a b) (dotted_of z) ≡ of_four (Some a ∷ Some b ∷ map octet_of (slice_split is_dot z))
third a b z = elim (dots z) [
  | inl h ↦ rw (h.0, h.1) (elim (octet_of z) as (λ o. None ≡ of_four (Some a ∷ Some b ∷ o ∷ [])) [ None ↦ refl | Some d ↦ refl ])
  | inr h ↦ rw (h.2, h.3) (elim (octet_of h.0) as (λ o. option_and_then (fourth_of a b) (option_map (λ n. (n, h.1)) o) ≡ of_four (Some a ∷ Some b ∷ o ∷ map octet_of (slice_split is_dot h.1))) [ None ↦ refl | Some c ↦ fourth a b c h.1 ])
]

abbrev third_of : ℕ → ℕ × List ℕ → Option ℕ
third_of a b = option_and_then (fourth_of a b.0) (dotted_of b.1)

second : (a : ℕ) (z : List ℕ) → option_and_then (third_of a) (dotted_of z) ≡ of_four (Some a ∷ map octet_of (slice_split is_dot z))
second a z = elim (dots z) [
  | inl h ↦ rw (h.0, h.1) (elim (octet_of z) as (λ o. None ≡ of_four (Some a ∷ o ∷ [])) [ None ↦ refl | Some d ↦ refl ])
  | inr h ↦ rw (h.2, h.3) (elim (octet_of h.0) as (λ o. option_and_then (third_of a) (option_map (λ n. (n, h.1)) o) ≡ of_four (Some a ∷ o ∷ map octet_of (slice_split is_dot h.1))) [ None ↦ refl | Some c ↦ third a c h.1 ])
]

abbrev second_of : ℕ × List ℕ → Option ℕ
second_of a = option_and_then (third_of a.0) (dotted_of a.1)

pub steps_same : (word : List ℕ) → address_steps word ≡ address_of word
unfolding address_steps
steps_same word = elim (dots word) [
  | inl h ↦ rw (h.0, h.1) (elim (octet_of word) as (λ o. None ≡ of_four (o ∷ [])) [ None ↦ refl | Some d ↦ refl ])
  | inr h ↦ rw (h.2, h.3) (elim (octet_of h.0) as (λ o. option_and_then second_of (option_map (λ n. (n, h.1)) o) ≡ of_four (o ∷ map octet_of (slice_split is_dot h.1))) [ None ↦ refl | Some c ↦ second c h.1 ])
]
