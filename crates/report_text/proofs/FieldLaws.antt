-- A field is read as it is written.
use Rattle.std.proofs.Common.{◌≡◌, ℕ, zero, suc, ◌+◌, ◌-◌, ◌/◌, ◌%◌, ◌^◌, ◌<◌, ◌≤◌, Bool, true, false, cond, ◌&&◌, ◌==◌, List, [], ◌∷◌, ◌++◌, length, length-append, append-nil, append_assoc, refl, sym, ap, subst, ◌∙◌, arith}
use Rattle.std.specs.Prelude.{Option, Some, None, option_and_then, decimal, codes, bit_and, nat_lt, IfSome}
use Rattle.std.specs.List.{find, range_with_len}
use Rattle.std.specs.Str.{bytes_eq}
use Rattle.std.proofs.lemmas.Bool.{lt-ltb, le-ltb, eq-eqb, eqb-true, ne_eqb}
use Rattle.std.proofs.lemmas.Fmt.{decimal_nonempty, length-decimal-le}
use Rattle.std.proofs.lemmas.Nat.{and_le_r}
use Rattle.report_text.specs.FieldText.{address_text, ternary_text, prefix_mask, prefix_length, partial_text, address_field_text, number_field_text, width_of, field_text, IsField}
use Rattle.report_text.specs.Reading.{skip_word, prefix_of, dotted_of, address_read, number_read, if_written, address_field_of, number_field_of, field_of, field_at}
use Rattle.report_text.proofs.Joined.{same_bytes, bytes_same}
use Rattle.report_text.proofs.Options.{then_any}
use Rattle.report_text.proofs.Cuts.{has, neither, cut_back, cut_whole, next_back, skip_back, Tail, after}
use Rattle.report_text.proofs.Numerals.{is_mark, number_back, number_plain, has_both, address_parts, address_back, address_plain, address_size, number_star, ternary_size, ternary_back, ternary_plain}

pub both : (a b : Bool) → (a && b) ≡ true → (a ≡ true) × (b ≡ true)
both true true h = (refl, refl)
both true false h = absurd (cc)
both false b h = absurd (cc)

-- digits stand at fixed bits alone
below : (b f : ℕ) → bit_and b f ≡ b → b ≤ f
below b f d = omega (arith, d, and_le_r b f)

star : (f b : ℕ) → f ≡ 0 → bit_and b f ≡ b → ◌≡◌ {A = Option (ℕ × ℕ)} (Some (0, 0)) (Some (f, b))
star f b e d =
    let g : b ≡ 0 = omega (arith, e, below b f d) in
    λ i. Some (sym e i, sym g i)

-- ---- addresses

address_star : (b : ℕ) (v : List ℕ) → b < 2 ^ 32 → bytes_eq (address_text b ++ v) (codes "*") ≡ false
address_star b v h =
    let r = 46 ∷ (decimal (b / 65536 % 256) ++ (46 ∷ (decimal (b / 256 % 256) ++ (46 ∷ decimal (b % 256))))) in
    ap (λ w. bytes_eq (w ++ v) (codes "*")) (address_parts b) ∙ ap (λ w. bytes_eq w (codes "*")) (append_assoc (decimal (b / 16777216)) r v) ∙ number_star (b / 16777216) (r ++ v) (omega (arith, h))

whole_back : (b : ℕ) → b < 2 ^ 32 → address_read (address_text b) ≡ Some (2 ^ 32 - 1, b)
unfolding address_read dotted_of
whole_back b h =
    let size : (length (address_text b) == 32) ≡ false = ne_eqb (length (address_text b)) 32 (λ e. omega (arith, e, address_size b h)) in
    let other : bytes_eq (address_text b) (codes "*") ≡ false = ap (λ w. bytes_eq w (codes "*")) (sym (append-nil (address_text b))) ∙ address_star b [] h in
    rw (size, other, cut_whole 47 (address_text b) (address_plain 47 b refl refl h), address_back b h) refl

prefix_back : (b l : ℕ) → b < 2 ^ 32 → 1 ≤ l → l ≤ 31 → address_read (address_text b ++ (47 ∷ decimal l)) ≡ Some (prefix_mask l, b)
unfolding address_read dotted_of prefix_of
prefix_back b l h low high =
    let long : length (address_text b ++ (47 ∷ decimal l)) ≤ 18 = omega (arith, length-append (address_text b) (47 ∷ decimal l), address_size b h, length-decimal-le 2 l (omega arith) (omega (arith, high)) (omega (arith, high))) in
    let size : (length (address_text b ++ (47 ∷ decimal l)) == 32) ≡ false = ne_eqb (length (address_text b ++ (47 ∷ decimal l))) 32 (λ e. omega (arith, e, long)) in
    rw (
      size,
      address_star b (47 ∷ decimal l) h,
      cut_back 47 (address_text b) (47 ∷ decimal l) (address_plain 47 b refl refl h) refl,
      address_back b h,
      number_back 1 31 l (omega (arith, high)) low high,
      lt-ltb 0 (length (decimal l)) (decimal_nonempty l (omega (arith, high))),
    ) refl

ternary_case : (f b : ℕ) → f < 2 ^ 32 → bit_and b f ≡ b → address_read (ternary_text 32 f b) ≡ Some (f, b)
unfolding address_read
ternary_case f b h d = rw (eq-eqb (length (ternary_text 32 f b)) 32 (ternary_size 32 f b)) (ap Some (ternary_back 32 f b h (omega (arith, h, below b f d)) d))

found : (p : ℕ → Bool) (a n i : ℕ) → find p (range_with_len a n) ≡ Some i → (p i ≡ true) × (a ≤ i) × (i < a + n)
found p a zero i e = absurd (cc)
found p a (suc n) i e = (elim (p a) as (λ t. p a ≡ t → cond t (Some a) (find p (range_with_len (a + 1) n)) ≡ Some i → (p i ≡ true) × (a ≤ i) × (i < a + suc n)) [
  | true ↦ λ h g. (let s : a ≡ i = cc in (ap p (sym s) ∙ h, omega arith, omega arith))
  | false ↦ λ h g. (let r = found p (a + 1) n i g in (r.0, omega (arith, r.1), omega (arith, r.2)))
]) refl e

partial_back : (o : Option ℕ) (f b : ℕ) → prefix_length f ≡ o → f < 2 ^ 32 → bit_and b f ≡ b → address_read (partial_text o f b) ≡ Some (f, b)
unfolding prefix_length
partial_back (Some l) f b e h d =
    let r = found (λ length. prefix_mask length == f) 1 31 l e in
    ap address_read (append_assoc (address_text b) (codes "/") (decimal l)) ∙ prefix_back b l (omega (arith, h, below b f d)) r.1 (omega (arith, r.2)) ∙ ap (λ n. Some (n, b)) (eqb-true (prefix_mask l) f r.0)
partial_back None f b e h d = ternary_case f b h d

star_read : address_read (codes "*") ≡ Some (0, 0)
unfolding address_read
star_read = refl

address_read_back : (f b : ℕ) → f < 2 ^ 32 → bit_and b f ≡ b → address_read (address_field_text f b) ≡ Some (f, b)
unfolding address_field_text
address_read_back f b h d =
    (elim (f == 0) as (λ t. (f == 0) ≡ t → address_read (cond t (codes "*") (cond (f == 2 ^ 32 - 1) (address_text b) (partial_text (prefix_length f) f b))) ≡ Some (f, b)) [
      | true ↦ λ e. star_read ∙ star f b (eqb-true f 0 e) d
      | false ↦ λ _. (elim (f == 2 ^ 32 - 1) as (λ t. (f == 2 ^ 32 - 1) ≡ t → address_read (cond t (address_text b) (partial_text (prefix_length f) f b)) ≡ Some (f, b)) [
        | true ↦ λ e. whole_back b (omega (arith, h, below b f d)) ∙ ap (λ n. Some (n, b)) (sym (eqb-true f (2 ^ 32 - 1) e))
        | false ↦ λ _. partial_back (prefix_length f) f b refl h d
      ]) refl
    ]) refl

-- ---- numbers

number_read_back : (w f b : ℕ) → 1 < w → f < 2 ^ w → b < 2 ^ 64 → length (decimal b) < w → bit_and b f ≡ b → number_read w (number_field_text w f b) ≡ Some (f, b)
unfolding number_field_text number_read
number_read_back w f b some h small size d =
    (elim (f == 0) as (λ t. (f == 0) ≡ t → number_read w (cond t (codes "*") (cond (f == 2 ^ w - 1) (decimal b) (ternary_text w f b))) ≡ Some (f, b)) [
      | true ↦ λ e. rw (ne_eqb 1 w (λ g. omega (arith, g, some))) (star f b (eqb-true f 0 e) d)
      | false ↦ λ _. (elim (f == 2 ^ w - 1) as (λ t. (f == 2 ^ w - 1) ≡ t → number_read w (cond t (decimal b) (ternary_text w f b)) ≡ Some (f, b)) [
        | true ↦ λ e. whole (eqb-true f (2 ^ w - 1) e)
        | false ↦ λ _. rw (eq-eqb (length (ternary_text w f b)) w (ternary_size w f b)) (ap Some (ternary_back w f b h (omega (arith, h, below b f d)) d))
      ]) refl
    ]) refl
  where
    whole : f ≡ 2 ^ w - 1 → number_read w (decimal b) ≡ Some (f, b)
    whole e =
        let other : bytes_eq (decimal b) (codes "*") ≡ false = ap (λ v. bytes_eq v (codes "*")) (sym (append-nil (decimal b))) ∙ number_star b [] small in
        rw (ne_eqb (length (decimal b)) w (λ g. omega (arith, g, size)), other, number_back 0 (2 ^ w - 1) b small (omega arith) (omega (arith, e, below b f d)))
        (ap (λ n. Some (n, b)) (sym e))

-- ---- what was read is written so

written : (text : ℕ → ℕ → List ℕ) (f b : ℕ) → bit_and b f ≡ b → if_written text (text f b) (f, b) ≡ Some (f, b)
written text f b d = rw (eq-eqb (bit_and b f) b d, same_bytes (text f b)) refl

address_field_back : (f b : ℕ) → f < 2 ^ 32 → bit_and b f ≡ b → address_field_of (address_field_text f b) ≡ Some (f, b)
unfolding address_field_of
address_field_back f b h d = ap (λ o. option_and_then (if_written address_field_text (address_field_text f b)) o) (address_read_back f b h d) ∙ written address_field_text f b d

number_field_back : (w f b : ℕ) → 1 < w → f < 2 ^ w → b < 2 ^ 64 → length (decimal b) < w → bit_and b f ≡ b → number_field_of w (number_field_text w f b) ≡ Some (f, b)
unfolding number_field_of
number_field_back w f b some h small size d =
    ap (λ o. option_and_then (if_written (number_field_text w) (number_field_text w f b)) o) (number_read_back w f b some h small size d) ∙ written (number_field_text w) f b d

byte_back : (f b : ℕ) → f < 2 ^ 8 → bit_and b f ≡ b → number_field_of 8 (number_field_text 8 f b) ≡ Some (f, b)
byte_back f b h d =
    let l = below b f d in
    let size : length (decimal b) ≤ 3 = length-decimal-le 3 b (omega arith) (omega (arith, h, l)) (omega (arith, h, l)) in
    number_field_back 8 f b (omega arith) h (omega (arith, h, l)) (omega (arith, size)) d

port_back : (f b : ℕ) → f < 2 ^ 16 → bit_and b f ≡ b → number_field_of 16 (number_field_text 16 f b) ≡ Some (f, b)
port_back f b h d =
    let l = below b f d in
    let size : length (decimal b) ≤ 5 = length-decimal-le 5 b (omega arith) (omega (arith, h, l)) (omega (arith, h, l)) in
    number_field_back 16 f b (omega arith) h (omega (arith, h, l)) (omega (arith, size)) d

pub field_back : (k f b : ℕ) → IsField k f b → field_of k (field_text k f b) ≡ Some (f, b)
unfolding field_of field_text
field_back zero f b h = address_field_back f b h.below h.digits
field_back (suc zero) f b h = address_field_back f b h.below h.digits
field_back (suc (suc zero)) f b h = byte_back f b h.below h.digits
field_back (suc (suc (suc zero))) f b h = port_back f b h.below h.digits
field_back (suc (suc (suc (suc zero)))) f b h = port_back f b h.below h.digits
field_back (suc (suc (suc (suc (suc zero))))) f b h = byte_back f b h.below h.digits
field_back (suc (suc (suc (suc (suc (suc k)))))) f b h = absurd (omega (arith, h.known))

-- ---- and what is read is written so

abbrev IsWritten : (ℕ → ℕ → List ℕ) → List ℕ → ℕ × ℕ → Type 0
IsWritten text w f = (bit_and f.1 f.0 ≡ f.1) × (text f.0 f.1 ≡ w)

if_written_kept : (text : ℕ → ℕ → List ℕ) (w : List ℕ) (f : ℕ × ℕ) → IfSome (if_written text w f) (IsWritten text w)
if_written_kept text w f = go (bit_and f.1 f.0 == f.1 && bytes_eq (text f.0 f.1) w) refl
  where
    go : (t : Bool) → (bit_and f.1 f.0 == f.1 && bytes_eq (text f.0 f.1) w) ≡ t → IfSome (cond t (Some f) None) (IsWritten text w)
    go false e = tt
    go true e = let g = both (bit_and f.1 f.0 == f.1) (bytes_eq (text f.0 f.1) w) e in (eqb-true (bit_and f.1 f.0) f.1 g.0, bytes_same (text f.0 f.1) w g.1)

address_kept : (w : List ℕ) → IfSome (address_field_of w) (IsWritten address_field_text w)
unfolding address_field_of
address_kept w = then_any (address_read w) (if_written address_field_text w) (IsWritten address_field_text w) (if_written_kept address_field_text w)

number_kept : (n : ℕ) (w : List ℕ) → IfSome (number_field_of n w) (IsWritten (number_field_text n) w)
unfolding number_field_of
number_kept n w = then_any (number_read n w) (if_written (number_field_text n) w) (IsWritten (number_field_text n) w) (if_written_kept (number_field_text n) w)

known : {A : Type 0} (k : ℕ) (P : A → Type 0) (o : Option A) → k < 6 → IfSome o P → IfSome o (λ f. (k < 6) × P f)
known k P None l h = tt
known k P (Some x) l h = (l, h)

kept_at : (k : ℕ) (w : List ℕ) → IfSome (field_of k w) (λ f. (k < 6) × IsWritten (field_text k) w f)
unfolding field_of field_text
kept_at zero w = known 0 (IsWritten address_field_text w) (address_field_of w) (omega arith) (address_kept w)
kept_at (suc zero) w = known 1 (IsWritten address_field_text w) (address_field_of w) (omega arith) (address_kept w)
kept_at (suc (suc zero)) w = known 2 (IsWritten (number_field_text 8) w) (number_field_of 8 w) (omega arith) (number_kept 8 w)
kept_at (suc (suc (suc zero))) w = known 3 (IsWritten (number_field_text 16) w) (number_field_of 16 w) (omega arith) (number_kept 16 w)
kept_at (suc (suc (suc (suc zero)))) w = known 4 (IsWritten (number_field_text 16) w) (number_field_of 16 w) (omega arith) (number_kept 16 w)
kept_at (suc (suc (suc (suc (suc zero))))) w = known 5 (IsWritten (number_field_text 8) w) (number_field_of 8 w) (omega arith) (number_kept 8 w)
kept_at (suc (suc (suc (suc (suc (suc k)))))) w = rw (le-ltb (suc (suc (suc (suc (suc (suc k)))))) 2 (omega arith), le-ltb (suc (suc (suc (suc (suc (suc k)))))) 6 (omega arith)) tt

-- what is read is a field that is written so
pub field_kept : (k : ℕ) (w : List ℕ) (o : Option (ℕ × ℕ)) → o ≡ field_of k w → IfSome o (λ f. (f.0 < 2 ^ width_of k) × (f.1 < 2 ^ width_of k)) → IfSome o (λ f. IsField k f.0 f.1 × (field_text k f.0 f.1 ≡ w))
field_kept k w None e h = tt
field_kept k w (Some f) e h =
    let g = subst (λ o. IfSome o (λ f. (k < 6) × IsWritten (field_text k) w f)) (sym e) (kept_at k w) in
    (record { known = g.0; below = h.0; digits = g.1.0 }, g.1.1)

-- ---- fields have no blank and no line end

address_field_plain : (m f b : ℕ) → is_mark m ≡ true → (42 == m) ≡ false → (46 == m) ≡ false → (47 == m) ≡ false → b < 2 ^ 32 → has m (address_field_text f b) ≡ false
unfolding address_field_text prefix_length
address_field_plain m f b k s d l h =
    elim (f == 0) as (λ t. has m (cond t (codes "*") (cond (f == 2 ^ 32 - 1) (address_text b) (partial_text (prefix_length f) f b))) ≡ false) [
      | true ↦ rw s refl
      | false ↦ elim (f == 2 ^ 32 - 1) as (λ t. has m (cond t (address_text b) (partial_text (prefix_length f) f b)) ≡ false) [
        | true ↦ address_plain m b k d h
        | false ↦ partial (prefix_length f) refl
      ]
    ]
  where
    partial : (o : Option ℕ) → prefix_length f ≡ o → has m (partial_text o f b) ≡ false
    partial None e = ternary_plain m 32 f b k
    partial (Some n) e =
        let r = found (λ length. prefix_mask length == f) 1 31 n e in
        ap (has m) (append_assoc (address_text b) (codes "/") (decimal n)) ∙ has_both m (address_text b) (47 ∷ decimal n) (address_plain m b k d h) (neither (47 == m) (has m (decimal n)) l (number_plain m n k (omega (arith, r.2))))

number_field_plain : (m w f b : ℕ) → is_mark m ≡ true → (42 == m) ≡ false → b < 2 ^ 64 → has m (number_field_text w f b) ≡ false
unfolding number_field_text
number_field_plain m w f b k s h =
    elim (f == 0) as (λ t. has m (cond t (codes "*") (cond (f == 2 ^ w - 1) (decimal b) (ternary_text w f b))) ≡ false) [
      | true ↦ rw s refl
      | false ↦ elim (f == 2 ^ w - 1) as (λ t. has m (cond t (decimal b) (ternary_text w f b)) ≡ false) [
        | true ↦ number_plain m b k h
        | false ↦ ternary_plain m w f b k
      ]
    ]

pub field_plain : (m k f b : ℕ) → is_mark m ≡ true → (42 == m) ≡ false → (46 == m) ≡ false → (47 == m) ≡ false → IsField k f b → has m (field_text k f b) ≡ false
unfolding field_text
field_plain m k f b g s d l h =
    elim (nat_lt k 2) as (λ t. has m (cond t (address_field_text f b) (number_field_text (width_of k) f b)) ≡ false) [
      | true ↦ address_field_plain m f b g s d l small
      | false ↦ number_field_plain m (width_of k) f b g s (omega (arith, small))
    ]
  where
    widths : (j : ℕ) → j < 6 → 2 ^ width_of j ≤ 2 ^ 32
    widths zero l = omega arith
    widths (suc zero) l = omega arith
    widths (suc (suc zero)) l = omega arith
    widths (suc (suc (suc zero))) l = omega arith
    widths (suc (suc (suc (suc zero)))) l = omega arith
    widths (suc (suc (suc (suc (suc zero))))) l = omega arith
    widths (suc (suc (suc (suc (suc (suc j)))))) l = absurd (omega (arith, l))

    small : b < 2 ^ 32
    small = omega (arith, below b f h.digits, h.below, widths k h.known)

-- ---- a field behind its name, in a line

pub field_step : (k f b : ℕ) (bytes t : List ℕ) → IsField k f b → Tail 32 t → skip_word bytes ≡ field_text k f b ++ t → field_at k bytes ≡ Some ((f, b), after t)
unfolding field_at
field_step k f b bytes t h e s =
    let plain = field_plain 32 k f b refl refl refl refl h in
    rw (s, next_back (field_text k f b) t plain e, skip_back (field_text k f b) t plain e, field_back k f b h) refl
