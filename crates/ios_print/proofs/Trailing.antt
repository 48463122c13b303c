-- The trailing words of an entry are read as its ICMP test or its flag condition.
use Rattle.std.proofs.Common.{◌≡◌, inl, inr, ℕ, ◌<◌, ◌≤◌, zero, suc, Bool, true, false, cond, not, ◌&&◌, ◌||◌, ◌==◌, List, [], ◌∷◌, ◌++◌, length, drop, refl, sym, ap, ◌∙◌, arith}
use Rattle.std.specs.Prelude.{flat_map, Option, Some, None, Result, Ok, codes, decimal, bit_and, bit_or, fold}
use Rattle.std.specs.List.{AllByRecursion}
use Rattle.std.proofs.lemmas.Bool.{eqb-true, eqb-false}
use Rattle.std.proofs.lemmas.List.{length-append}
use Rattle.net_types.specs.declared.config.IcmpTest.{IcmpTest}
use Rattle.net_types.specs.declared.config.IcmpTest.TheVariants as icmp
use Rattle.net_types.specs.declared.config.FlagTest.{FlagTest}
use Rattle.net_types.specs.declared.config.FlagTest.TheVariants as flags
use Rattle.net_types.specs.declared.config.PortTest.{PortTest}
use Rattle.net_types.specs.declared.config.PortTest.TheVariants as ports
use Rattle.ios_lines.specs.declared.fault.Fault.{Fault}
use Rattle.ios_lists.specs.declared.refused.ListPart.TheVariants as list_part
use Rattle.ios_lists.specs.Refused.{list_refuses, refused_after_destination}
use Rattle.ios_lines.specs.Words.{Word, Words, allowed_word, ended}
use Rattle.ios_lists.specs.declared.trailing.Trailing.{Trailing}
use Rattle.ios_lists.specs.declared.trailing.FlagMasks.{FlagMasks}
use Rattle.ios_lists.specs.Entries.{is_log, trailing_at, trailing_words, signed_of, leading_flags, no_flags, add_flag, signed_at, any_flags, all_flags, port_test_at, has_ports}
use Rattle.ios_print.specs.Print.{icmp_words, flag_words, mask_words, flag_word, flag_names}
use Rattle.ios_print.specs.PrintableLists.{IsIcmpTest, IsFlagMask, IsFlagTest}
use Rattle.ios_print.proofs.Digits.{digital_number, number_back, other_word, Digital}
use Rattle.ios_print.proofs.Names.{no_message}
use Rattle.ios_print.proofs.EntryWords.{IsPast}

trailing_covered : (w : Word) → Digital w → list_refuses list_part.Trailing w ≡ false
unfolding refused_after_destination
trailing_covered w d = rw (other_word w 102 (codes "ragments") d refl, other_word w 100 (codes "scp") d refl, other_word w 112 (codes "recedence") d refl, other_word w 116 (codes "os") d refl, other_word w 116 (codes "tl") d refl, other_word w 111 (codes "ption") d refl, other_word w 116 (codes "ime-range") d refl, other_word w 114 (codes "eflect") d refl) refl

no_log : (w : Word) → Digital w → is_log w ≡ false
no_log w d = rw (other_word w 108 (codes "og") d refl, other_word w 108 (codes "og-input") d refl) refl

abbrev pub told : IcmpTest → FlagTest → Bool → Trailing
told i f t = record { logged = false; tested = t; icmp = i; flags = f }

kind_read : (k : ℕ) → k ≤ 255 → trailing_words (Some 1) (decimal k ∷ []) ≡ Ok (told (icmp.Kind k) flags.Any true)
unfolding trailing_words trailing_at allowed_word ended refused_after_destination
kind_read k h =
    let d = digital_number k (omega (arith, h)) in
    rw (trailing_covered (decimal k) d, no_log (decimal k) d, no_message k h, number_back 0 255 k (omega (arith, h)) (omega arith) h) refl

exact_read : (k c : ℕ) → k ≤ 255 → c ≤ 255 → trailing_words (Some 1) (decimal k ∷ decimal c ∷ []) ≡ Ok (told (icmp.Exact k c) flags.Any true)
unfolding trailing_words trailing_at allowed_word ended refused_after_destination
exact_read k c h j =
    let d = digital_number k (omega (arith, h)) in
    rw (trailing_covered (decimal k) d, no_log (decimal k) d, no_message k h, number_back 0 255 k (omega (arith, h)) (omega arith) h, number_back 0 255 c (omega (arith, j)) (omega arith) j) refl

-- ---- flags

-- words that are each read as a flag with its sign
abbrev AreSigned : Words → List (Bool × ℕ) → Type 0
AreSigned [] [] = Unit {0}
AreSigned [] (f ∷ fs) = ⊥
AreSigned (w ∷ ws) [] = ⊥
AreSigned (w ∷ ws) (f ∷ fs) = (signed_of w ≡ Some f) × (list_refuses list_part.Trailing w ≡ false) × AreSigned ws fs

signed_on : (ws : Words) (fs : List (Bool × ℕ)) (vs : Words) (gs : List (Bool × ℕ)) → AreSigned ws fs → AreSigned vs gs → AreSigned (ws ++ vs) (fs ++ gs)
signed_on [] [] vs gs a b = b
signed_on [] (f ∷ fs) vs gs a b = absurd a
signed_on (w ∷ ws) [] vs gs a b = absurd a
signed_on (w ∷ ws) (f ∷ fs) vs gs a b = (a.0, a.1, signed_on ws fs vs gs a.2 b)

abbrev flag_value : Bool → ℕ → ℕ × Word → List (Bool × ℕ)
flag_value b mask f = cond (bit_and mask f.0 == 0) [] ((b, f.0) ∷ [])

abbrev flags_in : Bool → ℕ → List (ℕ × Word) → List (Bool × ℕ)
flags_in b mask rows = flat_map (flag_value b mask) rows

abbrev IsSigned : ℕ → Bool → ℕ × Word → Type 0
IsSigned sign b f = (signed_of (sign ∷ f.1) ≡ Some (b, f.0)) × (list_refuses list_part.Trailing (sign ∷ f.1) ≡ false)

signed_rows : (sign : ℕ) (b : Bool) (mask : ℕ) (rows : List (ℕ × Word)) → AllByRecursion (IsSigned sign b) rows → AreSigned (flat_map (flag_word sign mask) rows) (flags_in b mask rows)
signed_rows sign b mask [] a = tt
signed_rows sign b mask (f ∷ rows) a = signed_on (flag_word sign mask f) (flag_value b mask f) (flat_map (flag_word sign mask) rows) (flags_in b mask rows)
    (elim (bit_and mask f.0 == 0) as (λ t. AreSigned (cond t [] ((sign ∷ f.1) ∷ [])) (cond t [] ((b, f.0) ∷ []))) [ true ↦ tt | false ↦ (a.0.0, a.0.1, tt) ])
    (signed_rows sign b mask rows a.1)

abbrev both_flags : ℕ → ℕ → List (Bool × ℕ)
both_flags set clear = flags_in true set flag_names ++ flags_in false clear flag_names

signed_words : (set clear : ℕ) → AreSigned (mask_words 43 set ++ mask_words 45 clear) (both_flags set clear)
unfolding refused_after_destination
signed_words set clear = signed_on (mask_words 43 set) (flags_in true set flag_names) (mask_words 45 clear) (flags_in false clear flag_names)
    (signed_rows 43 true set flag_names ((refl, refl), ((refl, refl), ((refl, refl), ((refl, refl), ((refl, refl), ((refl, refl), tt)))))))
    (signed_rows 45 false clear flag_names ((refl, refl), ((refl, refl), ((refl, refl), ((refl, refl), ((refl, refl), ((refl, refl), tt)))))))

leading_signed : (ws : Words) (fs : List (Bool × ℕ)) → AreSigned ws fs → (leading_flags ws ≡ fs) × (drop (length fs) ws ≡ [])
leading_signed [] [] a = (refl, refl)
leading_signed [] (f ∷ fs) a = absurd a
leading_signed (w ∷ ws) [] a = absurd a
leading_signed (w ∷ ws) (f ∷ fs) a = let rest = leading_signed ws fs a.2 in (rw a.0 (ap (λ xs. f ∷ xs) rest.0), rest.1)

signed_read : (ws : Words) (fs : List (Bool × ℕ)) → AreSigned ws fs → 0 < length fs → signed_at ws ≡ Ok (fold add_flag no_flags fs, [])
unfolding signed_at allowed_word refused_after_destination
signed_read [] [] a n = absurd (omega (arith, n))
signed_read [] (f ∷ fs) a n = absurd a
signed_read (w ∷ ws) [] a n = absurd a
signed_read (w ∷ ws) (f ∷ fs) a n = let rest = leading_signed ws fs a.2 in rw (a.1, a.0, rest.0, rest.1) refl

-- the flags of a mask are the mask
abbrev set_bits : ℕ → ℕ → ℕ
set_bits m mask = fold (λ n f. bit_or n f.1) m (flags_in true mask flag_names)

below : (ℕ → Bool) → ℕ → Bool
below p zero = true
below p (suc k) = p k && below p k

both : (a b : Bool) → (a && b) ≡ true → (a ≡ true) × (b ≡ true)
both true true h = (refl, refl)
both true false h = absurd (cc)
both false b h = absurd (cc)

below_at : (p : ℕ → Bool) (k n : ℕ) → below p k ≡ true → n < k → p n ≡ true
unfolding below
below_at p zero n h b = absurd (omega (arith, b))
below_at p (suc k) n h b = (elim (n == k) as (λ t. (n == k) ≡ t → p n ≡ true) [
  | true ↦ λ e. ap p (eqb-true n k e) ∙ (both (p k) (below p k) h).0
  | false ↦ λ e. below_at p k n (both (p k) (below p k) h).1 (omega (arith, b, eqb-false n k e))
]) refl

abbrev is_whole : Bool → ℕ → Bool
is_whole b n = fold (λ n f. bit_or n f.1) 0 (flags_in b n flag_names) == n

abbrev is_filled : Bool → ℕ → Bool
is_filled b n = n == 0 || not (length (flags_in b n flag_names) == 0)

whole_masks : (b : Bool) → below (is_whole b) 64 ≡ true
unfolding below
whole_masks true = refl
whole_masks false = refl

filled_masks : (b : Bool) → below (is_filled b) 64 ≡ true
unfolding below
filled_masks true = refl
filled_masks false = refl

whole : (b : Bool) (n : ℕ) → n < 64 → fold (λ n f. bit_or n f.1) 0 (flags_in b n flag_names) ≡ n
whole b n h = eqb-true (fold (λ n f. bit_or n f.1) 0 (flags_in b n flag_names)) n (below_at (is_whole b) 64 n (whole_masks b) h)

set_only : (rows : List (ℕ × Word)) (mask : ℕ) (m : FlagMasks) → fold add_flag m (flags_in true mask rows) ≡ record { set = fold (λ n f. bit_or n f.1) m.set (flags_in true mask rows); clear = m.clear }
set_only [] mask m = refl
set_only (f ∷ rows) mask m = elim (bit_and mask f.0 == 0) as (λ t. fold add_flag m (cond t [] ((true, f.0) ∷ []) ++ flags_in true mask rows) ≡ record { set = fold (λ n f. bit_or n f.1) m.set (cond t [] ((true, f.0) ∷ []) ++ flags_in true mask rows); clear = m.clear }) [
  | true ↦ set_only rows mask m
  | false ↦ set_only rows mask (record { set = bit_or m.set f.0; clear = m.clear })
]

clear_only : (rows : List (ℕ × Word)) (mask : ℕ) (m : FlagMasks) → fold add_flag m (flags_in false mask rows) ≡ record { set = m.set; clear = fold (λ n f. bit_or n f.1) m.clear (flags_in false mask rows) }
clear_only [] mask m = refl
clear_only (f ∷ rows) mask m = elim (bit_and mask f.0 == 0) as (λ t. fold add_flag m (cond t [] ((false, f.0) ∷ []) ++ flags_in false mask rows) ≡ record { set = m.set; clear = fold (λ n f. bit_or n f.1) m.clear (cond t [] ((false, f.0) ∷ []) ++ flags_in false mask rows) }) [
  | true ↦ clear_only rows mask m
  | false ↦ clear_only rows mask (record { set = m.set; clear = bit_or m.clear f.0 })
]

fold_on : {A B : Type 0} (f : B → A → B) (b : B) (xs ys : List A) → fold f b (xs ++ ys) ≡ fold f (fold f b xs) ys
fold_on f b [] ys = refl
fold_on f b (x ∷ xs) ys = fold_on f (f b x) xs ys

masks_back : (set clear : ℕ) → set < 64 → clear < 64 → fold add_flag no_flags (both_flags set clear) ≡ record { set = set; clear = clear }
masks_back set clear h k =
    fold_on add_flag no_flags (flags_in true set flag_names) (flags_in false clear flag_names)
    ∙ ap (λ m. fold add_flag m (flags_in false clear flag_names)) (set_only flag_names set no_flags ∙ ap (λ n. record { set = n; clear = 0 }) (whole true set h))
    ∙ clear_only flag_names clear (record { set = set; clear = 0 })
    ∙ ap (λ n. record { set = set; clear = n }) (whole false clear k)

some_flag : (b : Bool) (n : ℕ) → n < 64 → 0 < n → 0 < length (flags_in b n flag_names)
some_flag b n h k = go (n == 0) (length (flags_in b n flag_names) == 0) refl refl (below_at (is_filled b) 64 n (filled_masks b) h)
  where
    go : (s t : Bool) → (n == 0) ≡ s → (length (flags_in b n flag_names) == 0) ≡ t → (s || not t) ≡ true → 0 < length (flags_in b n flag_names)
    go true t e f g = absurd (omega (arith, k, eqb-true n 0 e))
    go false true e f g = absurd (cc)
    go false false e f g = omega (arith, eqb-false (length (flags_in b n flag_names)) 0 f)

some_flags : (set clear : ℕ) → IsFlagMask set clear → 0 < length (both_flags set clear)
some_flags set clear (h, k, inl s) = omega (arith, length-append (flags_in true set flag_names) (flags_in false clear flag_names), some_flag true set h s)
some_flags set clear (h, k, inr s) = omega (arith, length-append (flags_in true set flag_names) (flags_in false clear flag_names), some_flag false clear k s)

masks_read : (set clear : ℕ) → IsFlagMask set clear → signed_at (mask_words 43 set ++ mask_words 45 clear) ≡ Ok (record { set = set; clear = clear }, [])
masks_read set clear is = signed_read (mask_words 43 set ++ mask_words 45 clear) (both_flags set clear) (signed_words set clear) (some_flags set clear is) ∙ ap (λ m. Ok (m, [])) (masks_back set clear is.0 is.1)

any_read : (set clear : ℕ) → IsFlagMask set clear → trailing_words (Some 6) (flag_words (flags.AnyOf set clear)) ≡ Ok (told icmp.Any (flags.AnyOf set clear) true)
unfolding trailing_words trailing_at allowed_word ended any_flags refused_after_destination
any_read set clear is = rw (masks_read set clear is) refl

all_read : (set clear : ℕ) → IsFlagMask set clear → trailing_words (Some 6) (flag_words (flags.AllOf set clear)) ≡ Ok (told icmp.Any (flags.AllOf set clear) true)
unfolding trailing_words trailing_at allowed_word ended all_flags refused_after_destination
all_read set clear is = rw (masks_read set clear is) refl

none_read : (p : Option ℕ) → trailing_words p [] ≡ Ok (told icmp.Any flags.Any false)
unfolding trailing_words trailing_at ended
none_read p = refl

pub record IsTold (i : IcmpTest) (f : FlagTest) (p : Option ℕ) (ws : Words) : Type 0 where
  pub tested : Bool
  pub read : trailing_words p ws ≡ Ok (told i f tested)

both_no : (p : Option ℕ) → p ≡ Some 1 → p ≡ Some 6 → ⊥
both_no p e f = let k : Some 1 ≡ Some 6 = sym e ∙ f in cc

pub trailing_read : (p : Option ℕ) (i : IcmpTest) (f : FlagTest) → IsIcmpTest p i → IsFlagTest p f → IsTold i f p (icmp_words i ++ flag_words f)
trailing_read p icmp.Any flags.Any a b = record { tested = false; read = none_read p }
trailing_read p (icmp.Kind k) flags.Any a b = record { tested = true; read = rw a.0 (kind_read k a.1) }
trailing_read p (icmp.Exact k c) flags.Any a b = record { tested = true; read = rw a.0 (exact_read k c a.1 a.2) }
trailing_read p icmp.Any (flags.AnyOf set clear) a b = record { tested = true; read = rw b.0 (any_read set clear b.1) }
trailing_read p icmp.Any (flags.AllOf set clear) a b = record { tested = true; read = rw b.0 (all_read set clear b.1) }
trailing_read p (icmp.Kind k) (flags.AnyOf set clear) a b = absurd (both_no p a.0 b.0)
trailing_read p (icmp.Kind k) (flags.AllOf set clear) a b = absurd (both_no p a.0 b.0)
trailing_read p (icmp.Exact k c) (flags.AnyOf set clear) a b = absurd (both_no p a.0 b.0)
trailing_read p (icmp.Exact k c) (flags.AllOf set clear) a b = absurd (both_no p a.0 b.0)

-- none of these words begins a port test
no_tests : (p : Option ℕ) → port_test_at p [] ≡ Ok (ports.Any, [])
no_tests None = refl
no_tests (Some p) = elim (has_ports p) as (λ b. cond {A = Result (PortTest × Words) Fault} b (Ok (ports.Any, [])) (Ok (ports.Any, [])) ≡ Ok (ports.Any, [])) [ true ↦ refl | false ↦ refl ]

same_proto : (q p : ℕ) → Some q ≡ Some p → q ≡ p
same_proto q p e = cc

no_leading : (q : ℕ) (n : ℕ) → q ≡ 1 → has_ports q ≡ false
no_leading q n e = rw e refl

icmp_quiet : (p : Option ℕ) (ws : Words) → p ≡ Some 1 → IsPast p ws
icmp_quiet p ws e = record {
  quiet = rw e refl;
  none = λ q f h. absurd (let g : Some q ≡ Some 1 = sym f ∙ e in cc);
}

pub past_trailing : (p : Option ℕ) (i : IcmpTest) (f : FlagTest) → IsIcmpTest p i → IsFlagTest p f → IsPast p (icmp_words i ++ flag_words f)
past_trailing p icmp.Any flags.Any a b = record { quiet = no_tests p; none = λ q e h. refl }
past_trailing p (icmp.Kind k) f a b = icmp_quiet p (icmp_words (icmp.Kind k) ++ flag_words f) a.0
past_trailing p (icmp.Exact k c) f a b = icmp_quiet p (icmp_words (icmp.Exact k c) ++ flag_words f) a.0
past_trailing p icmp.Any (flags.AnyOf set clear) a b = record { quiet = rw b.0 refl; none = λ q e h. rw (same_proto q 6 (sym e ∙ b.0)) refl }
past_trailing p icmp.Any (flags.AllOf set clear) a b = record { quiet = rw b.0 refl; none = λ q e h. rw (same_proto q 6 (sym e ∙ b.0)) refl }
