-- What is read has names, and fits.
use Rattle.std.proofs.Common.{◌≡◌, ℕ, zero, suc, ◌^◌, ◌<◌, ◌≤◌, Bool, true, false, cond, ◌&&◌, List, [], ◌∷◌, ◌++◌, length, map, refl, arith}
use Rattle.std.specs.Prelude.{Option, Some, None, option_map, codes, IfSome, nat_lt, nat_le}
use Rattle.std.specs.List.{AllByRecursion, slice_split}
use Rattle.std.specs.Str.Parse.{digits_value}
use Rattle.std.proofs.lemmas.Bool.{leb-true}
use Rattle.std.specs.declared.cmp.Ordering.TheVariants.{Less, Equal, Greater}
use Rattle.ios_words.specs.Words.{is_numeral, number_of, octet_of, is_dot, of_four, address_of}
use Rattle.net_types.specs.Order.{put_in_order, in_order, outcome_cmp}
use Rattle.net_types.specs.declared.label.Outcome.{Outcome}
use Rattle.net_types.specs.declared.network.Row.{Row}
use Rattle.net_types.specs.declared.network.Section.{Section}
use Rattle.net_types.proofs.Ordered.{in_order_sorted, in_order_some}
use Rattle.net_types.proofs.Outcomes.{total, exact}
use Rattle.report_text.specs.Reports.{IsNumber, IsPlace, IsOutcome, IsLabelOver, IsRowOver, IsSectionOver}
use Rattle.report_text.specs.Reading.{next_word, skip_word, is_next, next_line, skip_line, name_number, place_at, value_at, change_at, port_of, local_at, exit_at, outcome_at, outcomes_from, label_of, label_at, cube_at, row_at, rows_from, section_at, sections_from}
use Rattle.report_text.proofs.Options.{then, then_any, choose, weaker}
use Rattle.report_text.proofs.NameNumbers.{number_kept}

-- ---- numbers and addresses

number_kept_at : (low high v : ℕ) (a : Bool) → IfSome (cond (a && (nat_le low v && nat_le v high)) (Some v) None) (λ n. n ≤ high)
number_kept_at low high v false = tt
number_kept_at low high v true = (elim (nat_le low v) as (λ t. IfSome (cond (t && nat_le v high) (Some v) None) (λ n. n ≤ high)) [
  | false ↦ tt
  | true ↦ (elim (nat_le v high) as (λ t. nat_le v high ≡ t → IfSome (cond t (Some v) None) (λ n. n ≤ high)) [ true ↦ λ e. leb-true v high e | false ↦ λ e. tt ]) refl
])

number_of_kept : (low high : ℕ) (w : List ℕ) → IfSome (number_of low high w) (λ n. n ≤ high)
number_of_kept low high w = number_kept_at low high (digits_value 10 w) (is_numeral w)

port_kept : (w : List ℕ) → IfSome (port_of w) (λ n. n < 2 ^ 16)
port_kept w = weaker (port_of w) (λ n. n ≤ 65535) (λ n. n < 2 ^ 16) (λ n h. omega (arith, h)) (number_of_kept 0 65535 w)

octet_kept : (w : List ℕ) → IfSome (octet_of w) (λ n. n ≤ 255)
octet_kept w = choose (nat_lt 3 (length w)) None (number_of 0 255 w) (λ n. n ≤ 255) tt (number_of_kept 0 255 w)

four_some : (a b c d : Option ℕ) → IfSome a (λ n. n ≤ 255) → IfSome b (λ n. n ≤ 255) → IfSome c (λ n. n ≤ 255) → IfSome d (λ n. n ≤ 255) → IfSome (of_four (a ∷ b ∷ c ∷ d ∷ [])) (λ n. n < 2 ^ 32)
four_some None b c d h i j k = tt
four_some (Some x) None c d h i j k = tt
four_some (Some x) (Some y) None d h i j k = tt
four_some (Some x) (Some y) (Some z) None h i j k = tt
four_some (Some x) (Some y) (Some z) (Some u) h i j k = omega (arith, h, i, j, k)

five_none : (a b c d e : Option ℕ) (os : List (Option ℕ)) → of_four (a ∷ b ∷ c ∷ d ∷ e ∷ os) ≡ None
five_none None b c d e os = refl
five_none (Some x) None c d e os = refl
five_none (Some x) (Some y) None d e os = refl
five_none (Some x) (Some y) (Some z) None e os = refl
five_none (Some x) (Some y) (Some z) (Some u) e os = refl

few_none : (a b c : Option ℕ) → (of_four (a ∷ []) ≡ None) × (of_four (a ∷ b ∷ []) ≡ None) × (of_four (a ∷ b ∷ c ∷ []) ≡ None)
few_none None b c = (refl, refl, refl)
few_none (Some x) None c = (refl, refl, refl)
few_none (Some x) (Some y) None = (refl, refl, refl)
few_none (Some x) (Some y) (Some z) = (refl, refl, refl)

none_kept : {A : Type 0} (o : Option A) (P : A → Type 0) → o ≡ None → IfSome o P
none_kept None P e = tt
none_kept (Some x) P e = absurd (cc)

parts_kept : (ps : List (List ℕ)) → IfSome (of_four (map octet_of ps)) (λ n. n < 2 ^ 32)
parts_kept [] = tt
parts_kept (p ∷ []) = none_kept (of_four (octet_of p ∷ [])) (λ n. n < 2 ^ 32) (few_none (octet_of p) None None).0
parts_kept (p ∷ q ∷ []) = none_kept (of_four (octet_of p ∷ octet_of q ∷ [])) (λ n. n < 2 ^ 32) (few_none (octet_of p) (octet_of q) None).1
parts_kept (p ∷ q ∷ r ∷ []) = none_kept (of_four (octet_of p ∷ octet_of q ∷ octet_of r ∷ [])) (λ n. n < 2 ^ 32) (few_none (octet_of p) (octet_of q) (octet_of r)).2
parts_kept (p ∷ q ∷ r ∷ s ∷ []) = four_some (octet_of p) (octet_of q) (octet_of r) (octet_of s) (octet_kept p) (octet_kept q) (octet_kept r) (octet_kept s)
parts_kept (p ∷ q ∷ r ∷ s ∷ t ∷ ps) = none_kept (of_four (map octet_of (p ∷ q ∷ r ∷ s ∷ t ∷ ps))) (λ n. n < 2 ^ 32) (five_none (octet_of p) (octet_of q) (octet_of r) (octet_of s) (octet_of t) (map octet_of ps))

address_kept : (w : List ℕ) → IfSome (address_of w) (λ n. n < 2 ^ 32)
address_kept w = parts_kept (slice_split is_dot w)

-- ---- outcomes

place_kept : (texts : List (List ℕ)) (bytes : List ℕ) → IfSome (place_at texts bytes) (λ x. IsPlace texts x.0)
unfolding place_at
place_kept texts bytes = then (name_number texts (next_word bytes)) _ (IsNumber texts) _ (number_kept texts (next_word bytes))
    (λ d h. then (name_number texts (next_word (skip_word bytes))) _ (IsNumber texts) _ (number_kept texts (next_word (skip_word bytes))) (λ i g. (h, g)))

value_kept : (value : List ℕ → Option ℕ) (P : ℕ → Type 0) → ((w : List ℕ) → IfSome (value w) P) → (bytes : List ℕ) → IfSome (value_at value bytes) (λ x. IfSome x.0 P)
unfolding value_at
value_kept value P h bytes = go (value (next_word bytes)) (h (next_word bytes))
  where
    go : (o : Option ℕ) → IfSome o P → IfSome {T = Option ℕ × List ℕ} (option_map (λ x. (Some x, skip_word bytes)) o) (λ x. IfSome x.0 P)
    go None g = tt
    go (Some x) g = g

change_kept : (name : List ℕ) (value : List ℕ → Option ℕ) (P : ℕ → Type 0) → ((w : List ℕ) → IfSome (value w) P) → (bytes : List ℕ) → IfSome (change_at name value bytes) (λ x. IfSome x.0 P)
unfolding change_at
change_kept name value P h bytes = choose (is_next name bytes) (value_at value (skip_word bytes)) (Some (None, bytes)) (λ x. IfSome x.0 P) (value_kept value P h (skip_word bytes)) tt

local_kept : (texts : List (List ℕ)) (bytes : List ℕ) → IfSome (local_at texts bytes) (λ x. IsOutcome texts x.0)
unfolding local_at
local_kept texts bytes = then (place_at texts bytes) _ (λ x. IsPlace texts x.0) _ (place_kept texts bytes) (λ x h. h)

exit_kept : (texts : List (List ℕ)) (bytes : List ℕ) → IfSome (exit_at texts bytes) (λ x. IsOutcome texts x.0)
unfolding exit_at
exit_kept texts bytes =
    let A : ℕ → Type 0 = λ n. n < 2 ^ 32 in
    let N : ℕ → Type 0 = λ n. n < 2 ^ 16 in
    then (place_at texts bytes) _ (λ x. IsPlace texts x.0) _ (place_kept texts bytes)
    (λ p h. then (change_at (codes "src") address_of p.1) _ (λ x. IfSome x.0 A) _ (change_kept (codes "src") address_of A address_kept p.1)
    (λ a ha. then (change_at (codes "dst") address_of a.1) _ (λ x. IfSome x.0 A) _ (change_kept (codes "dst") address_of A address_kept a.1)
    (λ b hb. then (change_at (codes "sport") port_of b.1) _ (λ x. IfSome x.0 N) _ (change_kept (codes "sport") port_of N port_kept b.1)
    (λ c hc. then (change_at (codes "dport") port_of c.1) _ (λ x. IfSome x.0 N) _ (change_kept (codes "dport") port_of N port_kept c.1)
    (λ d hd. (h, ha, hb, hc, hd))))))

outcome_kept : (texts : List (List ℕ)) (bytes : List ℕ) → IfSome (outcome_at texts bytes) (λ x. IsOutcome texts x.0)
unfolding outcome_at
outcome_kept texts bytes =
    let P : Outcome × List ℕ → Type 0 = λ x. IsOutcome texts x.0 in
    choose (is_next (codes "drop") bytes) _ _ P tt
    (choose (is_next (codes "expired") bytes) _ _ P tt
    (choose (is_next (codes "local") bytes) _ _ P (local_kept texts (skip_word bytes))
    (choose (is_next (codes "exit") bytes) _ _ P (exit_kept texts (skip_word bytes)) tt)))

-- ---- lists

all_more : {A : Type 0} (P : A → Type 0) (xs : List A) (x : A) → AllByRecursion P xs → P x → AllByRecursion P (xs ++ x ∷ [])
all_more P [] x h p = (p, tt)
all_more P (y ∷ ys) x h p = (h.0, all_more P ys x h.1 p)

outcomes_kept : (texts : List (List ℕ)) (n : ℕ) (found : List Outcome) (bytes : List ℕ) → AllByRecursion (IsOutcome texts) found → IfSome (outcomes_from texts n found bytes) (AllByRecursion (IsOutcome texts))
unfolding outcomes_from
outcomes_kept texts zero found bytes h = h
outcomes_kept texts (suc n) found [] h = h
outcomes_kept texts (suc n) found (b ∷ bytes) h = then (outcome_at texts (b ∷ bytes)) _ (λ x. IsOutcome texts x.0) _ (outcome_kept texts (b ∷ bytes))
    (λ x p. outcomes_kept texts n (found ++ x.0 ∷ []) (skip_word x.1) (all_more (IsOutcome texts) found x.0 h p))

all_put : (P : Outcome → Type 0) (o : Outcome) (os : List Outcome) → P o → AllByRecursion P os → AllByRecursion P (put_in_order outcome_cmp o os)
all_put P o [] p h = (p, tt)
all_put P o (x ∷ os) p h = elim (outcome_cmp o x) as (λ r. AllByRecursion P (elim r as (λ _. List Outcome) [ Less ↦ o ∷ x ∷ os | Equal ↦ x ∷ os | Greater ↦ x ∷ put_in_order outcome_cmp o os ])) [
  | Less ↦ (p, h)
  | Equal ↦ h
  | Greater ↦ (h.0, all_put P o os p h.1)
]

all_in_order : (P : Outcome → Type 0) (os : List Outcome) → AllByRecursion P os → AllByRecursion P (in_order outcome_cmp os)
all_in_order P [] h = tt
all_in_order P (o ∷ os) h = all_put P o (in_order outcome_cmp os) h.0 (all_in_order P os h.1)

label_of_kept : (texts : List (List ℕ)) (os : List Outcome) → AllByRecursion (IsOutcome texts) os → IfSome (label_of os) (IsLabelOver texts)
label_of_kept texts [] h = tt
label_of_kept texts (o ∷ os) h =
    (record { order = in_order_sorted outcome_cmp total exact (o ∷ os); some = in_order_some outcome_cmp total exact (o ∷ os) (λ e. cc) }, all_in_order (IsOutcome texts) (o ∷ os) h)

label_kept : (texts : List (List ℕ)) (line : List ℕ) → IfSome (label_at texts line) (IsLabelOver texts)
unfolding label_at
label_kept texts line = then (outcomes_from texts (length line) [] (skip_word line)) label_of (AllByRecursion (IsOutcome texts)) (IsLabelOver texts) (outcomes_kept texts (length line) [] (skip_word line) tt) (label_of_kept texts)

row_kept : (texts : List (List ℕ)) (bytes : List ℕ) → IfSome (row_at texts bytes) (λ x. IsRowOver texts x.0)
unfolding row_at
row_kept texts bytes = then_any (cube_at (next_line bytes)) _ _
    (λ c. then (label_at texts (next_line (skip_line bytes))) _ (IsLabelOver texts) _ (label_kept texts (next_line (skip_line bytes)))
    (λ o h. then (label_at texts (next_line (skip_line (skip_line bytes)))) _ (IsLabelOver texts) _ (label_kept texts (next_line (skip_line (skip_line bytes)))) (λ n g. (h, g))))

rows_kept : (texts : List (List ℕ)) (n : ℕ) (found : List Row) (bytes : List ℕ) → AllByRecursion (IsRowOver texts) found → IfSome (rows_from texts n found bytes) (λ x. AllByRecursion (IsRowOver texts) x.0)
unfolding rows_from
rows_kept texts zero found bytes h = h
rows_kept texts (suc n) found bytes h = choose (is_next (codes "dst") bytes) _ (Some (found, bytes)) (λ x. AllByRecursion (IsRowOver texts) x.0)
    (then (row_at texts bytes) _ (λ x. IsRowOver texts x.0) _ (row_kept texts bytes) (λ x p. rows_kept texts n (found ++ x.0 ∷ []) x.1 (all_more (IsRowOver texts) found x.0 h p))) h

section_kept : (texts : List (List ℕ)) (bytes : List ℕ) → IfSome (section_at texts bytes) (λ x. IsSectionOver texts x.0)
unfolding section_at
section_kept texts bytes = then (place_at texts (skip_word (next_line bytes))) _ (λ x. IsPlace texts x.0) _ (place_kept texts (skip_word (next_line bytes)))
    (λ p h. then (rows_from texts (length bytes) [] (skip_line bytes)) _ (λ x. AllByRecursion (IsRowOver texts) x.0) _ (rows_kept texts (length bytes) [] (skip_line bytes) tt) (λ r g. (h, g)))

pub sections_kept : (texts : List (List ℕ)) (n : ℕ) (found : List Section) (bytes : List ℕ) → AllByRecursion (IsSectionOver texts) found → IfSome (sections_from texts n found bytes) (AllByRecursion (IsSectionOver texts))
unfolding sections_from
sections_kept texts zero found bytes h = h
sections_kept texts (suc n) found bytes h = choose (is_next (codes "ingress") bytes) _ (Some found) (AllByRecursion (IsSectionOver texts))
    (then (section_at texts bytes) _ (λ x. IsSectionOver texts x.0) _ (section_kept texts bytes) (λ x p. sections_kept texts n (found ++ x.0 ∷ []) x.1 (all_more (IsSectionOver texts) found x.0 h p))) h
