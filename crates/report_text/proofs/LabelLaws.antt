-- A label is read as it is written.
use Rattle.std.proofs.Common.{◌≡◌, ℕ, zero, suc, ◌^◌, ◌<◌, ◌≤◌, false, List, [], ◌∷◌, ◌++◌, length, length-append, flat_map, refl, sym, ap, ◌∙◌, append_assoc, arith}
use Rattle.std.specs.Prelude.{Option, Some, None, decimal, codes, IfSome}
use Rattle.std.specs.List.{AllByRecursion}
use Rattle.std.specs.Str.{bytes_eq}
use Rattle.ios_words.specs.Words.{address_of}
use Rattle.net_types.specs.Order.{in_order, outcome_cmp, IsLabel}
use Rattle.net_types.specs.declared.label.Outcome.{Outcome}
use Rattle.net_types.specs.declared.label.Outcome.TheVariants.{Dropped, Expired, Local, Exit}
use Rattle.net_types.specs.declared.network.Names.{Names}
use Rattle.net_types.specs.declared.network.Place.{Place}
use Rattle.net_types.proofs.Ordered.{is_in_order}
use Rattle.net_types.proofs.Outcomes.{total, exact}
use Rattle.report_text.specs.FieldText.{address_text}
use Rattle.report_text.specs.ReportText.{place_text, change_text, outcome_text, label_text}
use Rattle.report_text.specs.Reports.{AreNames, IsPlace, IsOutcome, IsLabelOver}
use Rattle.report_text.specs.Reading.{skip_word, is_next, value_at, change_at, port_of, local_at, exit_at, outcome_at, outcomes_from, label_at}
use Rattle.report_text.proofs.Options.{step}
use Rattle.report_text.proofs.Cuts.{has, next_back, skip_back, Tail, after}
use Rattle.report_text.proofs.Numerals.{number_back, number_plain, has_both, address_back, address_plain}
use Rattle.report_text.proofs.NameNumbers.{place_back, place_plain}
use Rattle.report_text.proofs.Steps.{outcomes_done}

-- ---- changed fields

address_value : (a : ℕ) (t : List ℕ) → a < 2 ^ 32 → Tail 32 t → value_at address_of (address_text a ++ t) ≡ Some (Some a, after t)
unfolding value_at
address_value a t h e =
    let p = address_plain 32 a refl refl h in
    rw (next_back (address_text a) t p e, skip_back (address_text a) t p e, address_back a h) refl

port_value : (n : ℕ) (t : List ℕ) → n < 2 ^ 16 → Tail 32 t → value_at port_of (decimal n ++ t) ≡ Some (Some n, after t)
unfolding value_at
port_value n t h e =
    let p = number_plain 32 n refl (omega (arith, h)) in
    rw (next_back (decimal n) t p e, skip_back (decimal n) t p e, number_back 0 65535 n (omega (arith, h)) (omega arith) (omega (arith, h))) refl

src_back : (v : Option ℕ) (t : List ℕ) → IfSome v (λ a. a < 2 ^ 32) → Tail 32 t → is_next (codes "src") (after t) ≡ false → change_at (codes "src") address_of (after (change_text (codes " src ") address_text v ++ t)) ≡ Some (v, after t)
unfolding change_at
src_back None t h e n = rw n refl
src_back (Some a) t h e n = address_value a t h e

dst_back : (v : Option ℕ) (t : List ℕ) → IfSome v (λ a. a < 2 ^ 32) → Tail 32 t → is_next (codes "dst") (after t) ≡ false → change_at (codes "dst") address_of (after (change_text (codes " dst ") address_text v ++ t)) ≡ Some (v, after t)
unfolding change_at
dst_back None t h e n = rw n refl
dst_back (Some a) t h e n = address_value a t h e

sport_back : (v : Option ℕ) (t : List ℕ) → IfSome v (λ n. n < 2 ^ 16) → Tail 32 t → is_next (codes "sport") (after t) ≡ false → change_at (codes "sport") port_of (after (change_text (codes " sport ") decimal v ++ t)) ≡ Some (v, after t)
unfolding change_at
sport_back None t h e n = rw n refl
sport_back (Some a) t h e n = port_value a t h e

dport_back : (v : Option ℕ) (t : List ℕ) → IfSome v (λ n. n < 2 ^ 16) → Tail 32 t → is_next (codes "dport") (after t) ≡ false → change_at (codes "dport") port_of (after (change_text (codes " dport ") decimal v ++ t)) ≡ Some (v, after t)
unfolding change_at
dport_back None t h e n = rw n refl
dport_back (Some a) t h e n = port_value a t h e

-- a change is nothing or begins with a blank, and its name is no other one
change_tail : (name : List ℕ) (text : ℕ → List ℕ) (v : Option ℕ) (t : List ℕ) → Tail 32 t → Tail 32 (change_text (32 ∷ name) text v ++ t)
change_tail name text None t e = e
change_tail name text (Some a) t e = refl

other_change : (word name : List ℕ) (text : ℕ → List ℕ) (v : Option ℕ) (t : List ℕ) → is_next word (after t) ≡ false → ((x : List ℕ) → is_next word (name ++ x) ≡ false) → is_next word (after (change_text (32 ∷ name) text v ++ t)) ≡ false
other_change word name text None t n h = n
other_change word name text (Some a) t n h = ap (is_next word) (append_assoc name (text a) t) ∙ h (text a ++ t)

-- ---- outcomes, with those behind them

-- the other outcomes of a label
abbrev pub others : Names → List Outcome → List ℕ
others names os = flat_map (λ y. codes " | " ++ outcome_text names y) os

others_tail : (names : Names) (os : List Outcome) → Tail 32 (others names os)
others_tail names [] = tt
others_tail names (y ∷ ys) = refl

no_change : (names : Names) (os : List Outcome) (word : List ℕ) → bytes_eq [] word ≡ false → bytes_eq (codes "|") word ≡ false → is_next word (after (others names os)) ≡ false
no_change names [] word h g = h
no_change names (y ∷ ys) word h g = g

regroup : (p a b c d t : List ℕ) → p ++ a ++ b ++ c ++ d ++ t ≡ p ++ (a ++ (b ++ (c ++ (d ++ t))))
regroup p a b c d t = simp append_assoc

-- the text of an exit behind its first word, with those behind it
exit_text : Names → Place → Option ℕ → Option ℕ → Option ℕ → Option ℕ → List ℕ → List ℕ
exit_text names p src dst sport dport t =
    place_text names p ++ (change_text (codes " src ") address_text src ++ (change_text (codes " dst ") address_text dst ++ (change_text (codes " sport ") decimal sport ++ (change_text (codes " dport ") decimal dport ++ t))))

exit_back : (names : Names) (p : Place) (src dst sport dport : Option ℕ) (os : List Outcome) → AreNames names.texts → IsOutcome names.texts (Exit p src dst sport dport)
    → exit_at names.texts (exit_text names p src dst sport dport (others names os)) ≡ Some (Exit p src dst sport dport, after (others names os))
unfolding exit_at exit_text
exit_back names p src dst sport dport os a h =
    let t = others names os in
    let t4 = change_text (codes " dport ") decimal dport ++ t in
    let t3 = change_text (codes " sport ") decimal sport ++ t4 in
    let t2 = change_text (codes " dst ") address_text dst ++ t3 in
    let t1 = change_text (codes " src ") address_text src ++ t2 in
    let e = others_tail names os in
    let e4 = change_tail (codes "dport ") decimal dport t e in
    let e3 = change_tail (codes "sport ") decimal sport t4 e4 in
    let e2 = change_tail (codes "dst ") address_text dst t3 e3 in
    let e1 = change_tail (codes "src ") address_text src t2 e2 in
    let n4 = no_change names os (codes "dport") refl refl in
    let n3 = other_change (codes "sport") (codes "dport ") decimal dport t (no_change names os (codes "sport") refl refl) (λ x. refl) in
    let n2 = other_change (codes "dst") (codes "sport ") decimal sport t4 (other_change (codes "dst") (codes "dport ") decimal dport t (no_change names os (codes "dst") refl refl) (λ x. refl)) (λ x. refl) in
    let n1 = other_change (codes "src") (codes "dst ") address_text dst t3 (other_change (codes "src") (codes "sport ") decimal sport t4 (other_change (codes "src") (codes "dport ") decimal dport t (no_change names os (codes "src") refl refl) (λ x. refl)) (λ x. refl)) (λ x. refl) in
    step _ _ _ _ (place_back names p t1 a h.0 e1)
    (step _ _ _ _ (src_back src t2 h.1 e2 n1)
    (step _ _ _ _ (dst_back dst t3 h.2 e3 n2)
    (step _ _ _ _ (sport_back sport t4 h.3 e4 n3)
    (step _ _ _ _ (dport_back dport t h.4 e n4) refl))))

local_back : (names : Names) (p : Place) (t : List ℕ) → AreNames names.texts → IsPlace names.texts p → Tail 32 t → local_at names.texts (place_text names p ++ t) ≡ Some (Local p, after t)
unfolding local_at
local_back names p t a h e = step _ _ _ _ (place_back names p t a h e) refl

outcome_back : (names : Names) (o : Outcome) (os : List Outcome) → AreNames names.texts → IsOutcome names.texts o → outcome_at names.texts (outcome_text names o ++ others names os) ≡ Some (o, after (others names os))
unfolding outcome_at outcome_text exit_text
outcome_back names Dropped [] a h = refl
outcome_back names Dropped (y ∷ ys) a h = refl
outcome_back names Expired [] a h = refl
outcome_back names Expired (y ∷ ys) a h = refl
outcome_back names (Local p) os a h = local_back names p (others names os) a h (others_tail names os)
outcome_back names (Exit p src dst sport dport) os a h =
    ap (exit_at names.texts) (regroup (place_text names p) (change_text (codes " src ") address_text src) (change_text (codes " dst ") address_text dst) (change_text (codes " sport ") decimal sport) (change_text (codes " dport ") decimal dport) (others names os))
    ∙ exit_back names p src dst sport dport os a h

some_text : (names : Names) (o : Outcome) (t : List ℕ) → outcome_text names o ++ t ≡ [] → ⊥
unfolding outcome_text
some_text names Dropped t e = cc
some_text names Expired t e = cc
some_text names (Local p) t e = cc
some_text names (Exit p src dst sport dport) t e = cc

next_outcome : (texts : List (List ℕ)) (n : ℕ) (found : List Outcome) (bytes : List ℕ) (o : Outcome) (rest : List ℕ) → (bytes ≡ [] → ⊥) → outcome_at texts bytes ≡ Some (o, rest) → outcomes_from texts (suc n) found bytes ≡ outcomes_from texts n (found ++ o ∷ []) (skip_word rest)
unfolding outcomes_from
next_outcome texts n found [] o rest some e = absurd (some refl)
next_outcome texts n found (b ∷ bytes) o rest some e = rw e refl

outcomes_back : (names : Names) (os : List Outcome) (o : Outcome) (found : List Outcome) (n : ℕ) → AreNames names.texts → AllByRecursion (IsOutcome names.texts) (o ∷ os) → length os < n
    → outcomes_from names.texts n found (outcome_text names o ++ others names os) ≡ Some (found ++ o ∷ os)
outcomes_back names os o found zero a h l = absurd (omega (arith, l))
outcomes_back names [] o found (suc n) a h l =
    next_outcome names.texts n found (outcome_text names o ++ []) o [] (some_text names o []) (outcome_back names o [] a h.0)
    ∙ outcomes_done names.texts n (found ++ o ∷ []) [] refl
outcomes_back names (y ∷ ys) o found (suc n) a h l =
    next_outcome names.texts n found (outcome_text names o ++ others names (y ∷ ys)) o (after (others names (y ∷ ys))) (some_text names o (others names (y ∷ ys))) (outcome_back names o (y ∷ ys) a h.0)
    ∙ outcomes_back names ys y (found ++ o ∷ []) n a h.1 (omega (arith, l))
    ∙ ap Some (append_assoc found (o ∷ []) (y ∷ ys))

-- ---- labels

others_size : (names : Names) (os : List Outcome) → length os ≤ length (others names os)
others_size names [] = omega arith
others_size names (y ∷ ys) = rw (length-append (codes " | " ++ outcome_text names y) (others names ys)) (omega (arith, others_size names ys))

sorted_is : (os : List Outcome) → IsLabel os → in_order outcome_cmp os ≡ os
sorted_is os h = sym (is_in_order outcome_cmp total exact os os h.order (λ q. (λ x. x, λ x. x)))

-- a line of a word and a label
pub label_back : (names : Names) (os : List Outcome) (line : List ℕ) → AreNames names.texts → IsLabelOver names.texts os → skip_word line ≡ label_text names os → length (label_text names os) < length line → label_at names.texts line ≡ Some os
unfolding label_at
label_back names [] line a h s l = absurd (h.0.some refl)
label_back names (o ∷ os) line a h s l =
    let size : length os < length line = omega (arith, l, others_size names os, length-append (outcome_text names o) (others names os)) in
    rw s (step _ _ _ _ (outcomes_back names os o [] (length line) a h.1 size) (ap Some (sorted_is (o ∷ os) h.0)))

-- a label has no line end
address_change : (name : List ℕ) (v : Option ℕ) → has 10 name ≡ false → IfSome v (λ a. a < 2 ^ 32) → has 10 (change_text name address_text v) ≡ false
address_change name None h g = refl
address_change name (Some a) h g = has_both 10 name (address_text a) h (address_plain 10 a refl refl g)

port_change : (name : List ℕ) (v : Option ℕ) → has 10 name ≡ false → IfSome v (λ n. n < 2 ^ 16) → has 10 (change_text name decimal v) ≡ false
port_change name None h g = refl
port_change name (Some n) h g = has_both 10 name (decimal n) h (number_plain 10 n refl (omega (arith, g)))

outcome_plain : (names : Names) (o : Outcome) → AreNames names.texts → IsOutcome names.texts o → has 10 (outcome_text names o) ≡ false
unfolding outcome_text
outcome_plain names Dropped a h = refl
outcome_plain names Expired a h = refl
outcome_plain names (Local p) a h = place_plain names p a h
outcome_plain names (Exit p src dst sport dport) a h =
    has_both 10 (codes "exit " ++ place_text names p ++ change_text (codes " src ") address_text src ++ change_text (codes " dst ") address_text dst ++ change_text (codes " sport ") decimal sport) (change_text (codes " dport ") decimal dport)
    (has_both 10 (codes "exit " ++ place_text names p ++ change_text (codes " src ") address_text src ++ change_text (codes " dst ") address_text dst) (change_text (codes " sport ") decimal sport)
    (has_both 10 (codes "exit " ++ place_text names p ++ change_text (codes " src ") address_text src) (change_text (codes " dst ") address_text dst)
    (has_both 10 (codes "exit " ++ place_text names p) (change_text (codes " src ") address_text src) (place_plain names p a h.0)
    (address_change (codes " src ") src refl h.1)) (address_change (codes " dst ") dst refl h.2)) (port_change (codes " sport ") sport refl h.3)) (port_change (codes " dport ") dport refl h.4)

others_plain : (names : Names) (os : List Outcome) → AreNames names.texts → AllByRecursion (IsOutcome names.texts) os → has 10 (others names os) ≡ false
others_plain names [] a h = refl
others_plain names (y ∷ ys) a h = has_both 10 (outcome_text names y) (others names ys) (outcome_plain names y a h.0) (others_plain names ys a h.1)

pub label_plain : (names : Names) (os : List Outcome) → AreNames names.texts → AllByRecursion (IsOutcome names.texts) os → has 10 (label_text names os) ≡ false
label_plain names [] a h = refl
label_plain names (o ∷ os) a h = has_both 10 (outcome_text names o) (others names os) (outcome_plain names o a h.0) (others_plain names os a h.1)
