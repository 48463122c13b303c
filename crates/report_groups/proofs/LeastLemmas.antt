-- The least header of a group is one of the group's headers, and has the smallest number of them.
use Rattle.std.proofs.Common.{◌≡◌, ℕ, zero, suc, ◌+◌, ◌*◌, ◌/◌, ◌%◌, ◌^◌, ◌-◌, ◌<◌, ◌≤◌, Bool, true, false, ◌&&◌, ◌||◌, ◌==◌, List, [], ◌∷◌, ◌++◌, length, map, fold, min, inl, inr, refl, sym, ap, ◌∙◌, subst, arith}
use Rattle.std.specs.Prelude.{◌⊎◌, All, Contains, IsPermutation, bit_and, flat_map}
use Rattle.std.specs.List.{AllByRecursion, list_any, slice_index_or}
use Rattle.std.proofs.lemmas.List.{length-map}
use Rattle.std.proofs.lemmas.Bool.{cases_lt, eqb-true, eq-eqb}
use Rattle.std.proofs.lemmas.Nat.{and_le_l, and_assoc, and_comm, and_mask}
use Rattle.std.specs.Int.Bits.{and_self}
use Rattle.std.proofs.lemmas.List.Sorted.{Contains-permutation, IsPermutation-sym}
use Rattle.std.proofs.Math.Nat.{mod-eq_of_lt, mod-le}
use lib.Bits.{and_shr}
use Rattle.hdr_bits.specs.declared.header.Header.{Header}
use Rattle.hdr_bits.specs.HeaderBits.{IsHeader, header_of, number}
use Rattle.hdr_bits.proofs.Numbers.{header_of-is_header}
use Rattle.net_types.specs.declared.network.Row.{Row}
use Rattle.report_groups.specs.declared.types.Entry.{Entry}
use Rattle.report_groups.specs.declared.types.Group.{Group}
use Rattle.report_groups.specs.declared.types.Pattern.{Pattern}
use Rattle.report_groups.specs.Entries.{AreEntries}
use Rattle.report_groups.specs.Groups.{Cell, HasFields, HasRows, cell_of, cells_of, choices, patterns_of}
use Rattle.report_groups.specs.Least.{IsLeast, least_of, least_value}
use Rattle.report_groups.specs.Meaning.{each_matches_some, fields_of, is_in_group}
use Rattle.report_groups.specs.Values.{matches}

-- ---- members of lists

abbrev In : {A : Type 0} → List A → A → Type 0
In [] x = ⊥
In (y ∷ ys) x = (y ≡ x) ⊎ In ys x

contained : {A : Type 0} (xs : List A) (x : A) → In xs x → Contains xs x
contained [] x h = absurd h
contained (y ∷ ys) x (inl e) = (0, omega arith, e)
contained (y ∷ ys) x (inr h) = let r = contained ys x h in (suc r.0, omega (arith, r.1), r.2)

member : {A : Type 0} (xs : List A) (k : ℕ) (x : A) → k < length xs → slice_index_or xs k x ≡ x → In xs x
member [] k x h e = absurd (omega (arith, h))
member (y ∷ ys) zero x h e = inl e
member (y ∷ ys) (suc k) x h e = inr (member ys k x (omega (arith, h)) e)

at_index : {A : Type 0} (xs : List A) (k : ℕ) (d : A) → k < length xs → In xs (slice_index_or xs k d)
at_index [] k d h = absurd (omega (arith, h))
at_index (y ∷ ys) zero d h = inl refl
at_index (y ∷ ys) (suc k) d h = inr (at_index ys k d (omega (arith, h)))

in_left : {A : Type 0} (xs ys : List A) (x : A) → In xs x → In (xs ++ ys) x
in_left [] ys x h = absurd h
in_left (y ∷ xs) ys x (inl e) = inl e
in_left (y ∷ xs) ys x (inr h) = inr (in_left xs ys x h)

in_right : {A : Type 0} (xs ys : List A) (x : A) → In ys x → In (xs ++ ys) x
in_right [] ys x h = h
in_right (y ∷ xs) ys x h = inr (in_right xs ys x h)

in_map : {A B : Type 0} (f : A → B) (xs : List A) (x : A) → In xs x → In (map f xs) (f x)
in_map f [] x h = absurd h
in_map f (y ∷ xs) x (inl e) = inl (ap f e)
in_map f (y ∷ xs) x (inr h) = inr (in_map f xs x h)

from_map : {A B : Type 0} (f : A → B) (xs : List A) (y : B) → In (map f xs) y → (x : A) × (f x ≡ y)
from_map f [] y h = absurd h
from_map f (x ∷ xs) y (inl e) = (x, e)
from_map f (x ∷ xs) y (inr h) = from_map f xs y h

in_flat : {A B : Type 0} (f : A → List B) (xs : List A) (x : A) (y : B) → In xs x → In (f x) y → In (flat_map f xs) y
in_flat f [] x y h k = absurd h
in_flat f (z ∷ xs) x y (inl e) k = in_left (f z) (flat_map f xs) y (subst (λ w. In (f w) y) (sym e) k)
in_flat f (z ∷ xs) x y (inr h) k = in_right (f z) (flat_map f xs) y (in_flat f xs x y h k)

at_each : {A : Type 0} (P : A → Type 0) (xs : List A) (x : A) → AllByRecursion P xs → In xs x → P x
at_each P [] x a h = absurd h
at_each P (y ∷ ys) x a (inl e) = subst P e a.0
at_each P (y ∷ ys) x a (inr h) = at_each P ys x a.1 h

any_member : {A : Type 0} (p : A → Bool) (xs : List A) (x : A) → In xs x → p x ≡ true → list_any p xs ≡ true
any_member p [] x h e = absurd h
any_member p (y ∷ ys) x (inl k) e = ap (λ t. t || list_any p ys) (subst (λ z. p z ≡ true) (sym k) e)
any_member p (y ∷ ys) x (inr h) e = ap (λ t. p y || t) (any_member p ys x h e) ∙ or_true (p y)
  where
    or_true : (b : Bool) → (b || true) ≡ true
    or_true true = refl
    or_true false = refl

-- ---- the least digits of patterns

abbrev least_from : ℕ → List Pattern → ℕ
least_from m ps = fold (λ least q. min least q.bits) m ps

low : (m : ℕ) (ps : List Pattern) → least_from m ps ≤ m
low m [] = omega arith
low m (q ∷ ps) = let h = low (min m q.bits) ps in omega (arith, h)

matched : (v : ℕ) (p : Pattern) → matches v p ≡ true → p.bits ≤ v
matched v p h = let e = eqb-true (bit_and v p.fixed) p.bits h in let l = and_le_l v p.fixed in omega (arith, e, l)

below : (v m : ℕ) (ps : List Pattern) → list_any (matches v) ps ≡ true → least_from m ps ≤ v
below v m [] h = absurd (clash h)
  where
    clash : false ≡ true → ⊥
    clash e = cc
below v m (q ∷ ps) h = go (matches v q) refl h (below v (min m q.bits) ps)
  where
    go : (t : Bool) → matches v q ≡ t → (t || list_any (matches v) ps) ≡ true → (list_any (matches v) ps ≡ true → least_from (min m q.bits) ps ≤ v) → least_from (min m q.bits) ps ≤ v
    go true e k rest = let a = low (min m q.bits) ps in let b = matched v q e in omega (arith, a, b)
    go false e k rest = rest k

-- it is no more than any value that the patterns hold
least_below : (v : ℕ) (ps : List Pattern) → list_any (matches v) ps ≡ true → least_value ps ≤ v
least_below v [] h = omega arith
least_below v (p ∷ ps) h = go (matches v p) refl h
  where
    go : (t : Bool) → matches v p ≡ t → (t || list_any (matches v) ps) ≡ true → least_from p.bits ps ≤ v
    go true e k = let a = low p.bits ps in let b = matched v p e in omega (arith, a, b)
    go false e k = below v p.bits ps k

-- a pattern whose digits are the least
record Taken (ps : List Pattern) (m : ℕ) : Type 0 where
  pattern : Pattern
  inside : In ps pattern
  digits : m ≡ pattern.bits

taken : (m : ℕ) (ps : List Pattern) → (least_from m ps ≡ m) ⊎ Taken ps (least_from m ps)
taken m [] = inl refl
taken m (q ∷ ps) = go (taken (min m q.bits) ps) (cases_lt m q.bits)
  where
    go : (least_from (min m q.bits) ps ≡ min m q.bits) ⊎ Taken ps (least_from (min m q.bits) ps) → (m < q.bits) ⊎ (q.bits ≤ m)
        → (least_from (min m q.bits) ps ≡ m) ⊎ Taken (q ∷ ps) (least_from (min m q.bits) ps)
    go (inr t) h = inr (record { pattern = t.pattern; inside = inr t.inside; digits = t.digits })
    go (inl e) (inl h) = inl (omega (arith, e, h))
    go (inl e) (inr h) = inr (record { pattern = q; inside = inl refl; digits = omega (arith, e, h) })

least_taken : (ps : List Pattern) → 0 < length ps → Taken ps (least_value ps)
least_taken [] h = absurd (omega (arith, h))
least_taken (p ∷ ps) h = go (taken p.bits ps)
  where
    go : (least_from p.bits ps ≡ p.bits) ⊎ Taken ps (least_from p.bits ps) → Taken (p ∷ ps) (least_from p.bits ps)
    go (inl e) = record { pattern = p; inside = inl refl; digits = e }
    go (inr t) = record { pattern = t.pattern; inside = inr t.inside; digits = t.digits }

-- ---- one pattern of each field

chosen : (xs : List Pattern) (rest : List (List Pattern)) (x : Pattern) (c : List Pattern) → In xs x → In (choices rest) c → In (choices (xs ∷ rest)) (x ∷ c)
chosen xs rest x c h k = in_flat (λ y. map (λ d. y ∷ d) (choices rest)) xs x (x ∷ c) h (in_map (λ d. x ∷ d) (choices rest) c k)

no_choices : (xs : List Pattern) → length (flat_map (λ x. map (λ (c : List Pattern). x ∷ c) []) xs) ≡ 0
no_choices [] = refl
no_choices (x ∷ xs) = no_choices xs

filled : (xs : List Pattern) (rest : List (List Pattern)) → 0 < length (choices (xs ∷ rest)) → (0 < length xs) × (0 < length (choices rest))
filled [] rest h = absurd (omega (arith, h))
filled (x ∷ xs) rest h = go (choices rest) h
  where
    go : (cs : List (List Pattern)) → 0 < length (flat_map (λ y. map (λ c. y ∷ c) cs) (x ∷ xs)) → (0 < length (x ∷ xs)) × (0 < length cs)
    go [] k = let none = no_choices (x ∷ xs) in absurd (omega (arith, none, k))
    go (c ∷ cs) k = (omega arith, omega arith)

with_six : (P : List (List Pattern) → Type 0) (fs : List (List Pattern)) → length fs ≡ 6 → ((a b c d e f : List Pattern) → P (a ∷ b ∷ c ∷ d ∷ e ∷ f ∷ [])) → P fs
with_six P [] h k = absurd (omega (arith, h))
with_six P (a ∷ []) h k = absurd (omega (arith, h))
with_six P (a ∷ b ∷ []) h k = absurd (omega (arith, h))
with_six P (a ∷ b ∷ c ∷ []) h k = absurd (omega (arith, h))
with_six P (a ∷ b ∷ c ∷ d ∷ []) h k = absurd (omega (arith, h))
with_six P (a ∷ b ∷ c ∷ d ∷ e ∷ []) h k = absurd (omega (arith, h))
with_six P (a ∷ b ∷ c ∷ d ∷ e ∷ f ∷ []) h k = k a b c d e f
with_six P (a ∷ b ∷ c ∷ d ∷ e ∷ f ∷ g ∷ fs) h k = absurd (omega (arith, h))

-- ---- the fields of a row's cube

-- digits stand at fixed bits alone, in each part too
low_digits : (x y w : ℕ) → bit_and x y ≡ x → bit_and (x % 2 ^ w) (y % 2 ^ w) ≡ x % 2 ^ w
low_digits x y w e =
    let m : ℕ = 2 ^ w - 1 in
    let a : x % 2 ^ w ≡ bit_and x m = sym (and_mask x w) in
    let b : y % 2 ^ w ≡ bit_and y m = sym (and_mask y w) in
    let swapped : bit_and m (bit_and y m) ≡ bit_and y m = ap (bit_and m) (and_comm y m) ∙ sym (and_assoc y m m) ∙ ap (λ z. bit_and z y) (and_self m) ∙ and_comm m y in
    ap (λ z. bit_and z (y % 2 ^ w)) a ∙ ap (bit_and (bit_and x m)) b
    ∙ and_assoc (bit_and y m) x m ∙ ap (bit_and x) swapped ∙ sym (and_assoc m x y) ∙ ap (λ z. bit_and z m) e ∙ sym a

part_digits : (n f k w : ℕ) → bit_and n f ≡ n → bit_and (n / 2 ^ k % 2 ^ w) (f / 2 ^ k % 2 ^ w) ≡ n / 2 ^ k % 2 ^ w
part_digits n f k w h = low_digits (n / 2 ^ k) (f / 2 ^ k) w (sym (and_shr n f k) ∙ ap (λ z. z / 2 ^ k) h)

-- a value of a field that is that of a row's cube
module _ (ps : List Pattern) (w fixed bits : ℕ) (t : Taken ps (least_value ps)) (is : t.pattern ≡ record { fixed = fixed; bits = bits }) (small : bits < 2 ^ w) (digits : bit_and bits fixed ≡ bits) where
  value : least_value ps ≡ bits
  value = t.digits ∙ ap (λ (p : Pattern). p.bits) is

  held : list_any (matches (least_value ps)) ps ≡ true
  held =
      any_member (matches (least_value ps)) ps t.pattern t.inside
      (subst (λ (p : Pattern). matches (least_value ps) p ≡ true) (sym is) (rw value (eq-eqb (bit_and bits fixed) bits digits)))

  whole : least_value ps % 2 ^ w ≡ least_value ps
  whole = let v = value in mod-eq_of_lt {n = least_value ps} {m = 2 ^ w} (omega (arith, v, small))

-- ---- six fields

all_true : (p q r s t u : Bool) → p ≡ true → q ≡ true → r ≡ true → s ≡ true → t ≡ true → u ≡ true → (p && (q && (r && (s && (t && (u && true)))))) ≡ true
all_true p q r s t u a b c d e f = rw (a, b, c, d, e, f) refl

split : (p q : Bool) → (p && q) ≡ true → (p ≡ true) × (q ≡ true)
split true true h = (refl, refl)
split true false h = absurd (cc)
split false q h = absurd (cc)

-- the header of the least values of these fields
abbrev header_from : List (List Pattern) → Header
header_from fs =
    record {
      dst = least_value (slice_index_or fs 0 []);
      src = least_value (slice_index_or fs 1 []);
      proto = least_value (slice_index_or fs 2 []) % 2 ^ 8;
      dport = least_value (slice_index_or fs 3 []) % 2 ^ 16;
      sport = least_value (slice_index_or fs 4 []) % 2 ^ 16;
      flags = least_value (slice_index_or fs 5 []) % 2 ^ 8;
    }

-- each choice of patterns is a row's cube
abbrev AreRows : List (List Pattern) → Type 0
AreRows fs = (c : List Pattern) → In (choices fs) c → (row : Row) × (patterns_of row.cube ≡ c)

record IsLeastOf (fs : List (List Pattern)) : Type 0 where
  inside : each_matches_some (fields_of (header_from fs)) fs ≡ true
  least : (i : Header) → each_matches_some (fields_of i) fs ≡ true → number (header_from fs) ≤ number i

module _ (a b c d e f : List Pattern) (some : 0 < length (choices (a ∷ b ∷ c ∷ d ∷ e ∷ f ∷ []))) (rows : AreRows (a ∷ b ∷ c ∷ d ∷ e ∷ f ∷ [])) where
  six_inside : each_matches_some (fields_of (header_from (a ∷ b ∷ c ∷ d ∷ e ∷ f ∷ []))) (a ∷ b ∷ c ∷ d ∷ e ∷ f ∷ []) ≡ true
  six_inside =
      let sa = filled a (b ∷ c ∷ d ∷ e ∷ f ∷ []) some in
      let sb = filled b (c ∷ d ∷ e ∷ f ∷ []) sa.1 in
      let sc = filled c (d ∷ e ∷ f ∷ []) sb.1 in
      let sd = filled d (e ∷ f ∷ []) sc.1 in
      let se = filled e (f ∷ []) sd.1 in
      let sf = filled f [] se.1 in
      let ta = least_taken a sa.0 in
      let tb = least_taken b sb.0 in
      let tc = least_taken c sc.0 in
      let td = least_taken d sd.0 in
      let te = least_taken e se.0 in
      let tf = least_taken f sf.0 in
      let of_f = chosen f [] tf.pattern [] tf.inside (inl refl) in
      let of_e = chosen e (f ∷ []) te.pattern (tf.pattern ∷ []) te.inside of_f in
      let of_d = chosen d (e ∷ f ∷ []) td.pattern (te.pattern ∷ tf.pattern ∷ []) td.inside of_e in
      let of_c = chosen c (d ∷ e ∷ f ∷ []) tc.pattern (td.pattern ∷ te.pattern ∷ tf.pattern ∷ []) tc.inside of_d in
      let of_b = chosen b (c ∷ d ∷ e ∷ f ∷ []) tb.pattern (tc.pattern ∷ td.pattern ∷ te.pattern ∷ tf.pattern ∷ []) tb.inside of_c in
      let of_a = chosen a (b ∷ c ∷ d ∷ e ∷ f ∷ []) ta.pattern (tb.pattern ∷ tc.pattern ∷ td.pattern ∷ te.pattern ∷ tf.pattern ∷ []) ta.inside of_b in
      let r = rows (ta.pattern ∷ tb.pattern ∷ tc.pattern ∷ td.pattern ∷ te.pattern ∷ tf.pattern ∷ []) of_a in
      let n = r.0.cube.bits in
      let m = r.0.cube.fixed in
      let digits = r.0.cube.digits in
      let is = header_of-is_header n in
      let ia = sym (ap (λ l. slice_index_or l 0 ta.pattern) r.1) in
      let ib = sym (ap (λ l. slice_index_or l 1 ta.pattern) r.1) in
      let ic = sym (ap (λ l. slice_index_or l 2 ta.pattern) r.1) in
      let id_ = sym (ap (λ l. slice_index_or l 3 ta.pattern) r.1) in
      let ie = sym (ap (λ l. slice_index_or l 4 ta.pattern) r.1) in
      let if_ = sym (ap (λ l. slice_index_or l 5 ta.pattern) r.1) in
      let ga = part_digits n m 80 32 digits in
      let gb = part_digits n m 48 32 digits in
      let gc = part_digits n m 40 8 digits in
      let gd = part_digits n m 24 16 digits in
      let ge = part_digits n m 8 16 digits in
      let gf = low_digits n m 8 digits in
      all_true _ _ _ _ _ _
      (held a 32 (header_of m).dst (header_of n).dst ta ia is.dst ga)
      (held b 32 (header_of m).src (header_of n).src tb ib is.src gb)
      (ap (λ v. list_any (matches v) c) (whole c 8 (header_of m).proto (header_of n).proto tc ic is.proto gc) ∙ held c 8 (header_of m).proto (header_of n).proto tc ic is.proto gc)
      (ap (λ v. list_any (matches v) d) (whole d 16 (header_of m).dport (header_of n).dport td id_ is.dport gd) ∙ held d 16 (header_of m).dport (header_of n).dport td id_ is.dport gd)
      (ap (λ v. list_any (matches v) e) (whole e 16 (header_of m).sport (header_of n).sport te ie is.sport ge) ∙ held e 16 (header_of m).sport (header_of n).sport te ie is.sport ge)
      (ap (λ v. list_any (matches v) f) (whole f 8 (header_of m).flags (header_of n).flags tf if_ is.flags gf) ∙ held f 8 (header_of m).flags (header_of n).flags tf if_ is.flags gf)

  six_least : (i : Header) → each_matches_some (fields_of i) (a ∷ b ∷ c ∷ d ∷ e ∷ f ∷ []) ≡ true → number (header_from (a ∷ b ∷ c ∷ d ∷ e ∷ f ∷ [])) ≤ number i
  six_least i h =
      let ha = split (list_any (matches i.dst) a) _ h in
      let hb = split (list_any (matches i.src) b) _ ha.1 in
      let hc = split (list_any (matches i.proto) c) _ hb.1 in
      let hd = split (list_any (matches i.dport) d) _ hc.1 in
      let he = split (list_any (matches i.sport) e) _ hd.1 in
      let hf = split (list_any (matches i.flags) f) _ he.1 in
      let la = least_below i.dst a ha.0 in
      let lb = least_below i.src b hb.0 in
      let lc = least_below i.proto c hc.0 in
      let ld = least_below i.dport d hd.0 in
      let le = least_below i.sport e he.0 in
      let lf = least_below i.flags f hf.0 in
      let mc = mod-le (least_value c) (2 ^ 8) in
      let md = mod-le (least_value d) (2 ^ 16) in
      let me = mod-le (least_value e) (2 ^ 16) in
      let mf = mod-le (least_value f) (2 ^ 8) in
      omega (arith, la, lb, lc, ld, le, lf, mc, md, me, mf)

  six_are : IsLeastOf (a ∷ b ∷ c ∷ d ∷ e ∷ f ∷ [])
  six_are = record { inside = six_inside; least = six_least }

-- ---- groups

module _ (rows : List Row) (groups : List Group) (same : IsPermutation (map cell_of rows) (flat_map cells_of groups)) where
  a_row : (g : Group) → In groups g → AreRows g.fields
  a_row g there c h =
      let cell : Cell = record { fields = c; old = g.old; new = g.new } in
      let inside : In (flat_map cells_of groups) cell = in_flat cells_of groups g cell there (in_map (λ (d : List Pattern). record { fields = d; old = g.old; new = g.new }) (choices g.fields) c h) in
      let k = Contains-permutation (flat_map cells_of groups) (map cell_of rows) cell (IsPermutation-sym (map cell_of rows) (flat_map cells_of groups) same) (contained (flat_map cells_of groups) cell inside) in
      let r = from_map cell_of rows cell (member (map cell_of rows) k.0 cell k.1 k.2) in
      (r.0, ap (λ (x : Cell). x.fields) r.1)

  least_in : (g : Group) → In groups g → HasRows g → HasFields g → IsLeastOf g.fields
  least_in g there has six =
      with_six (λ fs. 0 < length (choices fs) → AreRows fs → IsLeastOf fs) g.fields six six_are
      (let e = length-map {B = Cell} (choices g.fields) (λ (d : List Pattern). record { fields = d; old = g.old; new = g.new }) in omega (arith, e, has)) (a_row g there)

pub all_least : (rows : List Row) (entries : List Entry) → AreEntries rows entries → All (λ e. IsLeast e.group (least_of e.group)) entries
all_least rows entries are k d within =
    let groups = map (λ (e : Entry). e.group) entries in
    let e = slice_index_or entries k d in
    let there : In groups e.group = in_map (λ (x : Entry). x.group) entries e (at_index entries k d within) in
    let least = least_in rows groups are.groups.same e.group there (at_each HasRows groups e.group are.groups.some there) (at_each HasFields groups e.group are.groups.six there) in
    record { inside = least.inside; least = λ i is h. least.least i h }
