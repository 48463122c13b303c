-- Blocks of entries, and the sets of what they decide.
use Rattle.std.proofs.Common.{ℕ, zero, suc, ◌≡◌, ◌<◌, ◌≤◌, ◌+◌, ◌*◌, ◌/◌, ◌-◌, ◌^◌, inl, inr, Bool, true, false, cond, ◌||◌, ◌&&◌, List, [], ◌∷◌, ◌++◌, drop, length, get_or, slice_get, Some, None, refl, ap, sym, ◌∙◌, subst, arith, Vec, Global}
use Rattle.std.proofs.lemmas.Bool.{cases_lt}
use Rattle.std.proofs.lemmas.Option.{slice_get_read}
use Rattle.std.proofs.lemmas.List.{get_or_append_left, get_or_push, get_or_past, length-append}
use Rattle.hdr_bits.specs.HeaderBits.{header_of}
use Rattle.hdr_bits.specs.Rows.{AreRows}
use Rattle.cube_diagram.specs.Functions.{Functions, Keeps, GivesNothing, count_of, value_at}
use Rattle.cube_diagram.specs.Combined.{if_both}
use Rattle.net_types.specs.declared.config.Entry.{Entry}
use Rattle.net_types.specs.AccessLists.{matches, entries_verdict}
use Rattle.acl_audit.specs.declared.audited.Audited.{Audited}
use Rattle.acl_audit.specs.declared.finding.Taken.{Taken}
use Rattle.acl_audit.specs.Findings.{AreTaken, Takes, is_by}
use Rattle.acl_audit.specs.Sets.{IsAudited, IsSet, AreLevel, AreUnions, blocks_of, decided_in, is_of, passes_to, start_of}
use Rattle.acl_audit.proofs.SetLemmas.{kept_set, same_set, within_set, keeps_then}
use Rattle.acl_audit.proofs.FindingLemmas.{gathers_next, is_taken, takes_some}

-- the elements of a vector of numbers
abbrev pub items_of : Vec ℕ Global → List ℕ
items_of v = v.items

-- ---- how many blocks there are
pub blocks_few : (level n : ℕ) → blocks_of level n ≤ n
blocks_few zero n = omega arith
blocks_few (suc level) n = let b = blocks_few level n in omega (arith, b)

pub next_long : (f : Functions) (es : List Entry) (levels : List (List ℕ)) (level up : ℕ) → up ≡ suc level → AreUnions f es levels → length (get_or levels up []) ≡ length (get_or levels level []) / 2
next_long f es levels level up p u =
    subst (λ n. length (get_or levels n []) ≡ length (get_or levels level []) / 2) (sym p) (u.long (suc level) ∙ ap (λ n. n / 2) (sym (u.long level)))

pub level_few : (f : Functions) (es : List Entry) (levels : List (List ℕ)) (level : ℕ) → AreUnions f es levels → length (get_or levels level []) ≤ length es
level_few f es levels level u =
    let b = blocks_few level (length es) in
    let l = u.long level in
    omega (arith, b, l)

-- ---- what a table that grows keeps
pub level_kept : (f g : Functions) (es : List Entry) (level : ℕ) (sets : List ℕ) → Keeps f g → AreLevel f es level sets → AreLevel g es level sets
level_kept f g es level sets k s block l = kept_set f g (decided_in es level block) (get_or sets block 0) k (s block l)

pub unions_kept : (f g : Functions) (es : List Entry) (levels : List (List ℕ)) → Keeps f g → AreUnions f es levels → AreUnions g es levels
unions_kept f g es levels k u =
    record { long = u.long; sets = λ level. level_kept f g es level (get_or levels level []) k (u.sets level) }

pub audited_kept : (f g : Functions) (a : Audited) → Keeps f g → IsAudited f a → IsAudited g a
audited_kept f g a k i =
    let es = a.entries.now in
    record {
      tails = record { few = i.tails.few; each = λ n l. kept_set f g (passes_to false (drop (length es - n) es)) (get_or a.tails.now n 0) k (i.tails.each n l) };
      all = i.all;
      unions = unions_kept f g es a.unions.now k i.unions;
    }

-- ---- levels one above the other
pub record HasLevels (start now : Functions) (es : List Entry) (levels : List (List ℕ)) (top : List ℕ) : Type 0 where
  pub kept : Keeps start now
  pub long : (level : ℕ) → level < length levels → length (get_or levels level []) ≡ blocks_of level (length es)
  pub sets : (level : ℕ) → level < length levels → AreLevel now es level (get_or levels level [])
  pub top_long : length top ≡ blocks_of (length levels) (length es)
  pub top_sets : AreLevel now es (length levels) top

-- a fact of the levels below, and of the next
at_each : (P : ℕ → List ℕ → Type 0) (levels : List (List ℕ)) (top : List ℕ) → ((level : ℕ) → level < length levels → P level (get_or levels level [])) → P (length levels) top → (level : ℕ) → level < length (levels ++ top ∷ []) → P level (get_or (levels ++ top ∷ []) level [])
at_each P levels top below there level l =
    elim (cases_lt level (length levels)) [
      | inl b ↦ subst (λ s. P level s) (sym (get_or_append_left levels (top ∷ []) [] level b)) (below level b)
      | inr b ↦ (let m = length-append levels (top ∷ []) in
          let q : length levels ≡ level = omega (arith, l, m, b) in
          subst (λ s. P level s) (sym (get_or_push levels top [] level q)) (subst (λ n. P n top) q there))
    ]

pub levels_more : (start f g : Functions) (es : List Entry) (levels : List (List ℕ)) (top above : List ℕ) → Keeps f g → HasLevels start f es levels top → length above ≡ length top / 2 → AreLevel g es (length levels + 1) above → HasLevels start g es (levels ++ top ∷ []) above
levels_more start f g es levels top above k a e s =
    let q : length levels + 1 ≡ length (levels ++ top ∷ []) = sym (length-append levels (top ∷ [])) in
    let p : suc (length levels) ≡ length (levels ++ top ∷ []) = omega (arith, q) in
    record {
      kept = keeps_then start f g a.kept k;
      long = at_each (λ level sets. length sets ≡ blocks_of level (length es)) levels top a.long a.top_long;
      sets = at_each (λ level sets. AreLevel g es level sets) levels top (λ level l. level_kept f g es level (get_or levels level []) k (a.sets level l)) (level_kept f g es (length levels) top k a.top_sets);
      top_long = subst (λ n. length above ≡ blocks_of n (length es)) p (e ∙ ap (λ n. n / 2) a.top_long);
      top_sets = subst (λ n. AreLevel g es n above) q s;
    }

no_blocks : (d level n : ℕ) → blocks_of level n ≡ 0 → blocks_of (d + level) n ≡ 0
no_blocks zero level n e =
    let q : level ≡ 0 + level = omega arith in
    subst (λ m. blocks_of m n ≡ 0) q e
no_blocks (suc d) level n e =
    let b = no_blocks d level n e in
    let q : suc (d + level) ≡ suc d + level = omega arith in
    let v : blocks_of (suc (d + level)) n ≡ 0 = omega (arith, b) in
    subst (λ m. blocks_of m n ≡ 0) q v

pub levels_end : (start f : Functions) (es : List Entry) (levels : List (List ℕ)) (top : List ℕ) → length top ≡ 0 → HasLevels start f es levels top → AreUnions f es levels
levels_end start f es levels top e a =
    record {
      long = λ level. elim (cases_lt level (length levels)) [
        | inl b ↦ a.long level b
        | inr b ↦ (let q : (level - length levels) + length levels ≡ level = omega (arith, b) in
            ap length (get_or_past levels level [] b) ∙ sym (subst (λ n. blocks_of n (length es) ≡ 0) q (no_blocks (level - length levels) (length levels) (length es) (sym a.top_long ∙ e))))
      ];
      sets = λ level block l. elim (cases_lt level (length levels)) [
        | inl b ↦ a.sets level b block l
        | inr b ↦ absurd (let q = ap length (get_or_past levels level [] b) in omega (arith, q, l))
      ];
    }

pub levels_start : (start f : Functions) (es : List Entry) (top : List ℕ) → Keeps start f → length top ≡ length es → AreLevel f es 0 top → HasLevels start f es [] top
levels_start start f es top k e s =
    record { kept = k; long = λ level l. absurd (omega (arith, l)); sets = λ level l. absurd (omega (arith, l)); top_long = e; top_sets = s }

-- ---- the sets of single entries
pub record HasSingles (f : Functions) (es : List Entry) (k : ℕ) (sets : List ℕ) : Type 0 where
  pub long : length sets ≡ k
  pub made : AreLevel f es 0 sets

pub singles_more : (f : Functions) (es : List Entry) (e : Entry) (k r : ℕ) (sets : List ℕ) → k < length es → e ≡ get_or es k e → HasSingles f es k sets → IsSet f (λ h. is_by e.sequence (entries_verdict es (header_of h))) r → HasSingles f es (k + 1) (sets ++ r ∷ [])
singles_more f es e k r sets l q a s =
    let m = length-append sets (r ∷ []) in
    let long = a.long in
    let o : slice_get es k ≡ Some e = slice_get_read es (length es) k e refl l q in
    record {
      long = omega (arith, m, long);
      made = λ block b. elim (cases_lt block (length sets)) [
        | inl c ↦ subst (λ x. IsSet f (decided_in es 0 block) x) (sym (get_or_append_left sets (r ∷ []) 0 block c)) (a.made block c)
        | inr c ↦ (let e' : block ≡ k = omega (arith, b, m, long, c) in
            subst (λ x. IsSet f (decided_in es 0 block) x) (sym (get_or_push sets r 0 block (long ∙ sym e'))) (subst (λ n. IsSet f (decided_in es 0 n) r) (sym e') (same_set f (λ h. is_by e.sequence (entries_verdict es (header_of h))) (decided_in es 0 k) r (λ h. ap (λ y. is_of es y h) (sym o)) s)))
      ];
    }

-- ---- pairs
pub record HasPairs (start now : Functions) (sets : List ℕ) (k : ℕ) (unions : List ℕ) : Type 0 where
  pub kept : Keeps start now
  pub long : length unions ≡ k
  pub made : (es : List Entry) (level : ℕ) → AreLevel start es level sets → AreLevel now es (suc level) unions

pub pairs_start : (f : Functions) (sets : List ℕ) → Keeps f f → HasPairs f f sets 0 []
pairs_start f sets k = record { kept = k; long = refl; made = λ es level a block l. absurd (omega (arith, l)) }

pub pairs_more : (start f g : Functions) (sets unions : List ℕ) (k r : ℕ) → 2 * k + 1 < length sets → Keeps f g → HasPairs start f sets k unions → ((s t : ℕ → Bool) → IsSet f s (get_or sets (2 * k) 0) → IsSet f t (get_or sets (2 * k + 1) 0) → IsSet g (λ h. s h || t h) r) → HasPairs start g sets (k + 1) (unions ++ r ∷ [])
pairs_more start f g sets unions k r l p a s =
    let m = length-append unions (r ∷ []) in
    let long = a.long in
    record {
      kept = keeps_then start f g a.kept p;
      long = omega (arith, m, long);
      made = λ es level q block b. elim (cases_lt block (length unions)) [
        | inl c ↦ subst (λ x. IsSet g (decided_in es (suc level) block) x) (sym (get_or_append_left unions (r ∷ []) 0 block c)) (kept_set f g (decided_in es (suc level) block) (get_or unions block 0) p (a.made es level q block c))
        | inr c ↦ (let e : block ≡ k = omega (arith, b, m, long, c) in
            let x = kept_set start f (decided_in es level (2 * k)) (get_or sets (2 * k) 0) a.kept (q (2 * k) (omega (arith, l))) in
            let y = kept_set start f (decided_in es level (2 * k + 1)) (get_or sets (2 * k + 1) 0) a.kept (q (2 * k + 1) l) in
            subst (λ x. IsSet g (decided_in es (suc level) block) x) (sym (get_or_push unions r 0 block (long ∙ sym e))) (subst (λ n. IsSet g (decided_in es (suc level) n) r) (sym e) (s (decided_in es level (2 * k)) (decided_in es level (2 * k + 1)) x y)))
      ];
    }

-- the headers of an entry that are decided in a block
pub common_set : (f g : Functions) (es : List Entry) (levels : List (List ℕ)) (e : Entry) (level block matched own r : ℕ) → AreUnions f es levels → block < length (get_or levels level []) → own ≡ get_or (get_or levels level []) block 0 → r < count_of g → ((h : ℕ) → value_at g r h ≡ if_both (value_at f matched h) (value_at f own h)) → IsSet f (λ h. matches e (header_of h)) matched → IsSet g (λ h. matches e (header_of h) && decided_in es level block h) r
common_set f g es levels e level block matched own r u l q b v m =
    within_set f g (λ h. matches e (header_of h)) (decided_in es level block) matched own r b v m (subst (λ x. IsSet f (decided_in es level block) x) (sym q) (u.sets level block l))

-- the first block begins at the first entry
start_zero : (level count : ℕ) → count ≡ 0 → start_of level count ≡ 0
start_zero zero count z = z
start_zero (suc level) count z = start_zero level (2 * count) (omega (arith, z))

-- ---- blocks of which no entry takes anything
in_first : (x y z : Bool) → (x && (y || z)) ≡ false → (x && y) ≡ false
in_first true true z e = absurd (cc)
in_first true false z e = refl
in_first false y z e = refl

in_second : (x y z : Bool) → (x && (y || z)) ≡ false → (x && z) ≡ false
in_second true true z e = absurd (cc)
in_second true false z e = e
in_second false y z e = refl

pub passed_over : (es : List Entry) (e : Entry) (level block : ℕ) (taken : List Taken) → ((h : ℕ) → h < 2 ^ 112 → (matches e (header_of h) && decided_in es level block h) ≡ false) → AreTaken es (start_of level block) e taken → AreTaken es (start_of level (block + 1)) e taken
passed_over es e zero block taken n a =
    gathers_next (λ k t. (f : Entry) → slice_get es k ≡ Some f → Takes es f e t) block taken None a (λ f q h l. ap (λ b. cond b (Some 1) None) (ap (λ o. matches e (header_of h) && is_of es o h) (sym q) ∙ n h l))
passed_over es e (suc level) block taken n a =
    let q : 2 * block + 1 + 1 ≡ 2 * (block + 1) = omega arith in
    let first = passed_over es e level (2 * block) taken (λ h l. in_first (matches e (header_of h)) (decided_in es level (2 * block) h) (decided_in es level (2 * block + 1) h) (n h l)) a in
    let second = passed_over es e level (2 * block + 1) taken (λ h l. in_second (matches e (header_of h)) (decided_in es level (2 * block) h) (decided_in es level (2 * block + 1) h) (n h l)) first in
    subst (λ k. AreTaken es (start_of level k) e taken) q second

-- ---- blocks of which some entry takes something
pub single_taken : (f : Functions) (es : List Entry) (e : Entry) (level block r : ℕ) (taken : List Taken) (t : Taken) → level ≡ 0 → IsSet f (λ h. matches e (header_of h) && decided_in es level block h) r → (GivesNothing (value_at f r) → ⊥) → ((x : Entry) → slice_get es block ≡ Some x → t.sequence ≡ x.sequence) → AreRows (value_at f r) t.rows → AreTaken es (start_of level block) e taken → AreTaken es (start_of level (block + 1)) e (taken ++ t ∷ [])
single_taken f es e level block r taken t p s n q rows a =
    let at_zero = subst (λ k. IsSet f (λ h. matches e (header_of h) && decided_in es k block h) r) p s in
    let before = subst (λ k. AreTaken es (start_of k block) e taken) p a in
    let tells = λ (x : Entry) (o : slice_get es block ≡ Some x). takes_some f es x e r t (same_set f (λ h. matches e (header_of h) && decided_in es 0 block h) (is_taken es x e) r (λ h. ap (λ y. matches e (header_of h) && is_of es y h) o) at_zero) n (q x o) rows in
    subst (λ k. AreTaken es (start_of k (block + 1)) e (taken ++ t ∷ [])) (sym p) (gathers_next (λ k t. (x : Entry) → slice_get es k ≡ Some x → Takes es x e t) block taken (Some t) before tells)

pub halves_taken : (es : List Entry) (e : Entry) (level m block : ℕ) (t0 t1 t2 : List Taken) → level ≡ suc m → (AreTaken es (start_of m (2 * block)) e t0 → AreTaken es (start_of m (2 * block + 1)) e t1) → (AreTaken es (start_of m (2 * block + 1)) e t1 → AreTaken es (start_of m (2 * block + 1 + 1)) e t2) → AreTaken es (start_of level block) e t0 → AreTaken es (start_of level (block + 1)) e t2
halves_taken es e level m block t0 t1 t2 p first second a =
    let q : 2 * block + 1 + 1 ≡ 2 * (block + 1) = omega arith in
    let before = subst (λ n. AreTaken es (start_of n block) e t0) p a in
    subst (λ n. AreTaken es (start_of n (block + 1)) e t2) (sym p) (subst (λ k. AreTaken es (start_of m k) e t2) q (second (first before)))

-- the blocks of the next level are twice as many of this one
pub pairs_taken : (es : List Entry) (e : Entry) (level up half count : ℕ) (taken : List Taken) → up ≡ suc level → 2 * half ≡ count → AreTaken es (start_of up half) e taken → AreTaken es (start_of level count) e taken
pairs_taken es e level up half count taken p q a =
    subst (λ n. AreTaken es (start_of level n) e taken) q (subst (λ n. AreTaken es (start_of n half) e taken) p a)

pub none_taken : (es : List Entry) (e : Entry) (level count : ℕ) → count ≡ 0 → AreTaken es (start_of level count) e []
none_taken es e level count z = subst (λ n. AreTaken es n e []) (sym (start_zero level count z)) refl
