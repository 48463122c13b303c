-- What is known within the loops over the entries.
use Rattle.std.proofs.Common.{ℕ, zero, suc, ◌≡◌, ◌<◌, ◌≤◌, ◌+◌, ◌-◌, ◌==◌, inl, inr, Bool, true, false, cond, ◌||◌, ◌&&◌, List, [], ◌∷◌, ◌++◌, take, drop, length, get_or, slice_get, Option, Some, None, option_and_then, refl, ap, sym, ◌∙◌, subst, arith, if◌then◌else◌}
use Rattle.std.proofs.lemmas.Bool.{cases_eq, cases_lt}
use Rattle.std.proofs.lemmas.Option.{get_or_from_slice_get, slice_get_cases, slice_get_read, slice_get_within}
use Rattle.std.proofs.Math.Bool.{or-false, and-true}
use Rattle.std.proofs.Math.Seq.{drop-length}
use Rattle.std.proofs.lemmas.List.{take_more, drop_more, get_or_append_left, get_or_push, length-append}
use Rattle.hdr_bits.specs.HeaderBits.{header_of}
use Rattle.cube_diagram.specs.Functions.{Functions, Keeps, count_of, value_at}
use Rattle.cube_diagram.proofs.ImageLemmas.{value_same, value_other, inserted}
use Rattle.net_types.specs.declared.config.Entry.{Entry}
use Rattle.net_types.specs.AccessLists.{matches, entries_verdict}
use Rattle.acl_audit.specs.Findings.{is_by}
use Rattle.acl_audit.specs.Sets.{IsSet, AreMatched, AreTails, AreDecided, if_true, any_matches, passes_to}
use Rattle.acl_audit.proofs.SetLemmas.{kept_set, same_set, keeps_then, keeps_same}
use Rattle.acl_audit.proofs.ListLemmas.{decides, is_by-decides, decides-more, any-more, reaches}

-- ---- what is matched
pub record HasMatched (start now : Functions) (es : List Entry) (k : ℕ) (sets : List ℕ) : Type 0 where
  pub kept : Keeps start now
  pub long : length sets ≡ k
  pub each : (i : ℕ) (e : Entry) → i < k → slice_get es i ≡ Some e → IsSet now (λ h. matches e (header_of h)) (get_or sets i 0)

pub matched_more : (start f g : Functions) (es : List Entry) (k : ℕ) (sets : List ℕ) (e : Entry) (r : ℕ) → e ≡ get_or es k e → Keeps f g → HasMatched start f es k sets → IsSet g (λ h. matches e (header_of h)) r → HasMatched start g es (k + 1) (sets ++ r ∷ [])
matched_more start f g es k sets e r q p a s =
    let m = length-append sets (r ∷ []) in
    let long = a.long in
    record {
      kept = keeps_then start f g a.kept p;
      long = omega (arith, m, long);
      each = λ i x l o. elim (cases_lt i k) [
        | inl b ↦ subst (λ y. IsSet g (λ h. matches x (header_of h)) y) (sym (get_or_append_left sets (r ∷ []) 0 i (omega (arith, long, b)))) (kept_set f g (λ h. matches x (header_of h)) (get_or sets i 0) p (a.each i x b o))
        | inr b ↦ (let w : i ≡ k = omega (arith, l, b) in
            let same : e ≡ x = q ∙ (ap (λ n. get_or es n e) (sym w) ∙ get_or_from_slice_get es i x e o) in
            subst (λ y. IsSet g (λ h. matches x (header_of h)) y) (sym (get_or_push sets r 0 i (long ∙ sym w))) (subst (λ y. IsSet g (λ h. matches y (header_of h)) r) same s))
      ];
    }

pub matched_all : (start f : Functions) (es : List Entry) (sets : List ℕ) (k : ℕ) → length es ≤ k → k ≤ length es → HasMatched start f es k sets → AreMatched f es sets
matched_all start f es sets k l m a =
    let long = a.long in
    record { all = omega (arith, l, m, long); each = λ i e o. (let b = slice_get_within es i e o in a.each i e (omega (arith, l, b)) o) }

pub matched_at : (start f : Functions) (es : List Entry) (sets : List ℕ) (k : ℕ) (e : Entry) → k < length es → e ≡ get_or es k e → Keeps start f → AreMatched start es sets → IsSet f (λ h. matches e (header_of h)) (get_or sets k 0)
matched_at start f es sets k e l q p a =
    kept_set start f (λ h. matches e (header_of h)) (get_or sets k 0) p (a.each k e (slice_get_read es (length es) k e refl l q))

pub matched_below : (f g : Functions) (es : List Entry) (sets : List ℕ) (k : ℕ) → k < length es → Keeps f g → AreMatched f es sets → get_or sets k 0 < count_of g
matched_below f g es sets k l p a =
    elim (slice_get_cases es k).1 [
      | inl q ↦ (let b = (a.each k q.0 q.2).below in let c = p.count in omega (arith, b, c))
      | inr q ↦ absurd (let m = q.0 in omega (arith, l, m))
    ]

-- ---- tails
pub record HasTails (start now : Functions) (es : List Entry) (tails : List ℕ) (tail count : ℕ) : Type 0 where
  pub kept : Keeps start now
  pub sets : AreTails now es tails
  pub long : length tails ≡ count + 1
  pub last : IsSet now (passes_to false (drop (length es - count) es)) tail

no_tail : (f : Functions) (es : List Entry) (r : ℕ) → r < count_of f → ((h : ℕ) → value_at f r h ≡ None) → IsSet f (passes_to false (drop (length es) es)) r
no_tail f es r l v = record { below = l; value = λ h. v h ∙ ap (λ xs. if_true (passes_to false xs h)) (sym (drop-length es)) }

no_less : (n : ℕ) → n ≡ n - 0
no_less n = omega arith

one_tail : (f : Functions) (es : List Entry) (r k : ℕ) → k < 1 → IsSet f (passes_to false (drop (length es) es)) r → IsSet f (passes_to false (drop (length es - k) es)) (get_or (r ∷ []) k 0)
one_tail f es r zero l s = subst (λ n. IsSet f (passes_to false (drop n es)) r) (no_less (length es)) s
one_tail f es r (suc k) l s = absurd (omega (arith, l))

pub tails_start : (f : Functions) (es : List Entry) (r : ℕ) → r < count_of f → ((h : ℕ) → value_at f r h ≡ None) → HasTails f f es ([] ++ r ∷ []) r 0
tails_start f es r l v =
    let s = no_tail f es r l v in
    record { kept = keeps_same f; sets = record { few = omega arith; each = λ k b. one_tail f es r k b s }; long = refl; last = one_tail f es r 0 (omega arith) s }

-- the entry before the last ones
pub next_tail : (f : Functions) (es : List Entry) (e : Entry) (count r : ℕ) → count < length es → e ≡ get_or es (length es - 1 - count) e → IsSet f (λ h. if matches e (header_of h) then e.permit else passes_to false (drop (length es - count) es) h) r → IsSet f (passes_to false (drop (length es - (count + 1)) es)) r
next_tail f es e count r l q s =
    let j = length es - 1 - count in
    let a : j < length es = omega (arith, l) in
    let b : j + 1 ≡ length es - count = omega (arith, l) in
    let c : length es - (count + 1) ≡ j = omega (arith, l) in
    let d : drop j es ≡ e ∷ drop (length es - count) es = drop_more es j e a ∙ (ap (λ x. x ∷ drop (j + 1) es) (sym q) ∙ ap (λ n. e ∷ drop n es) b) in
    same_set f (λ h. cond (matches e (header_of h)) e.permit (passes_to false (drop (length es - count) es) h)) (passes_to false (drop (length es - (count + 1)) es)) r (λ h. ap (λ xs. passes_to false xs h) (sym d) ∙ ap (λ n. passes_to false (drop n es) h) (sym c)) s

more_tails : (f : Functions) (es : List Entry) (tails : List ℕ) (new count k : ℕ) → length tails ≡ count + 1 → AreTails f es tails → IsSet f (passes_to false (drop (length es - (count + 1)) es)) new → k < length (tails ++ new ∷ []) → IsSet f (passes_to false (drop (length es - k) es)) (get_or (tails ++ new ∷ []) k 0)
more_tails f es tails new count k e t s l =
    elim (cases_lt k (length tails)) [
      | inl b ↦ subst (λ r. IsSet f (passes_to false (drop (length es - k) es)) r) (sym (get_or_append_left tails (new ∷ []) 0 k b)) (t.each k b)
      | inr b ↦ (let m = length-append tails (new ∷ []) in
          let q : k ≡ count + 1 = omega (arith, l, m, e, b) in
          subst (λ r. IsSet f (passes_to false (drop (length es - k) es)) r) (sym (get_or_push tails new 0 k (e ∙ sym q))) (subst (λ n. IsSet f (passes_to false (drop (length es - n) es)) new) (sym q) s))
    ]

pub tails_kept : (f g : Functions) (es : List Entry) (tails : List ℕ) → Keeps f g → AreTails f es tails → AreTails g es tails
tails_kept f g es tails k t =
    record { few = t.few; each = λ n l. kept_set f g (passes_to false (drop (length es - n) es)) (get_or tails n 0) k (t.each n l) }

pub tails_more : (start f g : Functions) (es : List Entry) (tails : List ℕ) (tail new count : ℕ) (e : Entry) → count < length es → e ≡ get_or es (length es - 1 - count) e → Keeps f g → HasTails start f es tails tail count → IsSet g (λ h. if matches e (header_of h) then e.permit else passes_to false (drop (length es - count) es) h) new → HasTails start g es (tails ++ new ∷ []) new (count + 1)
tails_more start f g es tails tail new count e l q k a s =
    let n = next_tail g es e count new l q s in
    let m = length-append tails (new ∷ []) in
    let b = a.long in
    record {
      kept = keeps_then start f g a.kept k;
      sets = record { few = omega (arith, m, b, l); each = λ j c. more_tails g es tails new count j a.long (tails_kept f g es tails k a.sets) n c };
      long = omega (arith, m, b);
      last = n;
    }

-- ---- what is decided
pub record HasDecided (start now : Functions) (es : List Entry) (known : ℕ → Option ℕ) (head : ℕ) : Type 0 where
  pub kept : Keeps start now
  pub decided : AreDecided now es known
  pub front : IsSet now (any_matches es) head

none_some : (x : ℕ) → ◌≡◌ {A = Option ℕ} None (Some x) → ⊥
none_some x e = cc

pub decided_start : (f : Functions) (known : ℕ → Option ℕ) (r : ℕ) → r < count_of f → ((h : ℕ) → value_at f r h ≡ None) → ((s : ℕ) → known s ≡ None) → HasDecided f f [] known r
decided_start f known r l v n =
    record {
      kept = keeps_same f;
      decided = record { below = λ s x e. absurd (none_some x (sym (n s) ∙ e)); value = λ s h. ap (λ o. option_and_then (λ x. value_at f x h) o) (n s) };
      front = record { below = l; value = v };
    }

value_kept : (f g : Functions) (o : Option ℕ) (h : ℕ) → Keeps f g → ((r : ℕ) → o ≡ Some r → r < count_of f) → option_and_then (λ r. value_at g r h) o ≡ option_and_then (λ r. value_at f r h) o
value_kept f g None h k b = refl
value_kept f g (Some r) h k b = k.value r (b r refl) h

pub decided_kept : (f g : Functions) (es : List Entry) (known : ℕ → Option ℕ) → Keeps f g → AreDecided f es known → AreDecided g es known
decided_kept f g es known k d =
    let c = k.count in
    record {
      below = λ s r e. (let b = d.below s r e in omega (arith, b, c));
      value = λ s h. value_kept f g (known s) h k (λ r e. d.below s r e) ∙ d.value s h;
    }

not_this : (d r : Bool) → d ≡ (d || (r && false))
not_this d true = sym (or-false d)
not_this d false = sym (or-false d)

-- the first entries and the next one
pub next_entries : (es : List Entry) (i : ℕ) (e : Entry) → i < length es → e ≡ get_or es i e → take (i + 1) es ≡ take i es ++ e ∷ []
next_entries es i e l q = rw (← q) at (take_more es i e l)

decided_at : (es : List Entry) (e : Entry) (s h : ℕ) (q : Bool) → (e.sequence == s) ≡ q → is_by s (entries_verdict (es ++ e ∷ []) (header_of h)) ≡ (is_by s (entries_verdict es (header_of h)) || (reaches es e h && q))
decided_at es e s h q t =
    is_by-decides (es ++ e ∷ []) s h ∙ (decides-more es e s h ∙ (ap (λ b. decides es s h || (reaches es e h && b)) t ∙ ap (λ b. b || (reaches es e h && q)) (sym (is_by-decides es s h))))

next_same : (g : Functions) (es : List Entry) (e : Entry) (known next : ℕ → Option ℕ) (all x h : ℕ) → e.sequence ≡ x → IsSet g (λ h. is_by e.sequence (entries_verdict es (header_of h)) || reaches es e h) all → next x ≡ cond (e.sequence == x) (Some all) (known x) → option_and_then (λ r. value_at g r h) (next x) ≡ if_true (is_by x (entries_verdict (es ++ e ∷ []) (header_of h)))
next_same g es e known next all x h p s u =
    let t = value_same e.sequence x p in
    let o : next x ≡ Some all = u ∙ ap (λ b. cond b (Some all) (known x)) t in
    let v : (is_by e.sequence (entries_verdict es (header_of h)) || reaches es e h) ≡ is_by x (entries_verdict (es ++ e ∷ []) (header_of h)) =
    ap (λ n. is_by n (entries_verdict es (header_of h)) || reaches es e h) p ∙ (ap (λ b. is_by x (entries_verdict es (header_of h)) || b) (sym (and-true (reaches es e h))) ∙ sym (decided_at es e x h true t)) in
    ap (λ o. option_and_then (λ r. value_at g r h) o) o ∙ (s.value h ∙ ap if_true v)

next_other : (g : Functions) (es : List Entry) (e : Entry) (known next : ℕ → Option ℕ) (all x h : ℕ) → (e.sequence ≡ x → ⊥) → AreDecided g es known → next x ≡ cond (e.sequence == x) (Some all) (known x) → option_and_then (λ r. value_at g r h) (next x) ≡ if_true (is_by x (entries_verdict (es ++ e ∷ []) (header_of h)))
next_other g es e known next all x h p d u =
    let t = value_other e.sequence x p in
    let o : next x ≡ known x = u ∙ ap (λ b. cond b (Some all) (known x)) t in
    let v : is_by x (entries_verdict es (header_of h)) ≡ is_by x (entries_verdict (es ++ e ∷ []) (header_of h)) =
    not_this (is_by x (entries_verdict es (header_of h))) (reaches es e h) ∙ sym (decided_at es e x h false t) in
    ap (λ o. option_and_then (λ r. value_at g r h) o) o ∙ (d.value x h ∙ ap if_true v)

pub decided_more : (start f g : Functions) (es : List Entry) (i : ℕ) (e : Entry) (known next : ℕ → Option ℕ) (head all front : ℕ) → i < length es → e ≡ get_or es i e → Keeps f g → HasDecided start f (take i es) known head → IsSet g (λ h. is_by e.sequence (entries_verdict (take i es) (header_of h)) || reaches (take i es) e h) all → IsSet g (λ h. any_matches (take i es) h || matches e (header_of h)) front → ((s : ℕ) → next s ≡ cond (e.sequence == s) (Some all) (known s)) → HasDecided start g (take (i + 1) es) next front
decided_more start f g es i e known next head all front l q k a s t u =
    let d = decided_kept f g (take i es) known k a.decided in
    let w = next_entries es i e l q in
    subst (λ xs. HasDecided start g xs next front) (sym w) (record {
      kept = keeps_then start f g a.kept k;
      decided = record {
        below = λ x r o. elim (inserted known next e.sequence all x r (u x) o) [
          | inl p ↦ subst (λ y. y < count_of g) p.1 s.below
          | inr p ↦ d.below x r p
        ];
        value = λ x h. elim (cases_eq e.sequence x) [
          | inl p ↦ next_same g (take i es) e known next all x h p s (u x)
          | inr p ↦ next_other g (take i es) e known next all x h p d (u x)
        ];
      };
      front = same_set g (λ h. any_matches (take i es) h || matches e (header_of h)) (any_matches (take i es ++ e ∷ [])) front (λ h. sym (any-more (take i es) e h)) t;
    })
