-- What a list says of a header, from its front and from its end.
use Rattle.std.proofs.Common.{ℕ, zero, suc, ◌≡◌, ◌<◌, ◌+◌, ◌==◌, Bool, true, false, cond, not, ◌||◌, ◌&&◌, List, [], ◌∷◌, ◌++◌, take, drop, length, Option, Some, ◌⊎◌, inl, inr, refl, ap, sym, ◌∙◌, arith, if◌then◌else◌, find}
use Rattle.std.specs.List.{remove}
use Rattle.std.proofs.lemmas.List.{take-append-drop}
use Rattle.std.proofs.Math.Bool.{or-false}
use native.Mathlib.Numerals.{unary_clauses}
use Rattle.hdr_bits.specs.HeaderBits.{header_of}
use Rattle.cube_diagram.proofs.ImageLemmas.{value_other}
use Rattle.net_types.specs.declared.config.Entry.{Entry}
use Rattle.net_types.specs.declared.network.Verdict.TheVariants.{Permit, Deny}
use Rattle.net_types.specs.AccessLists.{matches, verdict_of, entries_verdict, passes}
use Rattle.acl_audit.specs.Findings.{is_by}
use Rattle.acl_audit.specs.Sets.{any_matches, passes_to}

-- ---- which sequence number decides

-- the first entry that matches has this sequence number
abbrev pub decides : List Entry → ℕ → ℕ → Bool
decides [] s h = false
decides (e ∷ es) s h = if matches e (header_of h) then e.sequence == s else decides es s h

is_by-said : (permit : Bool) (s n : ℕ) → is_by s (if permit then Permit n else Deny n) ≡ (n == s)
is_by-said true s n = refl
is_by-said false s n = refl

is_by-case : (t : Bool) (e : Entry) (s : ℕ) (f : Option Entry) (d : Bool) → is_by s (verdict_of f) ≡ d → is_by s (verdict_of (cond t (Some e) f)) ≡ cond t (e.sequence == s) d
is_by-case true e s f d q = is_by-said e.permit s e.sequence
is_by-case false e s f d q = q

is_by-found : (es : List Entry) (s h : ℕ) → is_by s (verdict_of (find (λ x. matches x (header_of h)) es)) ≡ decides es s h
is_by-found [] s h = refl
is_by-found (e ∷ es) s h =
    is_by-case (matches e (header_of h)) e s (find (λ x. matches x (header_of h)) es) (decides es s h) (is_by-found es s h)

pub is_by-decides : (es : List Entry) (s h : ℕ) → is_by s (entries_verdict es (header_of h)) ≡ decides es s h
is_by-decides [] s h = refl
is_by-decides (e ∷ es) s h = is_by-found (e ∷ es) s h

-- the header matches the entry and none of these before it
abbrev pub reaches : List Entry → Entry → ℕ → Bool
reaches es e h = matches e (header_of h) && not (any_matches es h)

one_more : (m q : Bool) → cond m q false ≡ (false || ((m && true) && q))
one_more true q = refl
one_more false q = refl

behind_one : (x y m a q d r : Bool) → d ≡ (r || ((m && not a) && q)) → cond x y d ≡ (cond x y r || ((m && not (x || a)) && q))
behind_one true true m a q d r e = refl
behind_one true false true a q d r e = refl
behind_one true false false a q d r e = refl
behind_one false y m a q d r e = e

pub decides-more : (es : List Entry) (e : Entry) (s h : ℕ) → decides (es ++ e ∷ []) s h ≡ (decides es s h || (reaches es e h && e.sequence == s))
decides-more [] e s h = one_more (matches e (header_of h)) (e.sequence == s)
decides-more (x ∷ es) e s h =
    behind_one (matches x (header_of h)) (x.sequence == s) (matches e (header_of h)) (any_matches es h) (e.sequence == s) (decides (es ++ e ∷ []) s h) (decides es s h) (decides-more es e s h)

or_ap : (x a b c : Bool) → a ≡ (b || c) → (x || a) ≡ ((x || b) || c)
or_ap true a b c e = refl
or_ap false a b c e = e

pub any-more : (es : List Entry) (e : Entry) (h : ℕ) → any_matches (es ++ e ∷ []) h ≡ (any_matches es h || matches e (header_of h))
any-more [] e h = or-false (matches e (header_of h))
any-more (x ∷ es) e h = or_ap (matches x (header_of h)) (any_matches (es ++ e ∷ []) h) (any_matches es h) (matches e (header_of h)) (any-more es e h)

-- ---- what passes
abbrev pub is_nil : List Entry → Bool
is_nil [] = true
is_nil (e ∷ es) = false

passes-said : (permit : Bool) (n : ℕ) → passes (if permit then Permit n else Deny n) ≡ permit
passes-said true n = refl
passes-said false n = refl

passes-case : (t : Bool) (e : Entry) (f : Option Entry) (d : Bool) → passes (verdict_of f) ≡ d → passes (verdict_of (cond t (Some e) f)) ≡ cond t e.permit d
passes-case true e f d q = passes-said e.permit e.sequence
passes-case false e f d q = q

passes-found : (es : List Entry) (h : ℕ) → passes (verdict_of (find (λ x. matches x (header_of h)) es)) ≡ passes_to false es h
passes-found [] h = refl
passes-found (e ∷ es) h =
    passes-case (matches e (header_of h)) e (find (λ x. matches x (header_of h)) es) (passes_to false es h) (passes-found es h)

-- an empty list passes, and the end of any other denies
pub passes-to_end : (es : List Entry) (h : ℕ) → passes (entries_verdict es (header_of h)) ≡ passes_to (is_nil es) es h
passes-to_end [] h = refl
passes-to_end (e ∷ es) h = passes-found (e ∷ es) h

passes_to-append : (end : Bool) (xs ys : List Entry) (h : ℕ) → passes_to end (xs ++ ys) h ≡ passes_to (passes_to end ys h) xs h
passes_to-append end [] ys h = refl
passes_to-append end (x ∷ xs) ys h = ap (λ d. cond (matches x (header_of h)) x.permit d) (passes_to-append end xs ys h)

no_match : (x y m a end : Bool) → (x || a) ≡ false → (a ≡ false → m ≡ end) → cond x y m ≡ end
no_match true y m a end f g = absurd (cc)
no_match false y m a end f g = g f

some_match : (x y m n a : Bool) → (x || a) ≡ true → (a ≡ true → m ≡ n) → cond x y m ≡ cond x y n
some_match true y m n a f g = refl
some_match false y m n a f g = g f

-- where none of the entries matches, the end decides
pub passes_to-none : (end : Bool) (xs : List Entry) (h : ℕ) → any_matches xs h ≡ false → passes_to end xs h ≡ end
passes_to-none end [] h n = refl
passes_to-none end (x ∷ xs) h n =
    no_match (matches x (header_of h)) x.permit (passes_to end xs h) (any_matches xs h) end n (λ k. passes_to-none end xs h k)

-- where one does, it doesn't matter
pub passes_to-some : (a b : Bool) (xs : List Entry) (h : ℕ) → any_matches xs h ≡ true → passes_to a xs h ≡ passes_to b xs h
passes_to-some a b [] h n = absurd (cc)
passes_to-some a b (x ∷ xs) h n =
    some_match (matches x (header_of h)) x.permit (passes_to a xs h) (passes_to b xs h) (any_matches xs h) n (λ k. passes_to-some a b xs h k)

-- ---- the list at one entry
bool_cases : (b : Bool) → (b ≡ true) ⊎ (b ≡ false)
bool_cases true = inl refl
bool_cases false = inr refl

some_entry : (es : List Entry) (i : ℕ) → i < length es → is_nil es ≡ false
some_entry [] i l = absurd (omega arith)
some_entry (e ∷ es) i l = refl

none_left : (es : List Entry) (i : ℕ) → i < length es → is_nil (remove es i) ≡ (length es == 1)
none_left [] i l = absurd (omega arith)
none_left (e ∷ []) zero l = refl
none_left (e ∷ []) (suc i) l = absurd (omega (arith, l))
none_left (e ∷ x ∷ es) zero l = sym (value_other (length (e ∷ x ∷ es)) 1 (λ n. absurd (omega (arith, n))))
none_left (e ∷ x ∷ es) (suc i) l = sym (value_other (length (e ∷ x ∷ es)) 1 (λ n. absurd (omega (arith, n))))

-- what is said of the header without the entry, where none before it matches: with no other entry it passes
abbrev pub rest_passes : List Entry → ℕ → ℕ → Bool
rest_passes es i h = passes_to (length es == 1) (drop (i + 1) es) h

whole_at : (es : List Entry) (i h : ℕ) → i < length es → passes (entries_verdict es (header_of h)) ≡ passes_to (passes_to false (drop i es) h) (take i es) h
whole_at es i h l =
    passes-to_end es h ∙ (ap (λ b. passes_to b es h) (some_entry es i l) ∙ (ap (λ xs. passes_to false xs h) (sym (take-append-drop i es)) ∙ passes_to-append false (take i es) (drop i es) h))

next_drop : (es : List Entry) (i : ℕ) → drop (suc i) es ≡ drop (i + 1) es
next_drop es i = simp unary_clauses refl

without_at : (es : List Entry) (i h : ℕ) → i < length es → passes (entries_verdict (remove es i) (header_of h)) ≡ passes_to (rest_passes es i h) (take i es) h
without_at es i h l =
    passes-to_end (remove es i) h ∙ (passes_to-append (is_nil (remove es i)) (take i es) (drop (suc i) es) h ∙ (ap (λ b. passes_to (passes_to b (drop (suc i) es) h) (take i es) h) (none_left es i l) ∙ ap (λ xs. passes_to (passes_to (length es == 1) xs h) (take i es) h) (next_drop es i)))

-- the list without the entry says the same of the header where an earlier entry matches, or the tails say the same
pub same_from_tails : (es : List Entry) (i h : ℕ) → i < length es → (any_matches (take i es) h ≡ false → passes_to false (drop i es) h ≡ rest_passes es i h) → passes (entries_verdict (remove es i) (header_of h)) ≡ passes (entries_verdict es (header_of h))
same_from_tails es i h l f =
    without_at es i h l ∙ (elim (bool_cases (any_matches (take i es) h)) [
      | inl t ↦ passes_to-some (rest_passes es i h) (passes_to false (drop i es) h) (take i es) h t
      | inr n ↦ ap (λ b. passes_to b (take i es) h) (sym (f n))
    ] ∙ sym (whole_at es i h l))

pub tails_from_same : (es : List Entry) (i h : ℕ) → i < length es → passes (entries_verdict (remove es i) (header_of h)) ≡ passes (entries_verdict es (header_of h)) → any_matches (take i es) h ≡ false → passes_to false (drop i es) h ≡ rest_passes es i h
tails_from_same es i h l f n =
    sym (passes_to-none (passes_to false (drop i es) h) (take i es) h n) ∙ (sym (whole_at es i h l) ∙ (sym f ∙ (without_at es i h l ∙ passes_to-none (rest_passes es i h) (take i es) h n)))
