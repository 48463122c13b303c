-- Functions of a table that are sets of headers.
use Rattle.std.proofs.Common.{ℕ, ◌≡◌, ◌<◌, ◌+◌, ◌-◌, ◌^◌, Bool, true, false, cond, not, ◌||◌, ◌&&◌, List, [], ◌∷◌, drop, length, get_or, Some, None, refl, ap, sym, ◌∙◌, subst, arith, if◌then◌else◌}
use Rattle.std.specs.Option.{option_or}
use Rattle.hdr_bits.specs.declared.cube.Cube.{Cube}
use Rattle.hdr_bits.specs.HeaderBits.{header_of}
use Rattle.hdr_bits.specs.CubeBits.{is_in}
use Rattle.cube_diagram.specs.Functions.{Functions, Keeps, count_of, value_at, GivesNothing}
use Rattle.cube_diagram.specs.Combined.{if_both, if_alone, difference}
use Rattle.cube_diagram.specs.Entries.{cubes_value, first_value}
use Rattle.net_types.specs.declared.config.Entry.{Entry}
use Rattle.net_types.specs.AccessLists.{matches}
use Rattle.acl_match.specs.Cubes.{any_in}
use Rattle.acl_audit.specs.Sets.{IsSet, AreTails, if_true, passes_to}

-- ---- tables that grow
pub keeps_then : (f g h : Functions) → Keeps f g → Keeps g h → Keeps f h
keeps_then f g h p q =
    let a = p.count in
    let b = q.count in
    record { count = omega (arith, a, b); value = λ i l n. q.value i (omega (arith, a, l)) n ∙ p.value i l n }

pub keeps_same : (f : Functions) → Keeps f f
keeps_same f = record { count = omega arith; value = λ i l n. refl }

pub kept_set : (f g : Functions) (t : ℕ → Bool) (r : ℕ) → Keeps f g → IsSet f t r → IsSet g t r
kept_set f g t r k s =
    let a = k.count in
    let b = s.below in
    record { below = omega (arith, a, b); value = λ h. k.value r s.below h ∙ s.value h }

-- a test that is true of the same headers
pub same_set : (f : Functions) (s t : ℕ → Bool) (r : ℕ) → ((h : ℕ) → s h ≡ t h) → IsSet f s r → IsSet f t r
same_set f s t r e p = record { below = p.below; value = λ h. p.value h ∙ ap if_true (e h) }

-- ---- how sets are made
pub no_set : (f : Functions) (r : ℕ) → r < count_of f → ((h : ℕ) → value_at f r h ≡ None) → IsSet f (λ h. false) r
no_set f r l e = record { below = l; value = e }

pub whole_set : (f : Functions) (r : ℕ) → r < count_of f → ((h : ℕ) → value_at f r h ≡ Some 1) → IsSet f (λ h. true) r
whole_set f r l e = record { below = l; value = e }

cond_more : (x y : Bool) → cond x (Some 1) (if_true y) ≡ if_true (x || y)
cond_more true y = refl
cond_more false y = refl

cubes_value-any : (cubes : List Cube) (h : ℕ) → cubes_value cubes 1 h ≡ if_true (any_in cubes h)
cubes_value-any [] h = refl
cubes_value-any (c ∷ cs) h = ap (λ o. cond (is_in c h) (Some 1) o) (cubes_value-any cs h) ∙ cond_more (is_in c h) (any_in cs h)

pub entry_set : (f : Functions) (e : Entry) (cubes : List Cube) (r : ℕ) → r < count_of f → ((h : ℕ) → value_at f r h ≡ cubes_value cubes 1 h) → ((h : ℕ) → any_in cubes h ≡ matches e (header_of h)) → IsSet f (λ h. matches e (header_of h)) r
entry_set f e cubes r l v m = record { below = l; value = λ h. v h ∙ (cubes_value-any cubes h ∙ ap if_true (m h)) }

either : (x y : Bool) → option_or (if_true x) (option_or (if_true y) None) ≡ if_true (x || y)
either true y = refl
either false true = refl
either false false = refl

pub either_set : (f g : Functions) (s t : ℕ → Bool) (a b r : ℕ) → r < count_of g → ((h : ℕ) → value_at g r h ≡ first_value (value_at f) (a ∷ b ∷ []) h) → IsSet f s a → IsSet f t b → IsSet g (λ h. s h || t h) r
either_set f g s t a b r l v p q =
    record {
      below = l;
      value = λ h. v h ∙ (ap (λ o. option_or o (option_or (value_at f b h) None)) (p.value h) ∙ (ap (λ o. option_or (if_true (s h)) (option_or o None)) (q.value h) ∙ either (s h) (t h)));
    }

alone : (x y : Bool) → if_alone (if_true x) (if_true y) ≡ if_true (x && not y)
alone true true = refl
alone true false = refl
alone false true = refl
alone false false = refl

pub without_set : (f g : Functions) (s t : ℕ → Bool) (a b r : ℕ) → r < count_of g → ((h : ℕ) → value_at g r h ≡ if_alone (value_at f a h) (value_at f b h)) → IsSet f s a → IsSet f t b → IsSet g (λ h. s h && not (t h)) r
without_set f g s t a b r l v p q =
    record {
      below = l;
      value = λ h. v h ∙ (ap (λ o. if_alone o (value_at f b h)) (p.value h) ∙ (ap (λ o. if_alone (if_true (s h)) o) (q.value h) ∙ alone (s h) (t h)));
    }

both : (x y : Bool) → if_both (if_true x) (if_true y) ≡ if_true (x && y)
both true true = refl
both true false = refl
both false true = refl
both false false = refl

pub within_set : (f g : Functions) (s t : ℕ → Bool) (a b r : ℕ) → r < count_of g → ((h : ℕ) → value_at g r h ≡ if_both (value_at f a h) (value_at f b h)) → IsSet f s a → IsSet f t b → IsSet g (λ h. s h && t h) r
within_set f g s t a b r l v p q =
    record {
      below = l;
      value = λ h. v h ∙ (ap (λ o. if_both o (value_at f b h)) (p.value h) ∙ (ap (λ o. if_both (if_true (s h)) o) (q.value h) ∙ both (s h) (t h)));
    }

-- the two tests differ
abbrev pub unlike : Bool → Bool → Bool
unlike true b = not b
unlike false b = b

apart : (x y : Bool) → difference (if_true x) (if_true y) ≡ if_true (unlike x y)
apart true true = refl
apart true false = refl
apart false true = refl
apart false false = refl

pub difference_set : (f g : Functions) (s t : ℕ → Bool) (a b r : ℕ) → r < count_of g → ((h : ℕ) → value_at g r h ≡ difference (value_at f a h) (value_at f b h)) → IsSet f s a → IsSet f t b → IsSet g (λ h. unlike (s h) (t h)) r
difference_set f g s t a b r l v p q =
    record {
      below = l;
      value = λ h. v h ∙ (ap (λ o. difference o (value_at f b h)) (p.value h) ∙ (ap (λ o. difference (if_true (s h)) o) (q.value h) ∙ apart (s h) (t h)));
    }

-- ---- sets of no header
none_false : (b : Bool) → if_true b ≡ None → b ≡ false
none_false true e = absurd (cc)
none_false false e = refl

pub nothing_in : (f : Functions) (t : ℕ → Bool) (r : ℕ) → IsSet f t r → GivesNothing (value_at f r) → (h : ℕ) → h < 2 ^ 112 → t h ≡ false
nothing_in f t r s n h l = none_false (t h) (sym (s.value h) ∙ n h l)

pub in_nothing : (f : Functions) (t : ℕ → Bool) (r : ℕ) → IsSet f t r → ((h : ℕ) → h < 2 ^ 112 → t h ≡ false) → GivesNothing (value_at f r)
in_nothing f t r s n h l = s.value h ∙ ap if_true (n h l)

-- ---- what passes where an entry stands before others
permitted : (p m t : Bool) → p ≡ true → (m || t) ≡ cond m p t
permitted true true t e = refl
permitted true false t e = refl
permitted false m t e = absurd (cc)

denied : (p m t : Bool) → p ≡ false → (t && not m) ≡ cond m p t
denied false true true e = refl
denied false true false e = refl
denied false false true e = refl
denied false false false e = refl
denied true m t e = absurd (cc)

pub permit_set : (e : Entry) (f : Functions) (t : ℕ → Bool) (r : ℕ) → e.permit ≡ true → IsSet f (λ h. matches e (header_of h) || t h) r → IsSet f (λ h. if matches e (header_of h) then e.permit else t h) r
permit_set e f t r p s =
    same_set f (λ h. matches e (header_of h) || t h) (λ h. cond (matches e (header_of h)) e.permit (t h)) r (λ h. permitted e.permit (matches e (header_of h)) (t h) p) s

pub deny_set : (e : Entry) (f : Functions) (t : ℕ → Bool) (r : ℕ) → e.permit ≡ false → IsSet f (λ h. t h && not (matches e (header_of h))) r → IsSet f (λ h. if matches e (header_of h) then e.permit else t h) r
deny_set e f t r p s =
    same_set f (λ h. t h && not (matches e (header_of h))) (λ h. cond (matches e (header_of h)) e.permit (t h)) r (λ h. denied e.permit (matches e (header_of h)) (t h) p) s

-- ---- tails
pub tail_set : (f : Functions) (es : List Entry) (tails : List ℕ) (k i : ℕ) → AreTails f es tails → k < length tails → i + k ≡ length es → IsSet f (passes_to false (drop i es)) (get_or tails k 0)
tail_set f es tails k i t l e =
    let q : length es - k ≡ i = omega (arith, e) in
    subst (λ n. IsSet f (passes_to false (drop n es)) (get_or tails k 0)) q (t.each k l)
