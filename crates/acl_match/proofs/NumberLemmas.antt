use Rattle.std.proofs.Common.{ℕ, ◌≡◌, ◌<◌, ◌+◌, Bool, true, false, cond, ◌||◌, List, [], ◌∷◌, ◌++◌, take, length, get_or, Option, Some, None, All, refl, ap, sym, ◌∙◌, arith}
use Rattle.std.specs.Option.{option_or}
use Rattle.std.proofs.lemmas.List.{take_more}
use Rattle.std.proofs.lemmas.List.Elements.{All-head, All-tail, All-nil, All-push, All-weaker}
use Rattle.hdr_bits.specs.declared.header.Header.{Header}
use Rattle.hdr_bits.specs.declared.cube.Cube.{Cube}
use Rattle.hdr_bits.specs.HeaderBits.{number, header_of, IsHeader}
use Rattle.hdr_bits.specs.CubeBits.{IsStar, is_in}
use Rattle.hdr_bits.proofs.Numbers.{header_of-number}
use Rattle.cube_alg.proofs.ValueLemmas.{option_or-none, option_or-assoc}
use Rattle.cube_diagram.specs.Functions.{Functions, Keeps, count_of, value_at}
use Rattle.cube_diagram.specs.Entries.{cubes_value, first_value}
use Rattle.net_types.specs.declared.config.AccessList.{AccessList}
use Rattle.net_types.specs.declared.config.Entry.{Entry}
use Rattle.net_types.specs.AccessLists.{matches, entries_verdict, verdict, passes}
use Rattle.acl_match.specs.Cubes.{any_in}
use Rattle.acl_match.specs.Lists.{entries_of, number_of, end_of, entries_value}
use Rattle.acl_match.specs.Numbers.{AreNumbers}
use Rattle.acl_match.proofs.TestLemmas.{all_test}
use Rattle.acl_match.proofs.ListLemmas.{entries_value-append, entries_then_end, list_verdict}

pub keeps_same : (f : Functions) → Keeps f f
keeps_same f = record { count = omega arith; value = λ i l h. refl }

pub keeps_then : (f g k : Functions) → Keeps f g → Keeps g k → Keeps f k
keeps_then f g k a b =
    let p = a.count in
    let q = b.count in
    record { count = omega (arith, p, q); value = λ i l h. b.value i (omega (arith, p)) h ∙ a.value i l h }

-- ---- what functions in order give
first_value-append : (val : ℕ → ℕ → Option ℕ) (xs ys : List ℕ) (h : ℕ) → first_value val (xs ++ ys) h ≡ option_or (first_value val xs h) (first_value val ys h)
first_value-append val [] ys h = refl
first_value-append val (x ∷ xs) ys h =
    ap (λ o. option_or (val x h) o) (first_value-append val xs ys h) ∙ sym (option_or-assoc (val x h) (first_value val xs h) (first_value val ys h))

first_value-kept : (f g : Functions) (ns : List ℕ) (h : ℕ) → Keeps f g → All (λ i. i < count_of f) ns → first_value (value_at g) ns h ≡ first_value (value_at f) ns h
first_value-kept f g [] h k a = refl
first_value-kept f g (n ∷ ns) h k a =
    ap (λ o. option_or o (first_value (value_at g) ns h)) (k.value n (All-head (λ i. i < count_of f) n ns a) h) ∙ ap (λ o. option_or (value_at f n h) o) (first_value-kept f g ns h k (All-tail (λ i. i < count_of f) n ns a))

or_cond : (x y : Bool) (v : ℕ) → cond x (Some v) (cond y (Some v) None) ≡ cond (x || y) (Some v) None
or_cond true y v = refl
or_cond false y v = refl

cubes_value-any : (cubes : List Cube) (v h : ℕ) → cubes_value cubes v h ≡ cond (any_in cubes h) (Some v) None
cubes_value-any [] v h = refl
cubes_value-any (c ∷ cs) v h =
    ap (λ o. cond (is_in c h) (Some v) o) (cubes_value-any cs v h) ∙ or_cond (is_in c h) (any_in cs h) v

pub no_numbers : (f : Functions) → AreNumbers f [] []
no_numbers f = record { below = All-nil (λ i. i < count_of f); value = λ h. refl }

pub numbers_kept : (f g : Functions) (es : List Entry) (ns : List ℕ) → Keeps f g → AreNumbers f es ns → AreNumbers g es ns
numbers_kept f g es ns k a =
    let c = k.count in
    record {
      below = All-weaker (λ i. i < count_of f) (λ i. i < count_of g) (λ i l. omega (arith, c)) ns a.below;
      value = λ h. first_value-kept f g ns h k a.below ∙ a.value h;
    }

-- one more entry
pub numbers_more : (f g : Functions) (es : List Entry) (ns : List ℕ) (i : ℕ) (e : Entry) (cubes : List Cube) (v r : ℕ) → i < length es → e ≡ get_or es i e → Keeps f g → r < count_of g → v ≡ number_of e.permit → ((h : ℕ) → value_at g r h ≡ cubes_value cubes v h) → ((h : ℕ) → any_in cubes h ≡ matches e (header_of h)) → AreNumbers f (take i es) ns → AreNumbers g (take (i + 1) es) (ns ++ r ∷ [])
numbers_more f g es ns i e cubes v r l q k b s t m a =
    let n = numbers_kept f g (take i es) ns k a in
    record {
      below = All-push (λ j. j < count_of g) ns r n.below b;
      value = λ h. let w : take (i + 1) es ≡ take i es ++ e ∷ [] = rw (← q) at (take_more es i e l) in
          let x : value_at g r h ≡ cond (matches e (header_of h)) (Some (number_of e.permit)) None = t h ∙ (cubes_value-any cubes v h ∙ (ap (λ y. cond y (Some v) None) (m h) ∙ ap (λ y. cond (matches e (header_of h)) (Some y) None) s)) in
          first_value-append (value_at g) ns (r ∷ []) h ∙ (ap (λ o. option_or o (option_or (value_at g r h) None)) (n.value h) ∙ (ap (λ o. option_or (entries_value (take i es) h) o) (option_or-none (value_at g r h) ∙ x) ∙ rw w (sym (entries_value-append (take i es) (e ∷ []) h))));
    }

-- and the end behind them
pub numbers_end : (f g : Functions) (es : List Entry) (ns : List ℕ) (all : Cube) (v r : ℕ) → Keeps f g → v ≡ end_of es → ((k : ℕ) → k < 112 → IsStar all k) → ((h : ℕ) → value_at g r h ≡ cubes_value (all ∷ []) v h) → AreNumbers f es ns → (h : ℕ) → first_value (value_at g) (ns ++ r ∷ []) h ≡ Some (number_of (passes (entries_verdict es (header_of h))))
numbers_end f g es ns all v r k s t u a h =
    let n = numbers_kept f g es ns k a in
    let x : value_at g r h ≡ Some (end_of es) = u h ∙ (ap (λ b. cond b (Some v) None) (all_test all h t) ∙ ap (λ y. Some y) s) in
    first_value-append (value_at g) ns (r ∷ []) h ∙ (ap (λ o. option_or o (option_or (value_at g r h) None)) (n.value h) ∙ (ap (λ o. option_or (entries_value es h) o) (option_or-none (value_at g r h) ∙ x) ∙ entries_then_end es h))

-- the entries' verdict is the list's
pub of_list : (list : Option AccessList) (es : List Entry) (h : Header) → es ≡ entries_of list → IsHeader h → passes (entries_verdict es (header_of (number h))) ≡ passes (verdict list h)
of_list list es h e fits =
    ap passes (ap (λ x. entries_verdict es x) (header_of-number h fits) ∙ (ap (λ x. entries_verdict x h) e ∙ list_verdict list h))

-- ---- the entries so far
pub record HasNumbers (start now : Functions) (entries : List Entry) (ids : List ℕ) : Type 0 where
  pub kept : Keeps start now
  pub numbers : AreNumbers now entries ids
