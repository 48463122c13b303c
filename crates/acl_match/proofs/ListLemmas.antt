use Rattle.std.proofs.Common.{ℕ, zero, suc, ◌≡◌, ◌<◌, ◌+◌, ◌==◌, Bool, true, false, cond, ◌||◌, List, [], ◌∷◌, ◌++◌, map, take, length, get_or, Option, Some, None, AllPairs, Any, refl, ap, sym, ◌∙◌, subst, arith, if◌then◌else◌, find}
use Rattle.std.specs.Option.{option_or}
use Rattle.std.proofs.lemmas.List.{take_more}
use Rattle.hdr_bits.specs.declared.header.Header.{Header}
use Rattle.hdr_bits.specs.declared.cube.Cube.{Cube}
use Rattle.hdr_bits.specs.HeaderBits.{number, header_of}
use Rattle.hdr_bits.specs.CubeBits.{IsIn, IsStar, is_in}
use Rattle.hdr_bits.proofs.Numbers.{header_of-number}
use Rattle.cube_alg.specs.declared.cut.Piece.{Piece}
use Rattle.cube_alg.specs.Pieces.{value_of, AreApartPieces}
use Rattle.cube_alg.proofs.ValueLemmas.{value_of-append, value_one, option_or-none}
use Rattle.cube_alg.proofs.CutLemmas.{in_all}
use Rattle.net_types.specs.declared.config.AccessList.{AccessList}
use Rattle.net_types.specs.declared.config.Entry.{Entry}
use Rattle.net_types.specs.declared.network.Verdict.TheVariants.{Permit, Deny}
use Rattle.net_types.specs.AccessLists.{matches, verdict_of, entries_verdict, verdict, passes}
use Rattle.acl_match.specs.Cubes.{any_in}
use Rattle.acl_match.specs.Lists.{entries_of, number_of, end_of, entries_value, AreApartAnswers, Answers, AddsPieces}
use Rattle.acl_match.proofs.FieldLemmas.{any_take}

more_cubes : (o : Option ℕ) (x y : Bool) (v : ℕ) → option_or (option_or o (cond x (Some v) None)) (cond y (Some v) None) ≡ option_or o (cond (x || y) (Some v) None)
more_cubes (Some w) x y v = refl
more_cubes None true y v = refl
more_cubes None false y v = refl

pub pieces_more : (cubes : List Cube) (permit : Bool) (old new : List Piece) (i : ℕ) (c : Cube) (piece : Piece) → i < length cubes → c ≡ get_or cubes i c → piece.cube ≡ c → piece.value ≡ number_of permit → AddsPieces (take i cubes) permit old new → AddsPieces (take (i + 1) cubes) permit old (new ++ piece ∷ [])
pieces_more cubes permit old new i c piece l e f g a =
    record {
      exact = λ h.
          value_of-append new (piece ∷ []) h ∙ (ap (λ x. option_or x (value_of (piece ∷ []) h)) (a.exact h) ∙ (ap (λ x. option_or (option_or (value_of old h) (cond (any_in (take i cubes) h) (Some (number_of permit)) None)) (cond (is_in x h) (Some piece.value) None)) f ∙ (ap (λ x. option_or (option_or (value_of old h) (cond (any_in (take i cubes) h) (Some (number_of permit)) None)) (cond (is_in c h) (Some x) None)) g ∙ (more_cubes (value_of old h) (any_in (take i cubes) h) (is_in c h) (number_of permit) ∙ ap (λ x. option_or (value_of old h) (cond x (Some (number_of permit)) None)) (sym (any_take h cubes i c l e))))));
    }

pub pieces_start : (permit : Bool) (old : List Piece) → AddsPieces [] permit old old
pieces_start permit old = record { exact = λ h. sym (option_or-none (value_of old h)) }

-- ---- the entries
or_cond : (t : Bool) (v : ℕ) (x y : Option ℕ) → cond t (Some v) (option_or x y) ≡ option_or (cond t (Some v) x) y
or_cond true v x y = refl
or_cond false v x y = refl

pub entries_value-append : (xs ys : List Entry) (h : ℕ) → entries_value (xs ++ ys) h ≡ option_or (entries_value xs h) (entries_value ys h)
entries_value-append [] ys h = refl
entries_value-append (x ∷ xs) ys h =
    ap (λ z. cond (matches x (header_of h)) (Some (number_of x.permit)) z) (entries_value-append xs ys h) ∙ or_cond (matches x (header_of h)) (number_of x.permit) (entries_value xs h) (entries_value ys h)

-- the pieces say the same as the entries
pub record SaysEntries (pieces : List Piece) (entries : List Entry) : Type 0 where
  pub value : (h : ℕ) → value_of pieces h ≡ entries_value entries h

pub entries_more : (old new : List Piece) (es : List Entry) (i : ℕ) (e : Entry) (cubes : List Cube) → i < length es → e ≡ get_or es i e → ((h : ℕ) → any_in cubes h ≡ matches e (header_of h)) → AddsPieces cubes e.permit old new → SaysEntries old (take i es) → SaysEntries new (take (i + 1) es)
entries_more old new es i e cubes l q f a s =
    record {
      value = λ h. let t : take (i + 1) es ≡ take i es ++ e ∷ [] = rw (← q) at (take_more es i e l) in
          a.exact h ∙ (ap (λ x. option_or x (cond (any_in cubes h) (Some (number_of e.permit)) None)) (s.value h) ∙ (ap (λ b. option_or (entries_value (take i es) h) (cond b (Some (number_of e.permit)) None)) (f h) ∙ rw t (sym (entries_value-append (take i es) (e ∷ []) h))));
    }

said : (permit : Bool) (s : ℕ) → permit ≡ passes (if permit then Permit s else Deny s)
said true s = refl
said false s = refl

found_case : (t : Bool) (e : Entry) (o : Option ℕ) (f : Option Entry) → option_or o (Some 0) ≡ Some (number_of (passes (verdict_of f))) → option_or (cond t (Some (number_of e.permit)) o) (Some 0) ≡ Some (number_of (passes (verdict_of (cond t (Some e) f))))
found_case true e o f g = ap (λ b. Some (number_of b)) (said e.permit e.sequence)
found_case false e o f g = g

found : (es : List Entry) (h : ℕ) → option_or (entries_value es h) (Some 0) ≡ Some (number_of (passes (verdict_of (find (λ x. matches x (header_of h)) es))))
found [] h = refl
found (e ∷ es) h =
    found_case (matches e (header_of h)) e (entries_value es h) (find (λ x. matches x (header_of h)) es) (found es h)

-- the entries and then the end
pub entries_then_end : (es : List Entry) (h : ℕ) → option_or (entries_value es h) (Some (end_of es)) ≡ Some (number_of (passes (entries_verdict es (header_of h))))
entries_then_end [] h = refl
entries_then_end (e ∷ es) h = found (e ∷ es) h

pub with_end : (pieces : List Piece) (es : List Entry) (end : Piece) (h : ℕ) → ((k : ℕ) → k < 112 → IsStar end.cube k) → end.value ≡ end_of es → SaysEntries pieces es → value_of (pieces ++ end ∷ []) h ≡ Some (number_of (passes (entries_verdict es (header_of h))))
with_end pieces es end h s v a =
    value_of-append pieces (end ∷ []) h ∙ (ap (λ x. option_or x (value_of (end ∷ []) h)) (a.value h) ∙ (ap (λ x. option_or (entries_value es h) x) (value_one end h (in_all end.cube h s) ∙ ap Some v) ∙ entries_then_end es h))

-- ---- the answers of the pieces
abbrev pub answer : Piece → Cube × Bool
answer p = (p.cube, p.value == 1)

number_is : (a : Bool) → (number_of a == 1) ≡ a
number_is true = refl
number_is false = refl

pub list_verdict : (list : Option AccessList) (h : Header) → entries_verdict (entries_of list) h ≡ verdict list h
list_verdict None h = refl
list_verdict (Some list) h = refl

pub answer_exact : (list : Option AccessList) (es : List Entry) (pieces : List Piece) (p : Piece) → es ≡ entries_of list → ((h : ℕ) → value_of pieces h ≡ Some (number_of (passes (entries_verdict es (header_of h))))) → ((h : ℕ) → IsIn p.cube h → value_of pieces h ≡ Some p.value) → Answers list (answer p)
answer_exact list es pieces p e f g h fits i =
    let a = passes (verdict list h) in
    let q : entries_verdict es (header_of (number h)) ≡ verdict list h = ap (λ x. entries_verdict es x) (header_of-number h fits) ∙ (ap (λ x. entries_verdict x h) e ∙ list_verdict list h) in
    let s : Some p.value ≡ Some (number_of (passes (verdict list h))) = sym (g (number h) i) ∙ (f (number h) ∙ ap (λ v. Some (number_of (passes v))) q) in
    let t : p.value ≡ number_of (passes (verdict list h)) = cc in
    ap (λ x. x == 1) t ∙ number_is (passes (verdict list h))

get_map : (ps : List Piece) (i : ℕ) (d : Cube × Bool) (e : Piece) → i < length ps → get_or (map answer ps) i d ≡ answer (get_or ps i e)
get_map [] i d e l = absurd (omega arith)
get_map (p ∷ ps) zero d e l = refl
get_map (p ∷ ps) (suc i) d e l = get_map ps i d e (omega arith)

length_answers : (ps : List Piece) → length (map answer ps) ≡ length ps
length_answers [] = refl
length_answers (p ∷ ps) = ap suc (length_answers ps)

pub answers_apart : (ps : List Piece) → AllPairs AreApartPieces ps → AllPairs AreApartAnswers (map answer ps)
answers_apart ps a i j d l m h x y =
    let e : Piece = record { cube = d.0; value = 0 } in
    let n : j < length ps = (let q = length_answers ps in omega (arith, q)) in
    a i j e l n h (subst (λ t. IsIn t.0 h) (get_map ps i d e (omega arith)) x) (subst (λ t. IsIn t.0 h) (get_map ps j d e n) y)

pub answers_hold : (ps : List Piece) (h : ℕ) → Any (λ p. IsIn p.cube h) ps → Any (λ p. IsIn p.0 h) (map answer ps)
answers_hold ps h a =
    let q = length_answers ps in
    (a.0, answer a.1, omega (arith, q, a.2), get_map ps a.0 (answer a.1) a.1 a.2 ∙ ap answer a.3, a.4)
