use Rattle.std.proofs.Common.{ℕ, ◌≡◌, ◌^◌, ◌%◌, ◌↔◌, Bool, true, false, ◌&&◌, ◌||◌, List, [], ◌∷◌, Option, Some, None, Any, IsTrue, refl, ap, sym, ◌∙◌, arith}
use Rattle.std.proofs.lemmas.List.Folds.{Any-from_list_any, list_any-from_Any}
use Rattle.hdr_bits.specs.declared.header.Header.{Header}
use Rattle.hdr_bits.specs.declared.cube.Cube.{Cube}
use Rattle.hdr_bits.specs.HeaderBits.{number, header_of, IsHeader}
use Rattle.hdr_bits.specs.CubeBits.{IsIn, is_in}
use Rattle.hdr_bits.proofs.Numbers.{header_of-number}
use Rattle.cube_alg.proofs.ValueLemmas.{test_in}
use Rattle.net_types.specs.declared.config.Entry.{Entry}
use Rattle.net_types.specs.AccessLists.{is_proto, agrees, meets_port, meets_icmp, meets_flags, matches}
use Rattle.acl_match.specs.Cubes.{any_in, is_in_some, field, meets_one_cube}
use Rattle.acl_match.proofs.FieldLemmas.{in_of_test}

regroup : (p s d i a b f : Bool) → ((((((p && s) && d) && i) && a) && b) && f) ≡ (p && (s && (d && (a && (b && (i && f))))))
regroup false s d i a b f = refl
regroup true false d i a b f = refl
regroup true true false i a b f = refl
regroup true true true false false b f = refl
regroup true true true false true false f = refl
regroup true true true false true true f = refl
regroup true true true true false b f = refl
regroup true true true true true false f = refl
regroup true true true true true true f = refl

pub matches-parts : (e : Entry) (h : Header) → matches e h ≡ (((meets_one_cube e h && meets_port e.sport h.sport) && meets_port e.dport h.dport) && meets_flags e.flags h.flags)
matches-parts e h =
    sym (regroup (is_proto e.proto h.proto) (agrees e.src h.src) (agrees e.dst h.dst) (meets_icmp e.icmp h.sport) (meets_port e.sport h.sport) (meets_port e.dport h.dport) (meets_flags e.flags h.flags))

pub no_base : (e : Entry) (h : ℕ) (o : Option Cube) → o ≡ None → is_in_some o h ≡ meets_one_cube e (header_of h) → false ≡ matches e (header_of h)
no_base e h o n f =
    let g : false ≡ meets_one_cube e (header_of h) = ap (λ x. is_in_some x h) (sym n) ∙ f in
    let k = header_of h in
    ap (λ x. ((x && meets_port e.sport k.sport) && meets_port e.dport k.dport) && meets_flags e.flags k.flags) g ∙ sym (matches-parts e (header_of h))

or_none : (a : Bool) → (a || false) ≡ a
or_none true = refl
or_none false = refl

pub parts_tests : (e : Entry) (h : ℕ) (o : Option Cube) (base : Cube) (sources from destinations between flags cubes : List Cube) → o ≡ Some base → is_in_some o h ≡ meets_one_cube e (header_of h) → any_in sources h ≡ meets_port e.sport (field 8 16 h) → any_in from h ≡ (any_in (base ∷ []) h && any_in sources h) → any_in destinations h ≡ meets_port e.dport (field 24 16 h) → any_in between h ≡ (any_in from h && any_in destinations h) → any_in flags h ≡ meets_flags e.flags (field 0 8 h) → any_in cubes h ≡ (any_in between h && any_in flags h) → any_in cubes h ≡ matches e (header_of h)
parts_tests e h o base sources from destinations between flags cubes s b p q r t u v =
    let k = header_of h in
    let n : field 0 8 h ≡ h % 2 ^ 8 = omega arith in
    let w : any_in flags h ≡ meets_flags e.flags k.flags = u ∙ ap (λ x. meets_flags e.flags x) n in
    let a : any_in (base ∷ []) h ≡ meets_one_cube e k = or_none (is_in base h) ∙ (ap (λ x. is_in_some x h) (sym s) ∙ b) in
    let x1 : any_in from h ≡ (meets_one_cube e k && meets_port e.sport k.sport) = q ∙ (ap (λ x. x && any_in sources h) a ∙ ap (λ x. meets_one_cube e k && x) p) in
    let x2 : any_in between h ≡ ((meets_one_cube e k && meets_port e.sport k.sport) && meets_port e.dport k.dport) = t ∙ (ap (λ x. x && any_in destinations h) x1 ∙ ap (λ x. (meets_one_cube e k && meets_port e.sport k.sport) && x) r) in
    v ∙ (ap (λ x. x && any_in flags h) x2 ∙ (ap (λ x. ((meets_one_cube e k && meets_port e.sport k.sport) && meets_port e.dport k.dport) && x) w ∙ sym (matches-parts e k)))

-- membership and the test
pub any_test : (cubes : List Cube) (h : ℕ) → Any (λ c. IsIn c h) cubes → any_in cubes h ≡ true
any_test cubes h a = list_any-from_Any (λ d. is_in d h) cubes (a.0, a.1, a.2, a.3, test_in a.1 h a.4)

pub test_any : (cubes : List Cube) (h : ℕ) → any_in cubes h ≡ true → Any (λ c. IsIn c h) cubes
test_any cubes h e = let a = Any-from_list_any (λ d. is_in d h) cubes e in (a.0, a.1, a.2, a.3, in_of_test a.1 h a.4)

pub members_of_tests : (cubes : List Cube) (e : Entry) → ((h : ℕ) → any_in cubes h ≡ matches e (header_of h)) → (h : Header) → IsHeader h → Any (λ c. IsIn c (number h)) cubes ↔ IsTrue (matches e h)
members_of_tests cubes e f h fits =
    let g : any_in cubes (number h) ≡ matches e h = f (number h) ∙ ap (λ x. matches e x) (header_of-number h fits) in
    (λ a. sym g ∙ any_test cubes (number h) a, λ t. test_any cubes (number h) (g ∙ t))
