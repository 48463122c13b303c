-- Paths are rows.
use Rattle.std.proofs.Common.{ℕ, suc, ◌≡◌, ◌<◌, ◌≤◌, ◌-◌, ◌^◌, ◌⊎◌, inl, inr, List, [], ◌∷◌, ◌++◌, length, slice_get, Option, Some, None, IfSome, IsNone, IsSome, refl, ap, sym, ◌∙◌, subst, arith, All, AllPairs, Any, Bool, false, not, ◌&&◌, ◌==◌}
use Rattle.std.specs.Int.{bit_at}
use Rattle.std.proofs.lemmas.Bool.{cases_eq, cases_lt}
use Rattle.std.proofs.lemmas.Bool.Decides.{eqb_tells}
use Rattle.std.proofs.lemmas.Nat.Bits.{bit_at-lt, same_from_bits_below}
use Rattle.std.proofs.lemmas.List.{append-nil, append_assoc, map-append}
use Rattle.std.proofs.lemmas.List.Elements.{All-nil, All-cons, All-head, All-tail, All-append, All-weaker, Contains-append_left, Contains-append_right}
use Rattle.std.proofs.lemmas.List.Kept.{AllPairs-cons}
use Rattle.hdr_bits.specs.declared.cube.Cube.{Cube}
use Rattle.hdr_bits.specs.Bits.{bit_of, flipped}
use Rattle.hdr_bits.specs.CubeBits.{digit_at, IsIn, IsStar, AgreesAt, AgreesBefore}
use Rattle.hdr_bits.specs.Rows.{IsRow, AreRows, ComesBefore}
use Rattle.hdr_bits.proofs.CubeLemmas.{same_cube}
use Rattle.hdr_bits.proofs.Masks.{in_from_mask}
use Rattle.cube_alg.specs.Pairs.{HasDigit, IsInside}
use Rattle.cube_alg.specs.declared.cut.Piece.{Piece}
use Rattle.cube_alg.proofs.SplitLemmas.{star_free, free_star, free_zero, digit_there}
use Rattle.cube_alg.proofs.StampLemmas.{bits_below}
use Rattle.cube_diagram.specs.declared.table.Node.{Node}
use Rattle.cube_diagram.specs.declared.table.Node.TheVariants.{Nothing, Value, Split}
use Rattle.cube_diagram.specs.Nodes.{IsReduced, meaning, tested_at}
use Rattle.cube_diagram.specs.Parts.{Ignores}
use Rattle.cube_diagram.specs.Paths.{HasValue, cubes_of, AlikeBefore, IsPath, AreRowsUnder, AddsRows, AreRowsWithin}
use Rattle.cube_diagram.proofs.NodeLemmas.{meaning_model, tested_read}
use Rattle.cube_diagram.proofs.DescentLemmas.{ignored_before, divided_here, read_zero, read_one}
use Rattle.cube_diagram.proofs.BitLemmas.{flipped_below, flipped_before}

-- ---- lists in order
pairs_nil : AllPairs ComesBefore []
pairs_nil = λ i j d l m. absurd (omega (arith, m))

pairs_head : (x : Cube) (xs : List Cube) → AllPairs ComesBefore (x ∷ xs) → All (ComesBefore x) xs
pairs_head x xs a = λ k d l. a 0 (suc k) d (omega arith) (omega arith)

pairs_tail : (x : Cube) (xs : List Cube) → AllPairs ComesBefore (x ∷ xs) → AllPairs ComesBefore xs
pairs_tail x xs a = λ i j d l m. a (suc i) (suc j) d (omega arith) (omega arith)

-- ---- digits
same_none : (o p : Option ℕ) → IsNone o → IsNone p → p ≡ o
same_none None None a b = refl
same_none None (Some y) a b = absurd cc
same_none (Some x) p a b = absurd cc

not_some : (o : Option ℕ) → o ≡ None → IsSome o → ⊥
not_some o e s = absurd cc

not_none : (o : Option ℕ) (v : ℕ) → o ≡ Some v → IsNone o → ⊥
not_none o v e s = absurd cc

none_kept : (o p : Option ℕ) → p ≡ o → IsNone o → IsNone p
none_kept o p e n = subst IsNone (sym e) n

-- cubes with the same digits are one
one_digit : (c d : Cube) (i : ℕ) → digit_at d i ≡ digit_at c i → (bit_of d.fixed i ≡ bit_of c.fixed i) × (bit_of d.bits i ≡ bit_of c.bits i)
one_digit c d i e =
    elim (cases_eq (bit_of c.fixed i) 0) [
      | inl z ↦ elim (cases_eq (bit_of d.fixed i) 0) [
        | inl y ↦ (y ∙ sym z, free_zero d i y ∙ sym (free_zero c i z))
        | inr n ↦ absurd (n (star_free d i (subst IsNone (sym e) (free_star c i z))))
      ]
      | inr n ↦ elim (cases_eq (bit_of d.fixed i) 0) [
        | inl y ↦ absurd (n (star_free c i (subst IsNone e (free_star d i y))))
        | inr m ↦
            let a : bit_of c.fixed i ≡ 1 = (let l = bit_at-lt c.fixed (111 - i) in omega (arith, l, n)) in
            let b : bit_of d.fixed i ≡ 1 = (let l = bit_at-lt d.fixed (111 - i) in omega (arith, l, m)) in
            (b ∙ sym a, same_some _ _ (sym (digit_there d i (bit_of d.bits i) b refl) ∙ (e ∙ digit_there c i (bit_of c.bits i) a refl)))
      ]
    ]
  where
    same_some : (x y : ℕ) → Some x ≡ Some y → x ≡ y
    same_some x y e = cc

digits_tell : (c d : Cube) → ((i : ℕ) → i < 112 → digit_at d i ≡ digit_at c i) → d ≡ c
digits_tell c d f =
    same_cube d c (same_from_bits_below 112 d.fixed c.fixed d.below c.below (λ j l. (from_end j l).0)) (same_from_bits_below 112 d.bits c.bits (bits_below d) (bits_below c) (λ j l. (from_end j l).1))
  where
    from_end : (j : ℕ) → j < 112 → (bit_at d.fixed j ≡ bit_at c.fixed j) × (bit_at d.bits j ≡ bit_at c.bits j)
    from_end j l =
        let e : 111 - (111 - j) ≡ j = omega (arith, l) in
        subst (λ x. (bit_at d.fixed x ≡ bit_at c.fixed x) × (bit_at d.bits x ≡ bit_at c.bits x)) e (one_digit c d (111 - j) (f (111 - j) (omega arith)))

-- ---- agreement
earlier : (c : Cube) (n m h : ℕ) → n ≤ m → AgreesBefore c m h → AgreesBefore c n h
earlier c n m h l a i k = a i (omega (arith, l, k))

-- what agrees with a cube agrees with one that is alike
agrees_alike : (c d : Cube) (n h : ℕ) → AlikeBefore c n d → AgreesBefore d n h → AgreesBefore c n h
agrees_alike c d n h a f i l = subst (λ o. IfSome o (λ b. bit_of h i ≡ b)) (a i l) (f i l)

alike_back : (c d : Cube) (n : ℕ) → AlikeBefore c n d → AlikeBefore d n c
alike_back c d n a i l = sym (a i l)

in_agrees : (c : Cube) (n h : ℕ) → n ≤ 112 → IsIn c h → AgreesBefore c n h
in_agrees c n h l i k m = i k (omega (arith, l, m))

-- ---- along a path
-- below the bit that the number tests no bit matters
ignores : (nodes : List Node) → IsReduced nodes → (value : ℕ → Option ℕ) (path : Cube) (from id : ℕ) → IsPath nodes value path from id → (c : Cube) (i : ℕ) → AlikeBefore path from c → from ≤ i → i < tested_at nodes id → i < 112 → Ignores value c i
ignores nodes r value path from id p c i a l o w h b f =
    let g : AgreesBefore path from h = agrees_alike path c from h a (earlier c from i h l f) in
    let g2 : AgreesBefore path from (flipped h i) = flipped_before path from h i l w g in
    p.leads h b g ∙ (ignored_before nodes r id c i p.below o w h b f ∙ sym (p.leads (flipped h i) (flipped_below h i b w) g2))

-- a row under the path has `*` at those bits
star_on : (nodes : List Node) → IsReduced nodes → (value : ℕ → Option ℕ) (path : Cube) (from id : ℕ) → IsPath nodes value path from id → (c : Cube) (i : ℕ) → IsRow value c → AlikeBefore path from c → from ≤ i → i < tested_at nodes id → i < 112 → IsStar c i
star_on nodes r value path from id p c i w a l o m = (w.star i m).1 (ignores nodes r value path from id p c i a l o m)

-- so it is alike up to the bit that is tested
alike_on : (nodes : List Node) → IsReduced nodes → (value : ℕ → Option ℕ) (path : Cube) (from id n : ℕ) → IsPath nodes value path from id → (c : Cube) → IsRow value c → AlikeBefore path from c → n ≤ tested_at nodes id → n ≤ 112 → AlikeBefore path n c
alike_on nodes r value path from id n p c w a l m i k =
    elim (cases_lt i from) [
      | inl x ↦ a i x
      | inr x ↦ same_none (digit_at path i) (digit_at c i) (p.free i x (omega (arith, k, m))) (star_on nodes r value path from id p c i w a x (omega (arith, k, l)) (omega (arith, k, m)))
    ]

-- the bit that is tested matters
matters : (nodes : List Node) → IsReduced nodes → (value : ℕ → Option ℕ) (path : Cube) (from id k low high : ℕ) → IsPath nodes value path from id → slice_get nodes id ≡ Some (Split k low high) → (c : Cube) → AlikeBefore path k c → from ≤ k → k < 112 → Ignores value c k → ⊥
matters nodes r value path from id k low high p e c a l w f =
    let d = divided_here nodes r id k low high path e (p.free k l w) in
    let m = d.header in
    let before : AgreesBefore path from m = earlier path from k m l d.agrees in
    let s = f m d.header_below (agrees_alike c path k m (alike_back path c k a) d.agrees) in
    d.matters (sym (p.leads m d.header_below before) ∙ (s ∙ p.leads (flipped m k) (flipped_below m k d.header_below w) (flipped_before path from m k l w before)))

-- ---- at the end of a path
pub under_nothing : (nodes : List Node) → IsReduced nodes → (value : ℕ → Option ℕ) (path : Cube) (from id : ℕ) → IsPath nodes value path from id → slice_get nodes id ≡ Some Nothing → from ≤ 112 → AreRowsUnder value path from []
under_nothing nodes r value path from id p e l =
    record {
      each = All-nil _;
      under = All-nil _;
      every = λ c w a.
          let b = bits_below c in
          let i = in_from_mask c c.bits c.digits in
          let s = w.something c.bits b i in
          let v : value c.bits ≡ None = p.leads c.bits b (agrees_alike path c from c.bits a (in_agrees c from c.bits l i)) ∙ (meaning_model nodes r).equation id Nothing e c.bits in
          absurd (not_some (value c.bits) v s);
      ordered = pairs_nil;
    }

pub value_there : (nodes : List Node) → IsReduced nodes → (value : ℕ → Option ℕ) (path : Cube) (from id v : ℕ) → IsPath nodes value path from id → slice_get nodes id ≡ Some (Value v) → from ≤ 112 → (h : ℕ) → h < 2 ^ 112 → IsIn path h → value h ≡ Some v
value_there nodes r value path from id v p e l h b i = p.leads h b (in_agrees path from h l i) ∙ (meaning_model nodes r).equation id (Value v) e h

pub under_value : (nodes : List Node) → IsReduced nodes → (value : ℕ → Option ℕ) (path : Cube) (from id v : ℕ) → IsPath nodes value path from id → slice_get nodes id ≡ Some (Value v) → from ≤ 112 → AreRowsUnder value path from (path ∷ [])
under_value nodes r value path from id v p e l =
    let q = tested_read nodes id (Value v) e in
    record {
      each = All-cons (IsRow value) path [] (record { something = λ h b i. subst IsSome (sym (value_there nodes r value path from id v p e l h b i)) refl; star = λ k m. elim (cases_lt k from) [ inl x ↦ p.stars k x | inr x ↦ (λ _. ignores nodes r value path from id p path k (λ i _. refl) x (omega (arith, q, m)) m, λ _. p.free k x m) ] }) (All-nil _);
      under = All-cons (AlikeBefore path from) path [] (λ i _. refl) (All-nil _);
      every = λ c w a. (0, omega arith, digits_tell c path (alike_back path c 112 (alike_on nodes r value path from id 112 p c w a (omega (arith, q)) (omega arith))));
      ordered = AllPairs-cons ComesBefore path [] (All-nil _) (pairs_nil);
    }

-- ---- down a path
step_path : (nodes : List Node) → IsReduced nodes → (value : ℕ → Option ℕ) (path half : Cube) (from id k low high child b : ℕ) → IsPath nodes value path from id → slice_get nodes id ≡ Some (Split k low high) → from ≤ k → k < 112 → k < tested_at nodes child → child < length nodes → HasDigit k b path half → ((h : ℕ) → bit_of h k ≡ b → meaning nodes id h ≡ meaning nodes child h) → IsPath nodes value half (suc k) child
step_path nodes r value path half from id k low high child b p e l w o below d reads =
    let alike : AlikeBefore path k half = λ i m. d.others i (omega (arith, m, w)) (λ u. omega (arith, u, m)) in
    record {
      below = below;
      order = o;
      free = λ j m n. none_kept (digit_at path j) (digit_at half j) (d.others j n (λ u. omega (arith, u, m))) (p.free j (omega (arith, l, m)) n);
      leads = λ h x f.
          let g : AgreesBefore path from h = agrees_alike path half from h (λ i m. alike i (omega (arith, m, l))) (earlier half from (suc k) h (omega (arith, l)) f) in
          p.leads h x g ∙ reads h (subst (λ o. IfSome o (λ y. bit_of h k ≡ y)) d.there (f k (omega arith)));
      stars = λ j m. elim (cases_lt j from) [
        | inl x ↦
            let s = p.stars j x in (
              λ n h y f. s.0 (none_kept (digit_at half j) (digit_at path j) (sym (alike j (omega (arith, x, l)))) n) h y (agrees_alike path half j h (λ i u. alike i (omega (arith, u, x, l))) f),
              λ f. none_kept (digit_at path j) (digit_at half j) (alike j (omega (arith, x, l))) (s.1 (λ h y g. f h y (agrees_alike half path j h (alike_back path half j (λ i u. alike i (omega (arith, u, x, l)))) g))),
            )
        | inr x ↦ elim (cases_eq j k) [
          | inl q ↦ (
            λ n. absurd (not_none (digit_at half k) b d.there (subst (λ z. IsNone (digit_at half z)) q n)),
            λ f. absurd (matters nodes r value path from id k low high p e half alike l w (subst (Ignores value half) q f)),
          )
          | inr n ↦
              let y : j < k = omega (arith, m, n) in
              let t = tested_read nodes id (Split k low high) e in (
                λ _. ignores nodes r value path from id p half j (λ i u. alike i (omega (arith, u, l))) x (omega (arith, t, y)) (omega (arith, y, w)),
                λ _. none_kept (digit_at path j) (digit_at half j) (alike j y) (p.free j x (omega (arith, y, w))),
              )
        ]
      ];
    }

pub path_zeros : (nodes : List Node) → IsReduced nodes → (value : ℕ → Option ℕ) (path half : Cube) (from id k low high : ℕ) → IsPath nodes value path from id → slice_get nodes id ≡ Some (Split k low high) → HasDigit k 0 path half → IsPath nodes value half (suc k) low
path_zeros nodes r value path half from id k low high p e d =
    let o = r.ordered id (Split k low high) e in
    let b = r.below id (Split k low high) e in
    let l = p.below in
    let t = tested_read nodes id (Split k low high) e in
    let f = p.order in
    let b0 = b.0 in
    step_path nodes r value path half from id k low high low 0 p e (omega (arith, f, t)) o.0 o.1 (omega (arith, b0, l)) d (λ h z. read_zero nodes r id k low high h e z)

pub path_ones : (nodes : List Node) → IsReduced nodes → (value : ℕ → Option ℕ) (path half : Cube) (from id k low high : ℕ) → IsPath nodes value path from id → slice_get nodes id ≡ Some (Split k low high) → HasDigit k 1 path half → IsPath nodes value half (suc k) high
path_ones nodes r value path half from id k low high p e d =
    let o = r.ordered id (Split k low high) e in
    let b = r.below id (Split k low high) e in
    let l = p.below in
    let t = tested_read nodes id (Split k low high) e in
    let f = p.order in
    let b1 = b.1 in
    step_path nodes r value path half from id k low high high 1 p e (omega (arith, f, t)) o.0 o.2 (omega (arith, b1, l)) d (λ h z. read_one nodes r id k low high h e z)

-- a half is free from the next bit on
pub free_half : (path half : Cube) (k b n : ℕ) → HasDigit k b path half → k < n → ((j : ℕ) → k ≤ j → j < 112 → IsStar path j) → (j : ℕ) → n ≤ j → j < 112 → IsStar half j
free_half path half k b n d l f j m w = none_kept (digit_at path j) (digit_at half j) (d.others j w (λ u. omega (arith, u, m, l))) (f j (omega (arith, m, l)) w)

-- ---- both halves of a path
pairs_append : (xs ys : List Cube) → AllPairs ComesBefore xs → AllPairs ComesBefore ys → All (λ x. All (ComesBefore x) ys) xs → AllPairs ComesBefore (xs ++ ys)
pairs_append [] ys a b c = b
pairs_append (x ∷ xs) ys a b c =
    AllPairs-cons ComesBefore x (xs ++ ys) (All-append (ComesBefore x) xs ys (pairs_head x xs a) (All-head (λ q. All (ComesBefore q) ys) x xs c)) (pairs_append xs ys (pairs_tail x xs a) b (All-tail (λ q. All (ComesBefore q) ys) x xs c))

half_alike : (path half : Cube) (from k b : ℕ) → HasDigit k b path half → from ≤ k → k < 112 → (c : Cube) → AlikeBefore half (suc k) c → AlikeBefore path from c
half_alike path half from k b d l w c a i m = a i (omega (arith, m, l)) ∙ d.others i (omega (arith, m, l, w)) (λ u. omega (arith, u, m, l))

-- a row under the path with this digit at bit k stands under that half
under_half : (path half : Cube) (k b : ℕ) → HasDigit k b path half → k < 112 → (c : Cube) → AlikeBefore path k c → digit_at c k ≡ Some b → AlikeBefore half (suc k) c
under_half path half k b d w c a e i m =
    elim (cases_eq i k) [
      | inl q ↦ subst (λ z. digit_at c z ≡ digit_at half z) (sym q) (e ∙ sym d.there)
      | inr n ↦ let l : i < k = omega (arith, m, n) in a i l ∙ sym (d.others i (omega (arith, l, w)) n)
    ]

digit_cases : (c : Cube) (k : ℕ) → (IsStar c k → ⊥) → (digit_at c k ≡ Some 0) ⊎ (digit_at c k ≡ Some 1)
digit_cases c k n =
    elim (cases_eq (bit_of c.fixed k) 0) [
      | inl z ↦ absurd (n (free_star c k z))
      | inr m ↦
          let f : bit_of c.fixed k ≡ 1 = (let l = bit_at-lt c.fixed (111 - k) in omega (arith, l, m)) in
          elim (cases_eq (bit_of c.bits k) 0) [
            | inl y ↦ inl (digit_there c k 0 f y)
            | inr y ↦ inr (digit_there c k 1 f (let l = bit_at-lt c.bits (111 - k) in omega (arith, l, y)))
          ]
    ]

pub under_both : (nodes : List Node) → IsReduced nodes → (value : ℕ → Option ℕ) (path zeros ones : Cube) (from id k low high : ℕ) (xs ys : List Cube) → IsPath nodes value path from id → slice_get nodes id ≡ Some (Split k low high) → HasDigit k 0 path zeros → HasDigit k 1 path ones → AreRowsUnder value zeros (suc k) xs → AreRowsUnder value ones (suc k) ys → AreRowsUnder value path from (xs ++ ys)
under_both nodes r value path zeros ones from id k low high xs ys p e d g a b =
    let o = r.ordered id (Split k low high) e in
    let t = tested_read nodes id (Split k low high) e in
    let f = p.order in
    let w = o.0 in
    let l : from ≤ k = omega (arith, f, t) in
    record {
      each = All-append (IsRow value) xs ys a.each b.each;
      under = All-append (AlikeBefore path from) xs ys (All-weaker (AlikeBefore zeros (suc k)) (AlikeBefore path from) (half_alike path zeros from k 0 d l w) xs a.under) (All-weaker (AlikeBefore ones (suc k)) (AlikeBefore path from) (half_alike path ones from k 1 g l w) ys b.under);
      every = λ c row alike.
          let on = alike_on nodes r value path from id k p c row alike (omega (arith, t)) (omega (arith, w)) in
          elim (digit_cases c k (λ s. matters nodes r value path from id k low high p e c on l w ((row.star k w).0 s))) [
            | inl z ↦ Contains-append_left xs ys c (a.every c row (under_half path zeros k 0 d w c on z))
            | inr z ↦ Contains-append_right xs ys c (b.every c row (under_half path ones k 1 g w c on z))
          ];
      ordered = pairs_append xs ys a.ordered b.ordered (All-weaker (AlikeBefore zeros (suc k)) (λ x. All (ComesBefore x) ys) (λ x u. All-weaker (AlikeBefore ones (suc k)) (ComesBefore x) (λ y v. comes x y u v w) ys b.under) xs a.under);
    }
  where
    comes : (x y : Cube) → AlikeBefore zeros (suc k) x → AlikeBefore ones (suc k) y → k < 112 → ComesBefore x y
    comes x y u v w =
        record {
          first = k;
          within = w;
          same = λ i m. u i (omega (arith, m)) ∙ (d.others i (omega (arith, m, w)) (λ q. omega (arith, q, m)) ∙ (sym (g.others i (omega (arith, m, w)) (λ q. omega (arith, q, m))) ∙ sym (v i (omega (arith, m)))));
          zero_there = u k (omega arith) ∙ d.there;
          one_there = v k (omega arith) ∙ g.there;
        }

-- ---- headers under a path
agrees_at_star : (c : Cube) (h i : ℕ) → IsStar c i → AgreesAt c h i
agrees_at_star c h i s = if_none (digit_at c i) s
  where
    if_none : (o : Option ℕ) → IsNone o → IfSome o (λ b. bit_of h i ≡ b)
    if_none None n = tt
    if_none (Some x) n = absurd cc

-- a header with the path's digits is in its cube
in_path : (nodes : List Node) (value : ℕ → Option ℕ) (path : Cube) (from id h : ℕ) → IsPath nodes value path from id → AgreesBefore path from h → IsIn path h
in_path nodes value path from id h p a k l =
    elim (cases_lt k from) [
      | inl x ↦ a k x
      | inr x ↦ agrees_at_star path h k (p.free k x l)
    ]

bit_cases : (h k : ℕ) → (bit_of h k ≡ 0) ⊎ (bit_of h k ≡ 1)
bit_cases h k =
    elim (cases_eq (bit_of h k) 0) [
      | inl z ↦ inl z
      | inr n ↦ inr (let l = bit_at-lt h (111 - k) in omega (arith, l, n))
    ]

-- with its bit k it has the digits of that half
agrees_half : (nodes : List Node) (value : ℕ → Option ℕ) (path half : Cube) (from id k b h : ℕ) → IsPath nodes value path from id → HasDigit k b path half → k < 112 → AgreesBefore path from h → bit_of h k ≡ b → AgreesBefore half (suc k) h
agrees_half nodes value path half from id k b h p d w a e i l =
    elim (cases_eq i k) [
      | inl q ↦ subst (λ o. IfSome o (λ x. bit_of h i ≡ x)) (sym (ap (digit_at half) q ∙ d.there)) (ap (bit_of h) q ∙ e)
      | inr n ↦ subst (λ o. IfSome o (λ x. bit_of h i ≡ x)) (sym (d.others i (omega (arith, l, w)) n)) (in_path nodes value path from id h p a i (omega (arith, l, w)))
    ]

-- ---- one of two lists holds a header
any_left : (h : ℕ) (xs ys : List Piece) → Any (λ q. IsIn q.cube h) xs → Any (λ q. IsIn q.cube h) (xs ++ ys)
any_left h xs ys a =
    let c = Contains-append_left xs ys a.1 (a.0, a.2, a.3) in
    (c.0, a.1, c.1, c.2, a.4)

any_right : (h : ℕ) (xs ys : List Piece) → Any (λ q. IsIn q.cube h) ys → Any (λ q. IsIn q.cube h) (xs ++ ys)
any_right h xs ys a =
    let c = Contains-append_right xs ys a.1 (a.0, a.2, a.3) in
    (c.0, a.1, c.1, c.2, a.4)

-- what has the path's digits lies in its cube
inside_path : (nodes : List Node) (value : ℕ → Option ℕ) (path : Cube) (from id : ℕ) (c : Cube) → IsPath nodes value path from id → from ≤ 112 → AlikeBefore path from c → IsInside c path
inside_path nodes value path from id c p l a h i = in_path nodes value path from id h p (agrees_alike path c from h a (in_agrees c from h l i))

-- ---- with their values
pub adds_nothing : (nodes : List Node) → IsReduced nodes → (value : ℕ → Option ℕ) (path : Cube) (from id : ℕ) (old : List Piece) → IsPath nodes value path from id → slice_get nodes id ≡ Some Nothing → AddsRows value path from old old
adds_nothing nodes r value path from id old p e =
    let t = tested_read nodes id Nothing e in
    let f = p.order in
    record {
      pieces = [];
      added = sym (append-nil old);
      values = All-nil _;
      rows = under_nothing nodes r value path from id p e (omega (arith, f, t));
      covers = λ h b a s. absurd (not_some (value h) (p.leads h b a ∙ (meaning_model nodes r).equation id Nothing e h) s);
    }

pub adds_value : (nodes : List Node) → IsReduced nodes → (value : ℕ → Option ℕ) (path : Cube) (from id v : ℕ) (old : List Piece) (piece : Piece) → piece.cube ≡ path → piece.value ≡ v → IsPath nodes value path from id → slice_get nodes id ≡ Some (Value v) → AddsRows value path from old (old ++ piece ∷ [])
adds_value nodes r value path from id v old piece c q p e =
    let t = tested_read nodes id (Value v) e in
    let f = p.order in
    let l : from ≤ 112 = omega (arith, f, t) in
    record {
      pieces = piece ∷ [];
      added = refl;
      values = All-cons (HasValue value) piece [] (λ h b i. value_there nodes r value path from id v p e l h b (subst (λ z. IsIn z h) c i) ∙ ap Some (sym q)) (All-nil _);
      rows = subst (λ z. AreRowsUnder value path from (z ∷ [])) (sym c) (under_value nodes r value path from id v p e l);
      covers = λ h b a s. (0, piece, omega arith, refl, subst (λ z. IsIn z h) (sym c) (in_path nodes value path from id h p a));
    }

pub adds_both : (nodes : List Node) → IsReduced nodes → (value : ℕ → Option ℕ) (path zeros ones : Cube) (from id k low high : ℕ) (old middle new : List Piece) → IsPath nodes value path from id → slice_get nodes id ≡ Some (Split k low high) → HasDigit k 0 path zeros → HasDigit k 1 path ones → AddsRows value zeros (suc k) old middle → AddsRows value ones (suc k) middle new → AddsRows value path from old new
adds_both nodes r value path zeros ones from id k low high old middle new p e d g a b =
    record {
      pieces = a.pieces ++ b.pieces;
      added = b.added ∙ (ap (λ xs. xs ++ b.pieces) a.added ∙ append_assoc old a.pieces b.pieces);
      values = All-append (HasValue value) a.pieces b.pieces a.values b.values;
      rows = subst (AreRowsUnder value path from) (sym (map-append (λ q. q.cube) a.pieces b.pieces)) (under_both nodes r value path zeros ones from id k low high (cubes_of a.pieces) (cubes_of b.pieces) p e d g a.rows b.rows);
      covers = λ h y f s.
          let o = r.ordered id (Split k low high) e in
          let w = o.0 in
          elim (bit_cases h k) [
            | inl z ↦ any_left h a.pieces b.pieces (a.covers h y (agrees_half nodes value path zeros from id k 0 h p d w f z) s)
            | inr z ↦ any_right h a.pieces b.pieces (b.covers h y (agrees_half nodes value path ones from id k 1 h p g w f z) s)
          ];
    }

-- ---- from the root
pub root_path : (nodes : List Node) → (id : ℕ) (all : Cube) → id < length nodes → ((k : ℕ) → k < 112 → IsStar all k) → IsPath nodes (meaning nodes id) all 0 id
root_path nodes id all l s =
    record { below = l; order = omega arith; free = λ k _ m. s k m; leads = λ h b a. refl; stars = λ k m. absurd (omega (arith, m)) }

pub rows_of_root : (value : ℕ → Option ℕ) (all : Cube) (new : List Piece) → AddsRows value all 0 [] new → AreRows value (cubes_of new) × All (HasValue value) new
rows_of_root value all new a =
    let e : new ≡ a.pieces = a.added in (
      subst (λ z. AreRows value (cubes_of z)) (sym e) (record { each = a.rows.each; every = λ c row. a.rows.every c row (λ i m. absurd (omega (arith, m))); ordered = a.rows.ordered }),
      subst (All (HasValue value)) (sym e) a.values,
    )

-- ---- from the end of a path
pub rows_of_path : (nodes : List Node) (value : ℕ → Option ℕ) (path : Cube) (from id : ℕ) (new : List Piece) → IsPath nodes value path from id → from ≤ 112 → AddsRows value path from [] new → AreRowsWithin value path new
rows_of_path nodes value path from id new p l a =
    subst (AreRowsWithin value path) (sym a.added) (record {
      each = a.rows.each;
      inside = All-weaker (AlikeBefore path from) (λ c. IsInside c path) (λ c u. inside_path nodes value path from id c p l u) (cubes_of a.pieces) a.rows.under;
      covers = λ h b i s. a.covers h b (in_agrees path from h l i) s;
      ordered = a.rows.ordered;
      values = a.values;
    })

-- cubes that a test finds equal are one
pub one_cube : (c d : Cube) (differ : Bool) → differ ≡ not (c.fixed == d.fixed && c.bits == d.bits) → differ ≡ false → c ≡ d
one_cube c d differ e f =
    elim (eqb_tells c.fixed d.fixed) [
      | inl x ↦ elim (eqb_tells c.bits d.bits) [
        | inl y ↦ same_cube c d x.1 y.1
        | inr y ↦ let p = x.0 in let q = y.0 in absurd cc
      ]
      | inr x ↦ let p = x.0 in absurd cc
    ]
