-- From the entries of two halves to those of the whole.
use Rattle.std.proofs.Common.{ℕ, ◌≡◌, ◌<◌, ◌-◌, suc, zero, inl, inr, List, [], ◌∷◌, ◌++◌, refl, ap, sym, ◌∙◌, subst, arith, All, AllPairs, Any}
use Rattle.std.proofs.lemmas.Bool.{cases_eq}
use Rattle.std.proofs.lemmas.Nat.Bits.{bit_at-lt}
use Rattle.std.proofs.lemmas.List.{append_assoc}
use Rattle.std.proofs.lemmas.List.Elements.{All-append, All-weaker, All-nil, All-cons, All-head, All-tail}
use Rattle.std.proofs.lemmas.List.Quantifiers.{Any-push}
use Rattle.std.proofs.lemmas.List.Kept.{AllPairs-cons}
use Rattle.hdr_bits.specs.declared.cube.Cube.{Cube}
use Rattle.hdr_bits.specs.HeaderBits.{number}
use Rattle.hdr_bits.specs.Bits.{bit_of}
use Rattle.hdr_bits.specs.CubeBits.{IsIn, IsStar}
use Rattle.cube_alg.specs.Pairs.{IsInside}
use Rattle.cube_alg.proofs.CutLemmas.{Halves, one_of, in_all}
use Rattle.net_types.specs.declared.network.Place.{Place}
use Rattle.net_types.specs.World.{World}
use Rattle.device_transfers.specs.declared.transfer.TransferEntry.{TransferEntry}
use Rattle.device_transfers.specs.Transfers.{IsEntry, AreApartEntries, HoldEveryHeader, AreEntriesOf, AddsEntries}

pairs_nil : AllPairs AreApartEntries []
pairs_nil i j d a b = absurd (omega arith)

pairs_head : (x : TransferEntry) (xs : List TransferEntry) → AllPairs AreApartEntries (x ∷ xs) → All (AreApartEntries x) xs
pairs_head x xs a = λ k d l. a 0 (suc k) d (omega arith) (omega arith)

pairs_tail : (x : TransferEntry) (xs : List TransferEntry) → AllPairs AreApartEntries (x ∷ xs) → AllPairs AreApartEntries xs
pairs_tail x xs a = λ i j d l m. a (suc i) (suc j) d (omega arith) (omega arith)

pairs_append : (xs ys : List TransferEntry) → AllPairs AreApartEntries xs → AllPairs AreApartEntries ys → All (λ x. All (AreApartEntries x) ys) xs → AllPairs AreApartEntries (xs ++ ys)
pairs_append [] ys a b c = b
pairs_append (x ∷ xs) ys a b c =
    AllPairs-cons AreApartEntries x (xs ++ ys) (All-append (AreApartEntries x) xs ys (pairs_head x xs a) (All-head (λ q. All (AreApartEntries q) ys) x xs c)) (pairs_append xs ys (pairs_tail x xs a) b (All-tail (λ q. All (AreApartEntries q) ys) x xs c))

module _ {X : Type 0} (P : X → Type 0) where
  any_more : (x : X) (xs : List X) → Any P xs → Any P (x ∷ xs)
  any_more x xs a = (suc a.0, a.1, omega (arith, a.2), a.3, a.4)

  any_left : (xs ys : List X) → Any P xs → Any P (xs ++ ys)
  any_left [] ys a = absurd (omega (arith, a.2))
  any_left (x ∷ xs) ys (zero, y, l, e, p) = (0, y, omega arith, e, p)
  any_left (x ∷ xs) ys (suc k, y, l, e, p) = any_more x (xs ++ ys) (any_left xs ys (k, y, omega (arith, l), e, p))

  any_right : (xs ys : List X) → Any P ys → Any P (xs ++ ys)
  any_right [] ys a = a
  any_right (x ∷ xs) ys a = any_more x (xs ++ ys) (any_right xs ys a)

module _ (w : World) (p : Place) where
  -- ---- one entry
  one_entry : (e : TransferEntry) → IsEntry w p e → AreEntriesOf w p e.cube (e ∷ [])
  one_entry e right =
      record {
        inside = All-cons (λ x. IsInside x.cube e.cube) e [] (λ h i. i) (All-nil _);
        apart = AllPairs-cons AreApartEntries e [] (All-nil _) pairs_nil;
        covers = λ n i. Any-push (λ x. IsIn x.cube n) [] e i;
        each = All-cons (IsEntry w p) e [] right (All-nil _);
      }

  pub adds_one : (e : TransferEntry) (old : List TransferEntry) → IsEntry w p e → AddsEntries w p e.cube old (old ++ e ∷ [])
  adds_one e old right = record { entries = e ∷ []; added = refl; right = one_entry e right }

  -- ---- two halves
  join : (k : ℕ) (c low high : Cube) (first second : List TransferEntry) → Halves k c low high → AreEntriesOf w p low first → AreEntriesOf w p high second → AreEntriesOf w p c (first ++ second)
  join k c low high first second s a b =
      let In : TransferEntry → Type 0 = λ x. IsInside x.cube c in
      let not_both : (h : ℕ) → IsIn low h → IsIn high h → ⊥ = λ h x y. let u = (s.zero_side h).0 x in let v = (s.one_side h).0 y in absurd (omega (arith, u.1, v.1)) in
      record {
        inside = All-append In first second (All-weaker (λ x. IsInside x.cube low) In (λ x f h i. ((s.zero_side h).0 (f h i)).0) first a.inside) (All-weaker (λ x. IsInside x.cube high) In (λ x f h i. ((s.one_side h).0 (f h i)).0) second b.inside);
        apart = pairs_append first second a.apart b.apart (All-weaker (λ x. IsInside x.cube low) (λ x. All (AreApartEntries x) second) (λ x f. All-weaker (λ y. IsInside y.cube high) (AreApartEntries x) (λ y g h i j. not_both h (f h i) (g h j)) second b.inside) first a.inside);
        covers = λ n m. elim (cases_eq (bit_of n k) 0) [
          | inl e ↦ any_left (λ x. IsIn x.cube n) first second (a.covers n ((s.zero_side n).1 (m, e)))
          | inr e ↦ any_right (λ x. IsIn x.cube n) first second (b.covers n ((s.one_side n).1 (m, (let l = bit_at-lt n (111 - k) in one_of (bit_of n k) l e))))
        ];
        each = All-append (IsEntry w p) first second a.each b.each;
      }

  pub adds_halves : (k : ℕ) (c low high : Cube) (old middle new : List TransferEntry) → Halves k c low high → AddsEntries w p low old middle → AddsEntries w p high middle new → AddsEntries w p c old new
  adds_halves k c low high old middle new s a b =
      record {
        entries = a.entries ++ b.entries;
        added = b.added ∙ (ap (λ x. x ++ b.entries) a.added ∙ append_assoc old a.entries b.entries);
        right = join k c low high a.entries b.entries s a.right b.right;
      }

  -- ---- all headers

  -- what was added to nothing
  pub entries_of_added : (c : Cube) (old new : List TransferEntry) → AddsEntries w p c old new → old ≡ [] → AreEntriesOf w p c new
  entries_of_added c old new a e = subst (AreEntriesOf w p c) (sym (a.added ∙ ap (λ x. x ++ a.entries) e)) a.right

  pub hold_every : (all : Cube) (es : List TransferEntry) → ((k : ℕ) → k < 112 → IsStar all k) → AreEntriesOf w p all es → HoldEveryHeader es
  hold_every all es stars a h v = a.covers (number h) (in_all all (number h) stars)
