-- What is remembered of entries, by their cubes.
use Rattle.std.proofs.Common.{◌≡◌, ◌⊎◌, inl, inr, Bool, true, false, if◌then◌else◌, List, [], ◌∷◌, map, slice_get, Some, All, Contains, refl, sym, ap, subst, ◌∙◌}
use Rattle.std.specs.Prelude.{Decides, option_map}
use Rattle.std.specs.Cmp.Lexicographic.{pointwise}
use Rattle.std.specs.List.{AllByRecursion}
use Rattle.std.proofs.lemmas.Bool.Decides.{Decides-and, Decides-like, Decides-eqb}
use Rattle.std.proofs.lemmas.Slice.Eq.{slice_eq-Decides}
use Rattle.std.proofs.lemmas.Option.{slice_get-map, slice_get_within, get_or_from_slice_get}
use Rattle.std.proofs.lemmas.List.Elements.{All-contains_itself, All-from_recursion, All-weaker, recursion_from_All}
use Rattle.std.proofs.lemmas.Map.Entries.{place_from_lookup}
use Rattle.indexmap.specs.IndexMap.{IndexMap, get_by, insert_entry}
use Rattle.hdr_bits.specs.declared.cube.Cube.{Cube}
use Rattle.hdr_bits.specs.contracts.cube.CubePartialEq.TheImpl.{eq-value}
use Rattle.hdr_bits.proofs.CubeLemmas.{same_cube}
use Rattle.cube_diagram.specs.declared.entry_memo.EntryNumber.{EntryNumber}

-- the derived test decides equality
cube_decides : (c d : Cube) → Decides (eq-value.it c d) (c ≡ d)
cube_decides c d = Decides-like (eq-value.it c d) (λ p. same_cube c d p.0 p.1) (λ e. (ap (λ (x : Cube). x.fixed) e, ap (λ (x : Cube). x.bits) e)) (Decides-and _ _ (Decides-eqb c.fixed d.fixed) (Decides-eqb c.bits d.bits))

cubes_same : (xs ys : List Cube) → pointwise eq-value.it xs ys ≡ true → xs ≡ ys
cubes_same xs ys h = (slice_eq-Decides cube_decides xs ys (pointwise eq-value.it xs ys) refl).0 h

module _ {K : Type 0} (items : K → List Cube) where
  abbrev shown : K × EntryNumber → List Cube × EntryNumber
  shown e = (items e.0, e.1)

  -- what is found of cubes is remembered of them
  pub found : {S : Type 0} (m : IndexMap K EntryNumber S) (cubes : List Cube) (known : EntryNumber) → get_by (λ k. pointwise eq-value.it cubes (items k)) m ≡ Some known → Contains (map shown m.entries) (cubes, known)
  found m cubes known h =
      let p = place_from_lookup (λ k. pointwise eq-value.it cubes (items k)) m.entries known h in
      let same : cubes ≡ items p.1 = cubes_same cubes (items p.1) p.3 in
      let at : slice_get (map shown m.entries) p.0 ≡ Some (cubes, known) = slice_get-map shown m.entries p.0 ∙ ap (option_map shown) p.2 ∙ (λ i. Some (sym same i, known)) in
      (p.0, slice_get_within (map shown m.entries) p.0 (cubes, known) at, get_or_from_slice_get (map shown m.entries) p.0 (cubes, known) (cubes, known) at)

  abbrev IsOld : List (List Cube × EntryNumber) → List Cube × EntryNumber → List Cube × EntryNumber → Type 0
  IsOld old new e = (e ≡ new) ⊎ Contains old e

  abbrev Are : List (List Cube × EntryNumber) → List Cube × EntryNumber → List (K × EntryNumber) → Type 0
  Are old new es = AllByRecursion (IsOld old new) (map shown es)

  abbrev with_entry : List (K × EntryNumber) → K → EntryNumber → List (K × EntryNumber)
  with_entry es key known = insert_entry (λ k l. pointwise eq-value.it (items k) (items l)) es key known

  one_more : (old : List (List Cube × EntryNumber)) (key : K) (known : EntryNumber) (es : List (K × EntryNumber)) → Are old (items key, known) es → Are old (items key, known) (with_entry es key known)
  one_more old key known [] h = (inl refl, tt)
  one_more old key known (e ∷ es) h = by (pointwise eq-value.it (items key) (items e.0)) refl (one_more old key known es h.1)
    where
      by : (b : Bool) → pointwise eq-value.it (items key) (items e.0) ≡ b → Are old (items key, known) (with_entry es key known) → Are old (items key, known) (with_entry (e ∷ es) key known)
      by true t more = subst (λ b. Are old (items key, known) (if b then (e.0, known) ∷ es else e ∷ with_entry es key known)) (sym t) (inl (λ i. (sym (cubes_same (items key) (items e.0) t) i, known)), h.1)
      by false t more = subst (λ b. Are old (items key, known) (if b then (e.0, known) ∷ es else e ∷ with_entry es key known)) (sym t) (h.0, more)

  -- where an entry comes to what is remembered, it alone is new
  pub remembered : (es new : List (K × EntryNumber)) (key : K) (known : EntryNumber) (cubes : List Cube) (old : List (List Cube × EntryNumber)) → map shown es ≡ old → items key ≡ cubes → new ≡ insert_entry (λ k l. pointwise eq-value.it (items k) (items l)) es key known → All (λ e. (e ≡ (cubes, known)) ⊎ Contains old e) (map shown new)
  remembered es new key known cubes old shows same grows =
      let given : List Cube × EntryNumber = (items key, known) in
      let before = map shown es in
      let all : All (IsOld before given) before = All-weaker (Contains before) (IsOld before given) (λ e h. inr h) before (λ k d l. All-contains_itself before k d l) in
      let after : All (IsOld before given) (map shown (with_entry es key known)) = All-from_recursion (IsOld before given) _ (one_more before key known es (recursion_from_All (IsOld before given) before all)) in
      let at : All (IsOld before given) (map shown new) = subst (λ xs. All (IsOld before given) (map shown xs)) (sym grows) after in
      let by_cubes : All (IsOld before (cubes, known)) (map shown new) = subst (λ cs. All (IsOld before (cs, known)) (map shown new)) same at in
      subst (λ xs. All (IsOld xs (cubes, known)) (map shown new)) shows by_cubes
