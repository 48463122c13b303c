-- The groups of a report, one section after the other.
use Rattle.std.proofs.Common.{◌≡◌, ℕ, ◌+◌, ◌<◌, ◌≤◌, Bool, true, false, cond, suc, List, [], ◌∷◌, ◌++◌, length, take, drop, map, get_or, min, Vec, Global, inl, inr, refl, sym, ap, ◌∙◌, subst, add-one, drop-cons, append_assoc, arith}
use Rattle.std.specs.Prelude.{◌⊎◌}
use Rattle.std.specs.List.{AllZip}
use Rattle.std.specs.Str.{bytes_eq}
use Rattle.std.proofs.lemmas.Bool.{cases_lt}
use Rattle.std.proofs.lemmas.List.{take_all, take-map, take_more}
use Rattle.std.proofs.Math.ListN.{drop_of_length-le}
use Rattle.net_types.specs.declared.network.Names.{Names}
use Rattle.net_types.specs.declared.network.Place.{Place}
use Rattle.net_types.specs.declared.network.Section.{Section}
use Rattle.report_groups.specs.declared.types.Entry.{Entry}
use Rattle.report_groups.specs.Entries.{AreEntries}
use Rattle.report_text.specs.ReportText.{place_text}
use Rattle.why_core.specs.declared.cases.CaseRef.{CaseRef}
use Rattle.view_core.specs.Kinds.{in_order}
use Rattle.why_core.specs.Cases.{AreGroups, Case, agreeing, case_in, cases, cases_at, explained}

-- ---- groups

push_group : (ss : List Section) (gs : List (List Entry)) (s : Section) (g : List Entry) → AreGroups ss gs → AreEntries s.rows g → AreGroups (ss ++ s ∷ []) (gs ++ g ∷ [])
push_group [] [] s g a r = (r, tt)
push_group [] (h ∷ gs) s g a r = absurd a
push_group (u ∷ ss) [] s g a r = absurd a
push_group (u ∷ ss) (h ∷ gs) s g a r = (a.0, push_group ss gs s g a.1 r)

items : List (Vec Entry Global) → List (List Entry)
items gs = map (λ (v : Vec Entry Global). v.items) gs

items_push : (gs : List (Vec Entry Global)) (g : Vec Entry Global) → items (gs ++ g ∷ []) ≡ items gs ++ g.items ∷ []
unfolding items
items_push [] g = refl
items_push (h ∷ gs) g = ap (λ l. h.items ∷ l) (items_push gs g)

-- the groups of one more section
pub more_groups : (ss : List Section) (i : ℕ) (s : Section) (gs after : List (Vec Entry Global)) (g : Vec Entry Global) → i < length ss → s ≡ get_or ss i s → after ≡ gs ++ g ∷ []
    → AreGroups (take i ss) (map (λ (v : Vec Entry Global). v.items) gs) → AreEntries s.rows g.items → AreGroups (take (i + 1) ss) (map (λ (v : Vec Entry Global). v.items) after)
unfolding items
more_groups ss i s gs after g h e pushed a r =
    let all : take (i + 1) ss ≡ take i ss ++ s ∷ [] = take_more ss i s h ∙ ap (λ z. take i ss ++ z ∷ []) (sym e) in
    let both : AreGroups (take i ss ++ s ∷ []) (items gs ++ g.items ∷ []) = push_group (take i ss) (items gs) s g.items a r in
    subst (λ zs. AreGroups zs (items after)) (sym all) (subst (λ l. AreGroups (take i ss ++ s ∷ []) l) (sym (ap items pushed ∙ items_push gs g)) both)

-- ---- cases

no_places : (ss : List Section) (gs : List (List Entry)) → cases ss [] gs ≡ []
no_places [] gs = refl
no_places (s ∷ ss) gs = refl

no_groups : (ss : List Section) (ps : List Place) → cases ss ps [] ≡ []
no_groups [] ps = refl
no_groups (s ∷ ss) [] = refl
no_groups (s ∷ ss) (p ∷ ps) = refl

drop_items : (i : ℕ) (gs : List (Vec Entry Global)) → length gs ≤ i → items (drop i gs) ≡ []
unfolding items
drop_items i gs h = ap items (drop_of_length-le gs h)

-- no more where one of the lists ends
pub no_section : (ss : List Section) (ps : List Place) (gs : List (Vec Entry Global)) (n : ℕ) → n ≡ min (min (length ss) (length ps)) (length gs)
    → cases (drop n ss) (drop n ps) (map (λ (v : Vec Entry Global). v.items) (drop n gs)) ≡ []
unfolding items
no_section ss ps gs n e = go (cases_lt n (length ss)) (cases_lt n (length ps))
  where
    go : (n < length ss) ⊎ (length ss ≤ n) → (n < length ps) ⊎ (length ps ≤ n) → cases (drop n ss) (drop n ps) (items (drop n gs)) ≡ []
    go (inr h) b = ap (λ zs. cases zs (drop n ps) (items (drop n gs))) (drop_of_length-le ss h)
    go (inl h) (inr k) = ap (λ zs. cases (drop n ss) zs (items (drop n gs))) (drop_of_length-le ps k) ∙ no_places (drop n ss) (items (drop n gs))
    go (inl h) (inl k) = ap (cases (drop n ss) (drop n ps)) (drop_items n gs (omega (arith, e, h, k))) ∙ no_groups (drop n ss) (drop n ps)

-- ---- what is explained

pub all_explained : {A : Type 0} (all : Bool) (cs : List A) → (all ≡ true) ⊎ (length cs ≤ 100) → cs ≡ explained all cs
all_explained true cs few = refl
all_explained false cs (inl none) = absurd (cc)
all_explained false cs (inr few) = sym (take_all 100 cs few)

pub first_explained : (all : Bool) (cs first : List CaseRef) → all ≡ false → first ≡ take 100 cs → map case_in first ≡ explained all (map case_in cs)
first_explained true cs first some e = absurd (cc)
first_explained false cs first some e = ap (map case_in) e ∙ sym (take-map case_in 100 cs)

-- ---- ingresses

module _ (report names : Names) where
  nothing_left : (ss : List Section) → agreeing report names ss [] ≡ 0
  nothing_left [] = refl
  nothing_left (s ∷ ss) = refl

  pub at_end : (n : ℕ) (ss : List Section) (ps : List Place) → n ≡ min (length ss) (length ps)
      → agreeing report names ss ps ≡ n + agreeing report names (drop n ss) (drop n ps) → n ≡ agreeing report names ss ps
  at_end n ss ps e all = go (cases_lt (length ss) (length ps))
    where
      go : (length ss < length ps) ⊎ (length ps ≤ length ss) → n ≡ agreeing report names ss ps
      go (inl h) =
          let none : agreeing report names (drop n ss) (drop n ps) ≡ 0 = ap (λ zs. agreeing report names zs (drop n ps)) (drop_of_length-le ss (omega (arith, e, h))) in
          omega (arith, none, all)
      go (inr h) =
          let none : agreeing report names (drop n ss) (drop n ps) ≡ 0 = ap (agreeing report names (drop n ss)) (drop_of_length-le ps (omega (arith, e, h))) ∙ nothing_left (drop n ss) in
          omega (arith, none, all)
