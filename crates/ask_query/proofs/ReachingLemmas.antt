-- The headers that may end at a place.
use Rattle.std.proofs.Common.{ℕ, ◌≡◌, ◌<◌, ◌+◌, ◌⊎◌, ◌↔◌, inl, inr, List, [], ◌∷◌, ◌++◌, Option, Some, None, take, length, get_or, refl, sym, ap, subst, ◌∙◌}
use Rattle.std.specs.Prelude.{Contains, IsSome}
use Rattle.std.proofs.lemmas.List.{take_more}
use Rattle.std.proofs.lemmas.List.Elements.{Contains-append_cases, Contains-append_left, Contains-append_right}
use Rattle.hdr_bits.specs.declared.header.Header.{Header}
use Rattle.hdr_bits.specs.HeaderBits.{number, IsHeader}
use Rattle.cube_diagram.specs.Functions.{Functions, Keeps, count_of, value_at}
use Rattle.net_types.specs.declared.network.Place.{Place}
use Rattle.net_types.specs.World.{World}
use Rattle.net_types.proofs.Members.{here, in_none, in_one}
use Rattle.set_walk.specs.declared.ends.OutcomeSet.{OutcomeSet}
use Rattle.set_walk.specs.Sets.{InSet, IsSetOf}
use Rattle.set_walk.proofs.SetLemmas.{kept_set}
use Rattle.net_types.specs.Questions.{ReachesNamed}
use Rattle.net_types.specs.Questions.{IsAt}
use Rattle.ask_query.specs.Reaching.{EndsAt, EndsNamed, AreEndsFor}
use Rattle.net_types.proofs.QuestionLaws.{reaches_by_label}
use Rattle.loop_search.proofs.WayLemmas.{empty_set}

pub no_name : (f g : Functions) (ends : List OutcomeSet) (set : ℕ) (to : Option Place) → to ≡ None → ((h : ℕ) → value_at g set h ≡ None) → IsSetOf g set (EndsNamed f ends to)
no_name f g ends set to none e h v = (λ i. absurd (empty_set g set e h i), λ n. let q = sym none ∙ n.named in absurd cc)

pub one_name : (f g : Functions) (ends : List OutcomeSet) (set : ℕ) (q : Place) (to : Option Place) → to ≡ Some q → IsSetOf g set (EndsAt f ends q) → IsSetOf g set (EndsNamed f ends to)
one_name f g ends set q to some s h v = (
  λ i. record { place = q; named = some; there = (s h v).0 i },
  λ n. (s h v).1 (let e : q ≡ n.place = let m = sym some ∙ n.named in cc in subst (λ p. EndsAt f ends p h) (sym e) n.there),
)

pub ends_none : (f g : Functions) (set : ℕ) (q : Place) → ((h : ℕ) → value_at g set h ≡ None) → IsSetOf g set (EndsAt f [] q)
ends_none f g set q e h v = (λ i. absurd (empty_set g set e h i), λ n. absurd (in_none n.end n.among))

-- one more end
pub ends_more : (f g k : Functions) (ends : List OutcomeSet) (i : ℕ) (x : OutcomeSet) (q : Place) (old new : ℕ) → Keeps f g → x.headers < count_of f → i < length ends → x ≡ get_or ends i x
    → IsSetOf g old (EndsAt f (take i ends) q) → IsSetOf k new (λ h. InSet g old h ⊎ (InSet g x.headers h × IsAt q x.outcome)) → IsSetOf k new (EndsAt f (take (i + 1) ends) q)
ends_more f g k ends i x q old new kept l b e s t h v =
    let all : take (i + 1) ends ≡ take i ends ++ x ∷ [] = take_more ends i x b ∙ ap (λ y. take i ends ++ y ∷ []) (sym e) in (
      λ m. elim ((t h v).0 m) [
        | inl a ↦ let y = (s h v).0 a in record { end = y.end; among = rw all (Contains-append_left (take i ends) (x ∷ []) y.end y.among); inside = y.inside; there = y.there }
        | inr a ↦ record { end = x; among = rw all (Contains-append_right (take i ends) (x ∷ []) x (here x [])); inside = (kept_set f g x.headers h kept l).0 a.0; there = a.1 }
      ],
      λ y. (t h v).1 (elim (Contains-append_cases (take i ends) (x ∷ []) y.end (subst (λ zs. Contains zs y.end) all y.among)) [
        | inl c ↦ inl ((s h v).1 (record { end = y.end; among = c; inside = y.inside; there = y.there }))
        | inr c ↦ let same = in_one x y.end c in inr ((kept_set f g x.headers h kept l).1 (subst (λ z. InSet f z.headers h) (sym same) y.inside), subst (λ z. IsAt q z.outcome) (sym same) y.there)
      ]),
    )

-- an end at the place is one by which the header reaches it
pub ends_reach : (w : World) (t : ℕ) (p : Place) (P : Header → Type 0) (f : Functions) (ends : List OutcomeSet) (to : Option Place) (h : Header) → IsHeader h → P h → AreEndsFor w t p P f ends → EndsNamed f ends to h ↔ ReachesNamed w t p to h
ends_reach w t p P f ends to h v i a = (
  λ n.
      let e = n.there in
      record { place = n.place; named = n.named; reaches = (reaches_by_label w t p n.place h).1 (record { outcome = e.end.outcome; among = (a.exact h v i e.end.outcome).0 (record { end = e.end; among = e.among; inside = e.inside; is = refl }); there = e.there }) },
  λ r.
      let o = (reaches_by_label w t p r.place h).0 r.reaches in
      let x = (a.exact h v i o.outcome).1 o.among in
      record { place = r.place; named = r.named; there = record { end = x.end; among = x.among; inside = x.inside; there = subst (IsAt r.place) (sym x.is) o.there } },
)
