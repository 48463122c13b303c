-- From sets of headers to answers.
use Rattle.std.proofs.Common.{ℕ, ◌≡◌, ◌<◌, ◌+◌, inl, inr, Bool, true, false, cond, ◌&&◌, List, [], ◌∷◌, ◌++◌, Option, Some, None, take, length, get_or, refl, sym, ap, subst, ◌∙◌}
use Rattle.std.specs.Prelude.{Contains, IsSome}
use Rattle.std.specs.List.{AllZip}
use Rattle.std.proofs.lemmas.Bool.{cases_lt}
use Rattle.std.proofs.lemmas.Bool.Decides.{Decides-eqb}
use Rattle.std.proofs.lemmas.List.{take_more}
use Rattle.std.proofs.lemmas.List.Elements.{Contains-append_cases}
use Rattle.hdr_bits.specs.declared.header.Header.{Header}
use Rattle.hdr_bits.specs.HeaderBits.{number, IsHeader}
use Rattle.hdr_bits.specs.CubeBits.{IsIn}
use Rattle.hdr_bits.proofs.Numbers.{number-below}
use Rattle.cube_diagram.specs.Functions.{Functions, GivesNothing, IsFirst, Keeps, count_of, value_at}
use Rattle.net_types.specs.declared.network.Place.{Place}
use Rattle.net_types.specs.World.{World, same_place}
use Rattle.net_types.proofs.Members.{in_none, in_one}
use Rattle.set_walk.specs.declared.ends.OutcomeSet.{OutcomeSet}
use Rattle.set_walk.specs.Sets.{InSet, IsSetOf}
use Rattle.set_walk.specs.Outcomes.{AreLabels}
use Rattle.set_walk.proofs.SetLemmas.{kept_set, kept_below, no_header}
use Rattle.set_walk.proofs.EndLemmas.{kept_outcome}
use Rattle.ask_query.specs.declared.answers.WalkEnds.{WalkEnds}
use Rattle.net_types.specs.declared.question.Question.{Question}
use Rattle.net_types.specs.Questions.{IsAnswer, ReachesNamed}
use Rattle.net_types.specs.declared.question.Answer.TheVariants as answer
use Rattle.ask_query.specs.Reaching.{EndsNamed, AreEndsFor}
use Rattle.ask_query.specs.Breaking.{AreBreaking, HasFilter, HaveFilters, AreWalks}
use Rattle.ask_query.proofs.ReachingLemmas.{ends_reach}

-- ---- filters
pub with_filter : (t1 t2 t3 : Functions) (there filter r : ℕ) (P F : Header → Type 0) → Keeps t1 t2 → there < count_of t1 → IsSetOf t1 there P → IsSetOf t2 filter F → IsSetOf t3 r (λ h. InSet t2 filter h × InSet t2 there h) → IsSetOf t3 r (λ h. F h × P h)
with_filter t1 t2 t3 there filter r P F k l p f s h v =
    let kept = kept_set t1 t2 there h k l in (
      λ i. let x = (s h v).0 i in ((f h v).0 x.0, (p h v).0 (kept.0 x.1)),
      λ x. (s h v).1 ((f h v).1 x.0, kept.1 ((p h v).1 x.1)),
    )

pub without_those : (t1 t2 t3 : Functions) (those filter r : ℕ) (P F : Header → Type 0) → Keeps t1 t2 → those < count_of t1 → IsSetOf t1 those (λ h. F h × P h) → IsSetOf t2 filter F → IsSetOf t3 r (λ h. InSet t2 filter h × (InSet t2 those h → ⊥)) → IsSetOf t3 r (λ h. F h × (P h → ⊥))
without_those t1 t2 t3 those filter r P F k l p f s h v =
    let kept = kept_set t1 t2 those h k l in (
      λ i. let x = (s h v).0 i in let a = (f h v).0 x.0 in (a, λ y. x.1 (kept.1 ((p h v).1 (a, y)))),
      λ x. (s h v).1 ((f h v).1 x.0, λ i. x.1 ((p h v).0 (kept.0 i)).1),
    )

-- headers of the domain that have an end at the place are those that reach it
pub reach_set : (w : World) (t : ℕ) (q : Question) (f g : Functions) (domain r : ℕ) (ends : List OutcomeSet) → HasFilter f domain q → AreEndsFor w t q.from (InSet f domain) f ends → IsSetOf g r (λ h. IsIn q.filter (number h) × EndsNamed f ends q.to h) → IsSetOf g r (λ h. IsIn q.filter (number h) × ReachesNamed w t q.from q.to h)
reach_set w t q f g domain r ends has all s h v = (
  λ i. let x = (s h v).0 i in (x.0, (ends_reach w t q.from (InSet f domain) f ends q.to h v (has h v x.0) all).0 x.1),
  λ x. (s h v).1 (x.0, (ends_reach w t q.from (InSet f domain) f ends q.to h v (has h v x.0) all).1 x.1),
)

-- ---- the table grows
pub ends_kept : (w : World) (t : ℕ) (p : Place) (f g : Functions) (domain : ℕ) (ends : List OutcomeSet) → Keeps f g → domain < count_of f → AreEndsFor w t p (InSet f domain) f ends → AreEndsFor w t p (InSet g domain) g ends
ends_kept w t p f g domain ends k l a =
    record {
      below = λ x c. kept_below f g x.headers k (a.below x c);
      exact = λ h v i o.
          let e = a.exact h v ((kept_set f g domain h k l).0 i) o in
          let m = kept_outcome f g ends h o k a.below in
          (λ x. e.0 (m.0 x), λ x. m.1 (e.1 x));
    }

pub walks_kept : (w : World) (t : ℕ) (f g : Functions) (domain : ℕ) (walks : Place → Option WalkEnds) → Keeps f g → domain < count_of f → AreWalks w t f domain walks → AreWalks w t g domain walks
walks_kept w t f g domain walks k l a p walk e = ends_kept w t p f g domain walk.ends.items k l (a p walk e)

pub filter_kept : (f g : Functions) (domain : ℕ) (q : Question) → Keeps f g → domain < count_of f → HasFilter f domain q → HasFilter g domain q
filter_kept f g domain q k l a h v i = (kept_set f g domain h k l).1 (a h v i)

-- the ends of a walk of the domain
pub ends_of_labels : (w : World) (t : ℕ) (p : Place) (f g : Functions) (domain : ℕ) (ends : List OutcomeSet) → Keeps f g → domain < count_of f → AreLabels w f domain p t g ends → AreEndsFor w t p (InSet g domain) g ends
ends_of_labels w t p f g domain ends k l a =
    record {
      below = a.below;
      exact = λ h v i o. let e = a.exact h v o in (λ x. (e.0 x).1, λ x. e.1 ((kept_set f g domain h k l).0 i, x));
    }

-- ---- walks that are known
both : (a b : Bool) → (a && b) ≡ true → (a ≡ true) × (b ≡ true)
both true b e = (refl, e)
both false b e = absurd cc

place_is : (p q : Place) → same_place p q ≡ true → p ≡ q
place_is p q e =
    let h = both _ _ e in
    λ i. record { device = (Decides-eqb p.device q.device).0 h.0 i; interface = (Decides-eqb p.interface q.interface).0 h.1 i }

some_is : {A : Type 0} {x y : A} → Some x ≡ Some y → x ≡ y
some_is e = cc

pub walk_added : (w : World) (t : ℕ) (f : Functions) (domain : ℕ) (place : Place) (walk : WalkEnds) (before after : Place → Option WalkEnds) → AreWalks w t f domain before → AreEndsFor w t place (InSet f domain) f walk.ends.items → ((p : Place) → after p ≡ cond (same_place place p) (Some walk) (before p)) → AreWalks w t f domain after
walk_added w t f domain place walk before after a mine u p x e = by (same_place place p) refl (sym (u p) ∙ e)
  where
    by : (b : Bool) → same_place place p ≡ b → cond b (Some walk) (before p) ≡ Some x → AreEndsFor w t p (InSet f domain) f x.ends.items
    by true s z = subst (λ q. AreEndsFor w t q (InSet f domain) f x.ends.items) (place_is place p s) (subst (λ (y : WalkEnds). AreEndsFor w t place (InSet f domain) f y.ends.items) (some_is z) mine)
    by false s z = a p x z

pub no_walks : (w : World) (t : ℕ) (f : Functions) (domain : ℕ) (walks : Place → Option WalkEnds) → ((p : Place) → walks p ≡ None) → AreWalks w t f domain walks
no_walks w t f domain walks none p x e = let no : None ≡ Some x = sym (none p) ∙ e in absurd cc

-- ---- all filters
pub filters_none : (f : Functions) (set : ℕ) → HaveFilters f set []
filters_none f set q c = absurd (in_none q c)

pub filters_more : (f g : Functions) (old new : ℕ) (qs : List Question) (i : ℕ) (q : Question) → i < length qs → q ≡ get_or qs i q → HaveFilters f old (take i qs) → HasFilter g new q → ((h : Header) → IsHeader h → InSet f old h → InSet g new h) → HaveFilters g new (take (i + 1) qs)
filters_more f g old new qs i q l e all mine more x c =
    let is : take (i + 1) qs ≡ take i qs ++ q ∷ [] = take_more qs i q l ∙ ap (λ y. take i qs ++ y ∷ []) (sym e) in
    elim (Contains-append_cases (take i qs) (q ∷ []) x (subst (λ zs. Contains zs x) is c)) [
      | inl a ↦ λ h v m. more h v (all x a h v m)
      | inr a ↦ subst (λ y. HasFilter g new y) (in_one q x a) mine
    ]

-- ---- the answer
pub holds : (w : World) (t : ℕ) (q : Question) (f : Functions) (set : ℕ) → GivesNothing (value_at f set) → AreBreaking w t q f set → IsAnswer w t q answer.Holds
holds w t q f set none s h b = no_header f set h none (number-below h b.fits) ((s.exact h b.fits).1 (b.filtered, b.breaks))

pub fails : (w : World) (t : ℕ) (q : Question) (f : Functions) (set : ℕ) (h : Header) → IsHeader h → IsFirst (value_at f set) h → AreBreaking w t q f set → IsAnswer w t q (answer.Fails h)
fails w t q f set h v first s =
    let x = (s.exact h v).0 first.some in
    record {
      is = record { fits = v; filtered = x.0; breaks = x.1 };
      least = λ g b. elim (cases_lt (number g) (number h)) [
        | inl l ↦ absurd (no_value (subst (λ y. IsSome y) (first.least (number g) l) ((s.exact g b.fits).1 (b.filtered, b.breaks))))
        | inr l ↦ l
      ];
    }
  where
    no_value : IsSome {T = ℕ} None → ⊥
    no_value e = cc

-- ---- one after the other
zip_push : {X Y : Type 0} (R : X → Y → Type 0) (xs : List X) (ys : List Y) (x : X) (y : Y) → AllZip R xs ys → R x y → AllZip R (xs ++ x ∷ []) (ys ++ y ∷ [])
zip_push R [] [] x y a r = (r, tt)
zip_push R [] (v ∷ ys) x y a r = absurd a
zip_push R (u ∷ xs) [] x y a r = absurd a
zip_push R (u ∷ xs) (v ∷ ys) x y a r = (a.0, zip_push R xs ys x y a.1 r)

pub zip_more : {X Y : Type 0} (R : X → Y → Type 0) (xs : List X) (ys : List Y) (i : ℕ) (x : X) (y : Y) → i < length xs → x ≡ get_or xs i x → AllZip R (take i xs) ys → R x y → AllZip R (take (i + 1) xs) (ys ++ y ∷ [])
zip_more R xs ys i x y l e a r =
    let all : take (i + 1) xs ≡ take i xs ++ x ∷ [] = take_more xs i x l ∙ ap (λ z. take i xs ++ z ∷ []) (sym e) in
    subst (λ zs. AllZip R zs (ys ++ y ∷ [])) (sym all) (zip_push R (take i xs) ys x y a r)
