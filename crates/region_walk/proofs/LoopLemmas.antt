-- Turns of the loops over lists.
use Rattle.std.proofs.Common.{◌≡◌, ℕ, zero, suc, ◌+◌, ◌<◌, ◌≤◌, Bool, List, [], ◌∷◌, ◌++◌, Option, Some, length, take, slice_get, slice_index_or, sym, ap, subst, ◌∙◌, arith}
use Rattle.std.specs.Prelude.{filter_map, flat_map}
use Rattle.std.specs.List.{cons_option}
use Rattle.std.proofs.lemmas.List.{append_assoc, append-nil, take_more}
use Rattle.std.proofs.lemmas.List.Elements.{Contains-append_left, Contains-append_right, filter_map-append}
use Rattle.std.proofs.lemmas.List.Concat.{flat_map-append}
use Rattle.std.proofs.lemmas.Option.{slice_get_past}
use Rattle.net_types.specs.declared.label.Outcome.{Outcome}
use Rattle.transfer_rel.specs.declared.moves.StampMove.{StampMove}
use Rattle.region_walk.specs.declared.visit.Visit.{Visit}
use Rattle.region_walk.specs.Lists.{AddsFrom, items_at, AreNumbersOf}
use Rattle.region_walk.specs.Steps.{AddsNumbers}
use Rattle.region_walk.specs.Spots.{outcome_of_move}
use Rattle.region_walk.specs.Visits.{visit_outcomes}
use Rattle.region_walk.proofs.NumberLemmas.{adds_then, extends_adds, numbers_more, numbers_joined}

module _ {A B : Type 0} where
  -- one more item of a loop that joins lists
  pub grow : (F : List A → List B) → ((xs ys : List A) → F (xs ++ ys) ≡ F xs ++ F ys) → (xs : List A) (k : ℕ) (d z : A) (base mid new : List B) → k < length xs → d ≡ slice_index_or xs k z → mid ≡ base ++ F (take k xs) → new ≡ mid ++ F (d ∷ []) → new ≡ base ++ F (take (k + 1) xs)
  grow F joined xs k d z base mid new l e h g =
      let split : take (k + 1) xs ≡ take k xs ++ (d ∷ []) = subst (λ y. take (k + 1) xs ≡ take k xs ++ (y ∷ [])) (sym e) (take_more xs k z l) in
      g ∙ ap (λ r. r ++ F (d ∷ [])) h ∙ append_assoc base (F (take k xs)) (F (d ∷ [])) ∙ ap (λ r. base ++ r) (sym (joined (take k xs) (d ∷ [])) ∙ ap F (sym split))

module _ {A B : Type 0} (f : A → List B) (vs : List A) where
  flat_joined : (ns ms : List ℕ) → flat_map f (items_at vs (ns ++ ms)) ≡ flat_map f (items_at vs ns) ++ flat_map f (items_at vs ms)
  flat_joined ns ms = ap (flat_map f) (filter_map-append (slice_get vs) ns ms) ∙ flat_map-append f (items_at vs ns) (items_at vs ms)

  pub grow_items : (ns : List ℕ) (k d : ℕ) (base mid new : List B) → k < length ns → d ≡ slice_index_or ns k 0 → mid ≡ base ++ flat_map f (items_at vs (take k ns)) → new ≡ mid ++ flat_map f (items_at vs (d ∷ [])) → new ≡ base ++ flat_map f (items_at vs (take (k + 1) ns))
  grow_items ns k d base mid new = grow (λ ms. flat_map f (items_at vs ms)) flat_joined ns k d 0 base mid new

module _ {A B : Type 0} (f : A → Option B) where
  -- one more item of the loop that gives numbers
  pub numbers_turn : (ms : List A) (k : ℕ) (d z : A) (start mid new : List B) (before after : List ℕ) → k < length ms → d ≡ slice_index_or ms k z → AddsFrom (filter_map f (take k ms)) start mid → AreNumbersOf mid before (filter_map f (take k ms)) → AddsNumbers (filter_map f (d ∷ [])) mid new before after → AddsFrom (filter_map f (take (k + 1) ms)) start new × AreNumbersOf new after (filter_map f (take (k + 1) ms))
  numbers_turn ms k d z start mid new before after l e adds numbers more =
      let split : take (k + 1) ms ≡ take k ms ++ (d ∷ []) = subst (λ y. take (k + 1) ms ≡ take k ms ++ (y ∷ [])) (sym e) (take_more ms k z l) in
      let one = filter_map f (d ∷ []) in
      let old = filter_map f (take k ms) in
      let all : filter_map f (take (k + 1) ms) ≡ old ++ one = ap (filter_map f) split ∙ filter_map-append f (take k ms) (d ∷ []) in (
        subst (λ items. AddsFrom items start new) (sym all) (adds_then old one (old ++ one) start mid new (Contains-append_left old one) (Contains-append_right old one) adds more.adds),
        subst (AreNumbersOf new after) (sym all) (subst (λ ns. AreNumbersOf new ns (old ++ one)) (sym more.added) (numbers_joined new before more.numbers old one (numbers_more mid new before old (extends_adds one mid new more.adds) numbers) more.right)),
      )

-- ---- look-ups

pub get_some : {A : Type 0} (xs : List A) (n : ℕ) (x : A) → n < length xs → x ≡ slice_index_or xs n x → slice_get xs n ≡ Some x
get_some [] n x l e = absurd (omega (arith, l))
get_some (y ∷ xs) zero x l e = ap Some (sym e)
get_some (y ∷ xs) (suc n) x l e = get_some xs n x (omega (arith, l)) e

pub outcomes_none : (vs : List Visit) (n : ℕ) (b : Bool) (old : List Outcome) → length vs ≤ n → old ≡ old ++ flat_map (visit_outcomes b) (items_at vs (n ∷ []))
outcomes_none vs n b old l = sym (append-nil old) ∙ ap (λ o. old ++ flat_map (visit_outcomes b) (cons_option o [])) (sym (slice_get_past vs n l))

pub outcomes_one : (vs : List Visit) (n : ℕ) (v : Visit) (b : Bool) (old new : List Outcome) (ms : List StampMove) → n < length vs → v ≡ slice_index_or vs n v → ms ≡ v.moves → new ≡ old ++ filter_map (outcome_of_move b) ms → new ≡ old ++ flat_map (visit_outcomes b) (items_at vs (n ∷ []))
outcomes_one vs n v b old new ms l e same g =
    g ∙ ap (λ l. old ++ filter_map (outcome_of_move b) l) same
    ∙ ap (λ l. old ++ l) (sym (append-nil (visit_outcomes b v)))
    ∙ ap (λ o. old ++ flat_map (visit_outcomes b) (cons_option o [])) (sym (get_some vs n v l e))
