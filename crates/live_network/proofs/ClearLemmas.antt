-- Places that lose their positions, number by number.
use Rattle.std.proofs.Common.{ℕ, ◌≡◌, ◌<◌, ◌+◌, ◌++◌, ◌⊎◌, inl, inr, Bool, true, false, List, [], ◌∷◌, take, length, get_or, Option, None, refl, ap, sym, ◌∙◌, subst}
use Rattle.std.specs.Prelude.{Contains}
use Rattle.std.proofs.lemmas.Bool.{cases_Bool}
use Rattle.std.proofs.lemmas.List.{take_more}
use Rattle.std.proofs.lemmas.List.Elements.{Contains-push_cases}
use Rattle.link_sends.proofs.FirstPlaceLemmas.{one_place}
use Rattle.net_types.specs.declared.network.Place.{Place}
use Rattle.net_types.specs.World.{same_place}
use Rattle.net_types.proofs.Members.{in_none}
use Rattle.place_ways.specs.Places.{IsNumbered}
use Rattle.place_ways.proofs.PlaceLemmas.{place_itself}
use Rattle.live_network.specs.Clearing.{Clears, IsCleared, none_if}

none_or_kept : (b : Bool) (before : Option ℕ) → (none_if b before ≡ None) ⊎ (none_if b before ≡ before)
none_or_kept true before = inl refl
none_or_kept false before = inr refl

none_stays : (b : Bool) (before : Option ℕ) → before ≡ None → none_if b before ≡ None
none_stays true before e = refl
none_stays false before e = e

pub clears_none : (name : ℕ) (at : Place → Option ℕ) → Clears name [] at at
clears_none name at = record { each = λ p. inr refl; gone = λ p c. absurd (in_none p.interface c.1); others = λ p n. refl }

pub clears_more : (name : ℕ) (xs : List ℕ) (i n : ℕ) (old mid new : Place → Option ℕ) → i < length xs → n ≡ get_or xs i n → IsCleared (record { device = name; interface = n }) mid new → Clears name (take i xs) old mid → Clears name (take (i + 1) xs) old new
clears_more name xs i n old mid new l e one a =
    record {
      each = λ p. elim (none_or_kept (same_place q p) (mid p)) [
        | inl t ↦ inl (one p ∙ t)
        | inr t ↦ elim (a.each p) [ inl m ↦ inl (one p ∙ t ∙ m) | inr m ↦ inr (one p ∙ t ∙ m) ]
      ];
      gone = λ p c. elim (Contains-push_cases (take i xs) n p.interface (subst (λ ys. Contains ys p.interface) taken c.1)) [
        | inl m ↦ one p ∙ none_stays (same_place q p) (mid p) (a.gone p (c.0, m))
        | inr m ↦ one p ∙ ap (λ b. none_if b (mid p)) (subst (λ z. same_place q z ≡ true) (whole p c.0 m) (place_itself q))
      ];
      others = λ p o. one p ∙ (elim (cases_Bool (same_place q p)) [
        | inl t ↦ absurd (o (sym (ap (λ (z : Place). z.device) (one_place q p t))))
        | inr t ↦ ap (λ b. none_if b (mid p)) t ∙ a.others p o
      ]);
    }
  where
    q : Place
    q = record { device = name; interface = n }

    taken : take (i + 1) xs ≡ take i xs ++ n ∷ []
    taken = take_more xs i n l ∙ ap (λ z. take i xs ++ z ∷ []) (sym e)

    whole : (p : Place) → p.device ≡ name → n ≡ p.interface → record { device = name; interface = n } ≡ p
    whole p d m = λ j. record { device = sym d j; interface = m j }
