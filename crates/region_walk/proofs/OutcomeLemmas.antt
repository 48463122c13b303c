-- Outcomes at a place.
use Rattle.std.proofs.Common.{◌↔◌, ℕ, inl, inr, ◌+◌, ◌<◌, true, List, [], ◌∷◌, length, take, slice_index_or, refl, sym, subst}
use Rattle.std.specs.Prelude.{Contains, IsTrue}
use Rattle.std.proofs.lemmas.List.{take_more}
use Rattle.std.proofs.lemmas.List.Elements.{Contains-append_cases, Contains-get_or}
use Rattle.net_types.specs.declared.label.Outcome.{Outcome}
use Rattle.net_types.specs.declared.network.Place.{Place}
use Rattle.net_types.specs.Questions.{IsAt, HasOutcomeAt}
use Rattle.net_types.proofs.Members.{in_none, in_one}

pub none_at : (q : Place) → HasOutcomeAt q [] → ⊥
none_at q a = in_none a.outcome a.among

pub one_at : (q : Place) (xs : List Outcome) (k : ℕ) (z : Outcome) → k < length xs → IsAt q (slice_index_or xs k z) → IsTrue true ↔ HasOutcomeAt q xs
one_at q xs k z l here = (λ e. record { outcome = slice_index_or xs k z; among = Contains-get_or xs k z l; there = here }, λ a. refl)

-- one outcome more, which isn't there
pub none_more : (q : Place) (xs : List Outcome) (k : ℕ) (z : Outcome) → k < length xs → (HasOutcomeAt q (take k xs) → ⊥) → (IsAt q (slice_index_or xs k z) → ⊥) → HasOutcomeAt q (take (k + 1) xs) → ⊥
none_more q xs k z l before here a =
    let d = slice_index_or xs k z in
    elim (Contains-append_cases (take k xs) (d ∷ []) a.outcome (subst (λ l. Contains l a.outcome) (take_more xs k z l) a.among)) [
      | inl c ↦ before (record { outcome = a.outcome; among = c; there = a.there })
      | inr c ↦ here (subst (IsAt q) (sym (in_one d a.outcome c)) a.there)
    ]
