-- States that are added to others, each once.
use Rattle.std.proofs.Common.{◌≡◌, ◌⊎◌, inl, inr, Bool, true, false, cond, List, [], ◌∷◌, ◌++◌, refl, sym, ap, subst, ◌∙◌, append-nil, append_assoc}
use Rattle.std.specs.Prelude.{Contains, flat_map, fold}
use Rattle.std.specs.List.{list_any}
use Rattle.std.proofs.lemmas.List.Elements.{Contains-append_cases, Contains-append_left, Contains-append_right}
use Rattle.std.proofs.lemmas.Grind.{fold-append}
use Rattle.net_types.specs.declared.network.State.{State}
use Rattle.net_types.proofs.Members.{here, there, in_cons, in_none, in_one, from_any, to_any}
use Rattle.walk_trace.specs.Numbered.{same_state, with_state}
use Rattle.walk_trace.proofs.StateLemmas.{state_is, state_itself}

abbrev pub has : State → List State → Bool
has u us = list_any (same_state u) us

pub has_from : (u : State) (us : List State) → Contains us u → has u us ≡ true
has_from u us h = to_any (same_state u) us u h (state_itself u)

pub from_has : (u : State) (us : List State) → has u us ≡ true → Contains us u
from_has u us h = let i = from_any (same_state u) us h in subst (Contains us) (sym (state_is u i.0 i.2)) i.1

kept_one : (us : List State) (u v : State) → Contains us v → Contains (with_state us u) v
kept_one us u v c =
    elim (has u us) as (λ b. Contains (cond b us (us ++ u ∷ [])) v) [ true ↦ c | false ↦ Contains-append_left us (u ∷ []) v c ]

-- what is there stays
pub kept : (vs us : List State) (v : State) → Contains us v → Contains (fold with_state us vs) v
kept [] us v c = c
kept (u ∷ vs) us v c = kept vs (with_state us u) v (kept_one us u v c)

added_one : (us : List State) (u : State) → Contains (with_state us u) u
added_one us u =
    (elim (has u us) as (λ b. has u us ≡ b → Contains (cond b us (us ++ u ∷ [])) u) [
      | true ↦ λ e. from_has u us e
      | false ↦ λ e. Contains-append_right us (u ∷ []) u (here u [])
    ]) refl

-- what is added is there
pub gained : (vs us : List State) (v : State) → Contains vs v → Contains (fold with_state us vs) v
gained [] us v c = absurd (in_none v c)
gained (u ∷ vs) us v c = elim (in_cons u v vs c) [
  | inl e ↦ subst (Contains (fold with_state (with_state us u) vs)) e (kept vs (with_state us u) u (added_one us u))
  | inr d ↦ gained vs (with_state us u) v d
]

only_one : (us : List State) (u v : State) → Contains (with_state us u) v → Contains us v ⊎ (u ≡ v)
only_one us u v =
    elim (has u us) as (λ b. Contains (cond b us (us ++ u ∷ [])) v → Contains us v ⊎ (u ≡ v)) [
      | true ↦ λ c. inl c
      | false ↦ λ c. elim (Contains-append_cases us (u ∷ []) v c) [ inl d ↦ inl d | inr d ↦ inr (in_one u v d) ]
    ]

-- and nothing else
pub only : (vs us : List State) (v : State) → Contains (fold with_state us vs) v → Contains us v ⊎ Contains vs v
only [] us v c = inl c
only (u ∷ vs) us v c = elim (only vs (with_state us u) v c) [
  | inl d ↦ elim (only_one us u v d) [
    | inl e ↦ inl e
    | inr e ↦ inr (subst (Contains (u ∷ vs)) e (here u vs))
  ]
  | inr d ↦ inr (there u v vs d)
]

-- what is there adds nothing
absorbed : (vs us : List State) → ((v : State) → Contains vs v → Contains us v) → fold with_state us vs ≡ us
absorbed [] us f = refl
absorbed (u ∷ vs) us f =
    ap (λ x. fold with_state x vs) (ap (λ b. cond b us (us ++ u ∷ [])) (has_from u us (f u (here u vs))))
    ∙ absorbed vs us (λ v c. f v (there u v vs c))

-- those that are added, in order
abbrev pub new_ones : List State → List State → List State
new_ones us [] = []
new_ones us (v ∷ vs) = cond (has v us) (new_ones us vs) (v ∷ new_ones (us ++ v ∷ []) vs)

pub joined : (vs us : List State) → fold with_state us vs ≡ us ++ new_ones us vs
joined [] us = sym (append-nil us)
joined (v ∷ vs) us =
    elim (has v us) as (λ b. fold with_state (cond b us (us ++ v ∷ [])) vs ≡ us ++ cond b (new_ones us vs) (v ∷ new_ones (us ++ v ∷ []) vs)) [
      | true ↦ joined vs us
      | false ↦ joined vs (us ++ v ∷ []) ∙ append_assoc us (v ∷ []) (new_ones (us ++ v ∷ []) vs)
    ]

-- where the next states of us are among vs
abbrev pub Closed : (State → List State) → List State → List State → Type 0
Closed next us vs = (u v : State) → Contains us u → Contains (next u) v → Contains vs v

module _ (next : State → List State) where
  closed_more : (us vs : List State) (x : State) → Closed next us vs → Closed next (us ++ x ∷ []) (fold with_state vs (next x))
  closed_more us vs x c u v d f = elim (Contains-append_cases us (x ∷ []) u d) [
    | inl g ↦ kept (next x) vs v (c u v g f)
    | inr g ↦ gained (next x) vs v (subst (λ y. Contains (next y) v) (sym (in_one x u g)) f)
  ]

  -- there the next states of other states are added by the new ones among these alone
  pub fresh : (xs us vs : List State) → Closed next us vs → fold with_state vs (flat_map next xs) ≡ fold with_state vs (flat_map next (new_ones us xs))
  fresh [] us vs c = refl
  fresh (x ∷ xs) us vs c =
      fold-append with_state vs (next x) (flat_map next xs)
      ∙ (elim (has x us) as (λ b. has x us ≡ b → fold with_state (fold with_state vs (next x)) (flat_map next xs) ≡ fold with_state vs (flat_map next (cond b (new_ones us xs) (x ∷ new_ones (us ++ x ∷ []) xs)))) [
        | true ↦ λ e.
            ap (λ a. fold with_state a (flat_map next xs)) (absorbed (next x) vs (λ v d. c x v (from_has x us e) d))
            ∙ fresh xs us vs c
        | false ↦ λ e.
            fresh xs (us ++ x ∷ []) (fold with_state vs (next x)) (closed_more us vs x c)
            ∙ sym (fold-append with_state vs (next x) (flat_map next (new_ones (us ++ x ∷ []) xs)))
      ]) refl
