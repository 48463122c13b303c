-- A list of keys is a list of states.
use Rattle.std.proofs.Common.{◌≡◌, ℕ, ◌+◌, Bool, true, false, cond, not, ◌||◌, List, [], ◌∷◌, ◌++◌, Some, None, map, length, refl, sym, ap, ◌∙◌}
use Rattle.std.specs.Prelude.{position, nat_lt}
use Rattle.std.specs.List.{list_any, position_or_len}
use Rattle.std.proofs.lemmas.List.{map-append, length-map}
use Rattle.indexmap.specs.IndexSet.{insert_key}
use Rattle.net_types.specs.declared.network.State.{State}
use Rattle.walk_trace.specs.declared.states.StateKey.{StateKey}
use Rattle.walk_trace.specs.contracts.states.StateKeyPartialEq.TheImpl.{eq-value}
use Rattle.walk_trace.specs.Keys.{key_of, state_of}
use Rattle.walk_trace.specs.Numbered.{same_state, with_state}

any_state : (u : State) (ks : List StateKey) → list_any (eq-value.it (key_of u)) ks ≡ list_any (same_state u) (map state_of ks)
any_state u [] = refl
any_state u (k ∷ ks) = ap (λ b. same_state u (state_of k) || b) (any_state u ks)

pub key_added : (u : State) (ks : List StateKey) → map state_of (insert_key eq-value.it ks (key_of u)) ≡ with_state (map state_of ks) u
key_added u ks =
    by_test (list_any (eq-value.it (key_of u)) ks) ∙ ap (λ b. cond b (map state_of ks) (map state_of ks ++ u ∷ [])) (any_state u ks)
  where
    by_test : (b : Bool) → map state_of (cond b ks (ks ++ key_of u ∷ [])) ≡ cond b (map state_of ks) (map state_of ks ++ u ∷ [])
    by_test true = refl
    by_test false = map-append state_of ks (key_of u ∷ [])

place_of_state : (u : State) (ks : List StateKey) → position_or_len (eq-value.it (key_of u)) ks ≡ position_or_len (same_state u) (map state_of ks)
place_of_state u [] = refl
place_of_state u (k ∷ ks) = ap (λ (n : ℕ). cond (not (same_state u (state_of k))) (1 + n) 0) (place_of_state u ks)

pub key_found : (u : State) (ks : List StateKey) → position (eq-value.it (key_of u)) ks ≡ position (same_state u) (map state_of ks)
key_found u ks =
    ap (λ (n : ℕ). cond (nat_lt n (length ks)) (Some n) None) (place_of_state u ks)
    ∙ ap (λ (m : ℕ). cond (nat_lt (position_or_len (same_state u) (map state_of ks)) m) (Some (position_or_len (same_state u) (map state_of ks))) None) (sym (length-map ks state_of))
