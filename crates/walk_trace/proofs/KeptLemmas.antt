-- What is kept of a network stays right when more is kept.
use Rattle.std.proofs.Common.{◌≡◌, ℕ, Bool, true, false, cond, ◌&&◌, ◌==◌, List, Option, Some, None, refl, sym, ap, subst, ◌∙◌}
use Rattle.std.specs.Prelude.{find}
use Rattle.std.specs.Option.{unwrap_or}
use Rattle.std.proofs.lemmas.Bool.Decides.{Decides-eqb}
use Rattle.net_types.specs.declared.network.Hop.{Hop}
use Rattle.net_types.specs.declared.network.Move.{Move}
use Rattle.net_types.specs.declared.network.NetDevice.{NetDevice}
use Rattle.net_types.specs.declared.network.Rib.{Rib}
use Rattle.net_types.specs.declared.network.State.{State}
use Rattle.net_types.specs.Routes.{rib_of}
use Rattle.net_types.specs.World.{World}
use Rattle.walk_trace.specs.declared.states.StateKey.{StateKey}
use Rattle.walk_trace.specs.Keys.{key_of, state_of}
use Rattle.walk_trace.specs.Kept.{AllKept, AreChoicesOf, AreMovesOf, IsFirst, IsRibOf, same_key, same_pair}
use Rattle.walk_trace.specs.Numbered.{choices, ordered_moves}
use Rattle.walk_trace.proofs.StateLemmas.{both, state_is}

pub some_is : {A : Type 0} (x y : A) → Some x ≡ Some y → x ≡ y
some_is x y e = ap (λ o. unwrap_or o x) e

module _ {K V : Type 0} (may : K → V → Type 0) (eq : K → K → Bool) (old new : K → Option V) (k : K) (v : V)
    (same : (q : K) → eq k q ≡ true → may k v → may q v) where
  kept_more : ((q : K) → new q ≡ cond (eq k q) (Some v) (old q)) → may k v → AllKept may old → AllKept may new
  kept_more says one all q x h = by (eq k q) refl
    where
      by : (b : Bool) → eq k q ≡ b → may q x
      by true e = subst (may q) (some_is v x (sym (says q ∙ ap (λ b. cond b (Some v) (old q)) e) ∙ h)) (same q e one)
      by false e = all q x (sym (says q ∙ ap (λ b. cond b (Some v) (old q)) e) ∙ h)

module _ (w : World) (d : NetDevice) (first : IsFirst w d) where
  own : (e : NetDevice) → find (λ x. x.name == d.name) w.network.devices ≡ Some e → d ≡ e
  own e f = some_is d e (sym first ∙ f)

  rib_by_name : (rib : Rib) → rib ≡ rib_of d.config → IsRibOf w d.name rib
  rib_by_name rib is e f = is ∙ ap (λ (x : NetDevice). rib_of x.config) (own e f)

  choices_by_name : (a : ℕ) (hops : List Hop) → hops ≡ choices d.config a → AreChoicesOf w (d.name, a) hops
  choices_by_name a hops is e f = is ∙ ap (λ (x : NetDevice). choices x.config a) (own e f)

  -- one more device's routes
  pub rib_kept : (old new : ℕ → Option Rib) (rib : Rib) → ((q : ℕ) → new q ≡ cond (d.name == q) (Some rib) (old q)) → rib ≡ rib_of d.config → AllKept (IsRibOf w) old → AllKept (IsRibOf w) new
  rib_kept old new rib says is =
      kept_more (IsRibOf w) (λ m n. m == n) old new d.name rib
      (λ q e r. subst (λ (n : ℕ). IsRibOf w n rib) ((Decides-eqb d.name q).0 e) r)
      says (rib_by_name rib is)

  -- the choices of one more address
  pub choices_kept : (a : ℕ) (old new : ℕ × ℕ → Option (List Hop)) (hops : List Hop) → ((q : ℕ × ℕ) → new q ≡ cond (same_pair (d.name, a) q) (Some hops) (old q)) → hops ≡ choices d.config a → AllKept (AreChoicesOf w) old → AllKept (AreChoicesOf w) new
  choices_kept a old new hops says is =
      kept_more (AreChoicesOf w) same_pair old new (d.name, a) hops
      (λ q e r.
      let h = both (d.name == q.0) (a == q.1) e in
      subst (λ (n : ℕ). AreChoicesOf w (n, q.1) hops) ((Decides-eqb d.name q.0).0 h.0)
      (subst (λ (n : ℕ). AreChoicesOf w (d.name, n) hops) ((Decides-eqb a q.1).0 h.1) r))
      says (choices_by_name a hops is)

-- the moves of one more state
pub moves_kept : (w : World) (u : State) (old new : StateKey → Option (List Move)) (moves : List Move) → ((q : StateKey) → new q ≡ cond (same_key (key_of u) q) (Some moves) (old q)) → moves ≡ ordered_moves w u → AllKept (AreMovesOf w) old → AllKept (AreMovesOf w) new
moves_kept w u old new moves says is =
    kept_more (AreMovesOf w) same_key old new (key_of u) moves
    (λ q e r. r ∙ ap (ordered_moves w) (state_is u (state_of q) e))
    says is
