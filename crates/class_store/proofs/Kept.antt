-- What a note knows can be kept.
use Rattle.std.proofs.Common.{◌≡◌, ℕ, [], ◌∷◌, refl, IsSome, sym}
use mathlib.Core.Bool.{true≢false}
use seplogic.Ra.Ura.{Ura}
use base.Logic.{ent, sep}
use types.Logic.{Logic, sem}
use types.Kit.{‵, ◌$◌, ◌∵◌, !, qed, use0, done}
use mir.Val.{Val, vstruct, vcons, vnil}
use denote.RattleType.{RattleType}
use denote.Shadow.{makes_shadow}
use denote.Struct.Struct.{Struct}
use denote.Struct.Owning.{shape}
use Rattle.std.specs.declared.option.Option.{Option}
use Rattle.std.specs.declared.option.Option.TheVariants.{None, Some}
use Rattle.once_cell.specs.Once.{noted}
use Rattle.once_cell.proofs.Notes.{noted_twice}
use Rattle.class_store.specs.contracts.known.Known as Known

abbrev pub value_of : {X : Type 0} (k : Option X) → IsSome k → X
value_of (Some x) p = x
value_of None p = absurd (true≢false (sym p))

pub value_is : {X : Type 0} (k : Option X) (p : IsSome k) → k ≡ Some (value_of k p)
value_is (Some x) p = refl
value_is None p = absurd (true≢false (sym p))

abbrev pub token_val : Val
token_val = vstruct (vcons (vstruct vnil) vnil)

module _ {M : Type 1} {𝓤 : Ura M} (𝓛 : Logic 𝓤) (R : RattleType) where
  pub noted_kept : (γ : ℕ) (k : Option R.Denot) (p : IsSome k) → ent 𝓤 (sem 𝓛 (noted R γ k)) (sep 𝓤 (sem 𝓛 (noted R γ k)) (sem 𝓛 (noted R γ (Some (value_of k p)))))
  noted_kept γ (Some x) p = noted_twice 𝓛 R γ (Some x)
  noted_kept γ None p = absurd (true≢false (sym p))

  pub known_made : (γ : ℕ) (x : R.Denot)
      → ent 𝓤 (sem 𝓛 (noted R γ (Some x))) (sem 𝓛 ((Known.the_row R).own_val (record { marker = record {}; cell = γ; value = x }) (token_val ∷ [])))
  known_made γ x = let F = (Struct (shape (Known.the_type R))).own_val (tt, tt) (token_val ∷ []) in
      qed 𝓛 (‵ (noted R γ (Some x)) ∷ []) ∵ use0 𝓛 (‵ F) (makes_shadow 𝓛 F (λ vss. (tt, ((λ uss. (tt, tt)), tt))) ((vstruct vnil ∷ [], tt), (refl, ((tt, (refl, tt)), tt)))) $ done !
