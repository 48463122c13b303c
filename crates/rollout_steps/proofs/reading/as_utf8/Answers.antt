use Rattle.std.proofs.Common.{◌≡◌, true, false, refl, sym, ◌∙◌, subst, Bool}
use Rattle.std.specs.Str.{IsUtf8, is_utf8}
use Rattle.std.proofs.lemmas.Str.{IsUtf8-from_is_utf8, is_utf8-from_IsUtf8}
use Rattle.rollout_steps.proofs.reading.as_utf8.Goals as goal

is_false : (b : Bool) → (b ≡ true → ⊥) → b ≡ false
is_false b f = (elim b as (λ x. (x ≡ true → ⊥) → x ≡ false) [ true ↦ λ g. absurd (g refl) | false ↦ λ g. refl ]) f

pub returns-in-Ok : goal.returns-in-Ok
returns-in-Ok c =
    let valid = subst IsUtf8 c.as_bytes.ensures c.in-Ok.ensures.cases.1 in
    (c.in-Ok.ensures.cases.0 ∙ c.as_bytes.ensures, is_utf8-from_IsUtf8 c.args.word.now valid)

pub returns-in-Err : goal.returns-in-Err
returns-in-Err c =
    is_false (is_utf8 c.args.word.now) (λ yes. c.in-Err.ensures.cases.0 (subst IsUtf8 (sym c.as_bytes.ensures) (IsUtf8-from_is_utf8 c.args.word.now yes)))
