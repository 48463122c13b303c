use Rattle.std.proofs.Common.{false, ℕ, List, subst, sym}
use Rattle.std.specs.Prelude.{Option, Some, IfOk}
use Rattle.doctor_warnings.specs.declared.passing.Beside.{Beside}
use Rattle.doctor_warnings.specs.Beside.{IsBeside, IsJudged}
use Rattle.doctor_warnings.specs.Told.{key}
use Rattle.doctor_warnings.proofs.Beside.{judged_alone, judged_beside}
use Rattle.doctor_warnings.proofs.passing.is_only_here.Goals as goal

pub returns-in-None : goal.returns-in-None
returns-in-None c = λ ks before short h.
    let k = key c.args.bytes.now c.args.line in
    subst (λ (b : Option Beside). IsJudged ks before k false b) (sym c.in-None.is) (judged_alone ks before k (subst (λ (b : Option Beside). IsBeside ks before b) c.in-None.is h))

pub returns-in_ok-key-in-Some : goal.returns-in_ok-key-in-Some
returns-in_ok-key-in-Some c = λ ks before short h.
    let k = c.in_ok-key-in-Some.key in
    let new = c.mark.new.self in
    let here = subst (λ (b : Option Beside). IsBeside ks before b) c.in-Some.is h in
    subst (λ (k : List ℕ). IfOk c.mark.result (λ only. IsJudged ks before k only (Some new))) c.in_ok-key-in-Some.ensures
    (judged_beside ks before k c.in-Some.files new c.mark.result here (λ there t u. c.mark.ensures there before short t u))
