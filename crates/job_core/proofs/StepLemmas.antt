-- Steps of a job one after the other.
use Rattle.std.proofs.Common.{inl, inr, Option, Some, None, Result, Ok, Err, IfSome, refl}
use Rattle.net_io.specs.Files.{Told}
use Rattle.job_core.specs.declared.stop.Stop.{Stop}
use Rattle.job_core.specs.Steps.{Then}

module _ {A B : Type 0} (first : Told → Result A Stop → Type 0) (next : Told → A → Result B Stop → Type 0) where
  pub then_stop : (told : Option Told) (s : Stop) → IfSome told (λ t. first t (Err s)) → IfSome told (λ t. Then (first t) (next t) (Err s))
  then_stop None s h = tt
  then_stop (Some t) s h = inl (s, h, refl)

  pub then_go : (told : Option Told) (a : A) (r : Result B Stop) → IfSome told (λ t. first t (Ok a)) → IfSome told (λ t. next t a r) → IfSome told (λ t. Then (first t) (next t) r)
  then_go None a r h k = tt
  then_go (Some t) a r h k = inr (a, h, k)

-- what holds whatever the files tell
pub however_told : {P : Type 0} (told : Option Told) → P → IfSome told (λ (t : Told). P)
however_told None p = tt
however_told (Some t) p = p
