-- Readers step by step.
use Rattle.std.proofs.Common.{◌≡◌, Bool, true, false, cond, ap, ◌∙◌}
use Rattle.std.specs.Prelude.{Option, Some, None, option_and_then, IfSome}

-- the first step of a reader, and those behind it
pub step : {A B : Type 0} (o : Option A) (x : A) (f : A → Option B) (y : Option B) → o ≡ Some x → f x ≡ y → option_and_then f o ≡ y
step o x f y e g = ap (option_and_then f) e ∙ g

-- what the first step keeps, and those behind it
pub then : {A B : Type 0} (o : Option A) (f : A → Option B) (P : A → Type 0) (Q : B → Type 0) → IfSome o P → ((x : A) → P x → IfSome (f x) Q) → IfSome (option_and_then f o) Q
then None f P Q h g = tt
then (Some x) f P Q h g = g x h

-- the same of a step that keeps nothing
pub then_any : {A B : Type 0} (o : Option A) (f : A → Option B) (Q : B → Type 0) → ((x : A) → IfSome (f x) Q) → IfSome (option_and_then f o) Q
then_any None f Q g = tt
then_any (Some x) f Q g = g x

pub choose : {A : Type 0} (b : Bool) (x y : Option A) (P : A → Type 0) → IfSome x P → IfSome y P → IfSome (cond b x y) P
choose true x y P h g = h
choose false x y P h g = g

pub weaker : {A : Type 0} (o : Option A) (P Q : A → Type 0) → ((x : A) → P x → Q x) → IfSome o P → IfSome o Q
weaker None P Q f h = tt
weaker (Some x) P Q f h = f x h
