-- Counts of faults.
use Rattle.std.specs.Prelude.{◌≡◌, ℕ, ◌+◌, ◌-◌, ◌^◌, ◌≤◌, min, List, Option, Result, OnErr, IsErrOf, IfSome}
use Rattle.net_io.specs.declared.reading.FileFail.{FileFail}
use Rattle.net_io.specs.declared.reading.FileFail.TheVariants.{Failed}

-- the count after one more fault: a counter of 64 bits stays at its last value
abbrev pub counted : ℕ → ℕ
counted count = min (count + 1) (2 ^ 64 - 1)

-- the count rose: it is greater than before, or stands at the last value of a counter
abbrev pub Rose : ℕ → ℕ → Type 0
Rose before now = counted before ≤ now

-- no fault was counted
abbrev pub Faultless : ℕ → ℕ → Type 0
Faultless before now = Rose before now → ⊥

-- the count never falls, and a call that answers Failed has raised it
pub record HasCause {T : Type 0} (before now : ℕ) (result : Result T FileFail) : Type 0 where
  pub later : before ≤ now
  pub failed : IsErrOf result Failed → Rose before now

-- the count never falls, and a call that fails has raised it
pub record Counts {T E : Type 0} (before now : ℕ) (result : Result T E) : Type 0 where
  pub later : before ≤ now
  pub failed : OnErr result (Rose before now)

-- the path is that of the call that failed last, where that is told
abbrev pub IsLast : List ℕ → Option (List ℕ) → Type 0
IsLast path last = IfSome last (λ p. p ≡ path)

-- a call on this path that answers Failed is the last that failed, and every other leaves the last one as it was
pub record MarksLast {T : Type 0} (path : List ℕ) (before now : Option (List ℕ)) (result : Result T FileFail) : Type 0 where
  pub failed : IsErrOf result Failed → IsLast path now
  pub other : (IsErrOf result Failed → ⊥) → now ≡ before
