-- Refusals of the lines of a change window, and what an answer says of what is read.
use Rattle.std.specs.Prelude.{ℕ, ◌≡◌, List, take, codes, Result, Ok, Err}
use Rattle.net_text.specs.Limits.{word_limit}
use Rattle.rollout_steps.specs.declared.refusal.StepRefusal.{StepRefusal}
use Rattle.rollout_steps.specs.declared.refusal.StepRefusal.TheVariants as refusal
use Rattle.rollout_steps.specs.declared.refusal.StepsFail.{StepsFail}
use Rattle.rollout_steps.specs.declared.refusal.StepsFail.TheVariants as fail

-- a word, by its bytes
abbrev pub Word : Type 0
Word = List ℕ

-- each kind prints by its own name
abbrev pub refusal_text : StepRefusal → List ℕ
refusal_text refusal.BadWord = codes "BadWord"
refusal_text refusal.MissingWord = codes "MissingWord"
refusal_text refusal.UnknownDevice = codes "UnknownDevice"
refusal_text refusal.AddressTwice = codes "AddressTwice"

-- a refusal at line n, with the word that shows it, cut at the limit
abbrev pub refused : StepRefusal → ℕ → Word → StepsFail
refused k n word = fail.Refused k n (take word_limit word)

-- an answer but want of memory is what the reading gives
abbrev pub GivesFail : {Y : Type 0} → StepsFail → Result Y StepsFail → Type 0
GivesFail fail.NoMemory read = Unit {0}
GivesFail fail.TooMany read = read ≡ Err fail.TooMany
GivesFail (fail.Refused k n word) read = read ≡ Err (fail.Refused k n word)

-- the same of an answer that may be Ok, seen by view
abbrev pub Gives : {X Y : Type 0} → (X → Y) → Result X StepsFail → Result Y StepsFail → Type 0
Gives view (Ok x) read = read ≡ Ok (view x)
Gives view (Err e) read = GivesFail e read
