-- Refusals of question files, and what an answer says of what is read.
use Rattle.std.specs.Prelude.{ℕ, ◌≡◌, List, take, codes, Result, Ok, Err}
use Rattle.net_text.specs.Limits.{word_limit}
use Rattle.ask_query.specs.declared.refusal.QuestionRefusal.{QuestionRefusal}
use Rattle.ask_query.specs.declared.refusal.QuestionRefusal.TheVariants as refusal
use Rattle.ask_query.specs.declared.refusal.QuestionFail.{QuestionFail}
use Rattle.ask_query.specs.declared.refusal.QuestionFail.TheVariants as fail

-- a word, by its bytes
abbrev pub Word : Type 0
Word = List ℕ

-- each kind prints by its own name
abbrev pub refusal_text : QuestionRefusal → List ℕ
refusal_text refusal.BadWord = codes "BadWord"
refusal_text refusal.MissingWord = codes "MissingWord"
refusal_text refusal.UnknownPlace = codes "UnknownPlace"

-- a refusal at line n, with the word that shows it, cut at the limit
abbrev pub refused : QuestionRefusal → ℕ → Word → QuestionFail
refused k n word = fail.Refused k n (take word_limit word)

-- one reading after the other; the first refusal decides
infixl 10 ◌>>=◌
abbrev pub ◌>>=◌ : {A B : Type 0} → Result A QuestionFail → (A → Result B QuestionFail) → Result B QuestionFail
(Ok x) >>= f = f x
(Err e) >>= f = Err e

-- an answer, seen by view, but want of memory is what the reading gives
abbrev pub GivesFail : {Y : Type 0} → QuestionFail → Result Y QuestionFail → Type 0
GivesFail fail.NoMemory read = Unit {0}
GivesFail (fail.Refused k n word) read = read ≡ Err (fail.Refused k n word)

abbrev pub Gives : {X Y : Type 0} → (X → Y) → Result X QuestionFail → Result Y QuestionFail → Type 0
Gives view (Ok x) read = read ≡ Ok (view x)
Gives view (Err e) read = GivesFail e read
