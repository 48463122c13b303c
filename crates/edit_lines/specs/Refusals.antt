-- Refusals of the lines of edits, and what an answer says of what is read.
use Rattle.std.specs.Prelude.{ℕ, ◌≡◌, List, take, codes, Result, Ok, Err}
use Rattle.net_text.specs.Limits.{word_limit}
use Rattle.ios_lines.specs.Kinds as config
use Rattle.incr_review.specs.declared.edits.EditKind.{EditKind}
use Rattle.incr_review.specs.declared.edits.EditKind.TheVariants as kind
use Rattle.edit_lines.specs.declared.refusal.EditsFail.{EditsFail}
use Rattle.edit_lines.specs.declared.refusal.EditsFail.TheVariants as fail

-- a word, by its bytes
abbrev pub Word : Type 0
Word = List ℕ

-- each kind prints by its own name; where a built text is refused, it is the name of the configuration's kind
abbrev pub kind_text : EditKind → List ℕ
kind_text kind.BadWord = codes "BadWord"
kind_text kind.MissingWord = codes "MissingWord"
kind_text kind.UnknownDevice = codes "UnknownDevice"
kind_text kind.UnknownList = codes "UnknownList"
kind_text kind.SequenceTaken = codes "SequenceTaken"
kind_text kind.NoSuchEntry = codes "NoSuchEntry"
kind_text kind.NoSuchRoute = codes "NoSuchRoute"
kind_text (kind.Config k) = config.kind_text k

-- a refusal at line n, with the word that shows it, cut at the limit
abbrev pub refused : EditKind → ℕ → Word → EditsFail
refused k n word = fail.Refused k n (take word_limit word)

-- one reading after the other; the first refusal decides
infixl 10 ◌>>=◌
abbrev pub ◌>>=◌ : {A B : Type 0} → Result A EditsFail → (A → Result B EditsFail) → Result B EditsFail
(Ok x) >>= f = f x
(Err e) >>= f = Err e

-- an answer but want of memory is what the reading gives
abbrev pub GivesFail : {Y : Type 0} → EditsFail → Result Y EditsFail → Type 0
GivesFail fail.NoMemory read = Unit {0}
GivesFail (fail.Refused k n word) read = read ≡ Err (fail.Refused k n word)

-- the same of an answer that may be Ok, seen by view
abbrev pub Gives : {X Y : Type 0} → (X → Y) → Result X EditsFail → Result Y EditsFail → Type 0
Gives view (Ok x) read = read ≡ Ok (view x)
Gives view (Err e) read = GivesFail e read
