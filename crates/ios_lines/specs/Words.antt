-- Reading the words of a command from left to right, up to the first fault.
use Rattle.std.specs.Prelude.{◌≡◌, ℕ, Bool, true, false, ◌&&◌, List, [], ◌∷◌, take, Option, None, Result, Ok, Err, ok_or, if◌then◌else◌, nat_lt}
use Rattle.std.specs.Str.{bytes_eq}
use Rattle.net_text.specs.Limits.{word_limit}
use Rattle.ios_words.specs.Words.{address_of, number_of, mask_length_of}
use Rattle.ios_lines.specs.declared.fault.Fault.{Fault}
use Rattle.ios_lines.specs.declared.fault.Kind.{Kind}
use Rattle.ios_lines.specs.declared.fault.Kind.TheVariants as kind
use Rattle.ios_lines.specs.declared.fault.ReadError.{ReadError}
use Rattle.ios_lines.specs.declared.fault.ReadError.TheVariants as errors

-- a word, by its bytes
abbrev pub Word : Type 0
Word = List ℕ

-- the words of a line, from left to right
abbrev pub Words : Type 0
Words = List (List ℕ)

-- a reader gives a value or a fault; the first fault ends the reading
infixl 10 ◌>>=◌
abbrev pub ◌>>=◌ : {A B : Type 0} → Result A Fault → (A → Result B Fault) → Result B Fault
(Ok x) >>= f = f x
(Err e) >>= f = Err e

-- what a function returned, seen by a view, is what the reader gives, unless memory ran out
abbrev pub Fails : {Y : Type 0} → ReadError → Result Y Fault → Type 0
Fails errors.NoMemory read = Unit {0}
Fails (errors.Fault f) read = read ≡ Err f

-- what a function returned is what the reader gives, unless memory ran out
abbrev pub Gives : {X Y : Type 0} → (X → Y) → Result X ReadError → Result Y Fault → Type 0
Gives view (Ok x) read = read ≡ Ok (view x)
Gives view (Err e) read = Fails e read

-- the word of a refusal is cut at the limit
abbrev pub fault_of : Kind → Word → Fault
fault_of k word = record { kind = k; word = take word_limit word }

-- the first word, or nothing where there is none
abbrev pub head_word : Words → Word
head_word [] = []
head_word (w ∷ ws) = w

-- the words that a part of a command doesn't cover, where they are read in it as the next word: here none
abbrev pub none_refused : Word → Bool
none_refused w = false

-- the next word; a command that ends before it misses a word
abbrev pub next_word : Words → Result (Word × Words) Fault
next_word [] = Err (record { kind = kind.MissingWord; word = [] })
next_word (w ∷ ws) = Ok (w, ws)

-- the next word, which must be covered
unfoldable pub allowed_word : (Word → Bool) → Words → Result (Word × Words) Fault
allowed_word refused words = do
  w ← next_word words
  if refused w.0 then Err (fault_of kind.NotCovered w.0) else Ok w

-- the next word as an address
unfoldable pub address_at : (Word → Bool) → Words → Result (ℕ × Words) Fault
address_at c words = do
  w ← allowed_word c words
  a ← ok_or (address_of w.0) (fault_of kind.BadWord w.0)
  Ok (a, w.1)

-- the next word as a contiguous mask of at least this length
unfoldable pub mask_at : (Word → Bool) → ℕ → Words → Result (ℕ × Words) Fault
mask_at c least words = do
  w ← allowed_word c words
  m ← ok_or (address_of w.0) (fault_of kind.BadWord w.0)
  n ← ok_or (mask_length_of m) (fault_of kind.BadMask w.0)
  if nat_lt n least then Err (fault_of kind.BadMask w.0) else Ok (n, w.1)

-- the next word as a number from low to high
unfoldable pub number_at : (Word → Bool) → ℕ → ℕ → Words → Result (ℕ × Words) Fault
number_at c low high words = do
  w ← allowed_word c words
  n ← ok_or (number_of low high w.0) (fault_of kind.BadWord w.0)
  Ok (n, w.1)

-- no word is left
unfoldable pub ended : (Word → Bool) → Words → Result (Unit {0}) Fault
ended c [] = Ok tt
ended c (x ∷ xs) = do
  w ← allowed_word c (x ∷ xs)
  Err (fault_of kind.ExtraWord w.0)

-- the words begin with these
abbrev pub begins : Words → Words → Bool
begins [] words = true
begins (p ∷ ps) [] = false
begins (p ∷ ps) (w ∷ ws) = bytes_eq w p && begins ps ws

-- the next word, where it is an address
abbrev pub hop_of : Words → Option ℕ
hop_of [] = None
hop_of (w ∷ ws) = address_of w
