-- What the text of a question file says: questions, or the first line that is refused.
use Rattle.std.specs.Prelude.{ℕ, ◌*◌, ◌^◌, ◌==◌, Bool, false, List, [], ◌∷◌, ◌++◌, map, find, option_to_list, Option, Some, None, option_map, Result, Ok, Err, bit_or, codes, if◌then◌else◌}
use Rattle.std.specs.List.{list_any}
use Rattle.std.specs.Str.{bytes_eq}
use Rattle.hdr_bits.specs.declared.cube.Cube.{Cube}
use Rattle.net_text.specs.declared.Line.{Line}
use Rattle.net_text.specs.Lines.{piece, lines_of}
use Rattle.net_types.specs.declared.network.NetDevice.{NetDevice}
use Rattle.net_types.specs.declared.network.Network.{Network}
use Rattle.net_types.specs.declared.network.Place.{Place}
use Rattle.net_types.specs.World.{seat_named}
use Rattle.ask_query.specs.declared.fields.Field.{Field}
use Rattle.net_types.specs.declared.question.Question.{Question}
use Rattle.net_types.specs.declared.question.QuestionKind.{QuestionKind}
use Rattle.net_types.specs.declared.question.QuestionKind.TheVariants as kind
use Rattle.ask_query.specs.declared.refusal.QuestionFail.{QuestionFail}
use Rattle.ask_query.specs.declared.refusal.QuestionRefusal.TheVariants as refusal
use Rattle.ask_query.specs.Devices.{is_called}
use Rattle.ask_query.specs.Fields.{field_named, field_of, same_field, shift_of}
use Rattle.ask_query.specs.Refusals.{Word, refused, ◌>>=◌}

-- ---- places
-- the first device of this name, and the place of its first interface of that name
abbrev pub device_called : Network → Word → Option NetDevice
device_called net w = find (is_called w) net.devices

abbrev pub place_called : NetDevice → Word → Option Place
place_called d w = option_map (λ s. s.place) (seat_named d w)

abbrev pub with_interface : ℕ → Word → List Word → Option Place → Result (Place × List Word) QuestionFail
with_interface n w words None = Err (refused refusal.UnknownPlace n w)
with_interface n w words (Some p) = Ok (p, words)

unfoldable pub interface_at : NetDevice → ℕ → List Word → Result (Place × List Word) QuestionFail
interface_at d n [] = Err (refused refusal.MissingWord n [])
interface_at d n (w ∷ words) = with_interface n w words (place_called d w)

abbrev pub with_device : ℕ → Word → List Word → Option NetDevice → Result (Place × List Word) QuestionFail
with_device n w words None = Err (refused refusal.UnknownPlace n w)
with_device n w words (Some d) = interface_at d n words

-- a place, with the words behind it; the device is judged before the line's end
unfoldable pub place_at : Network → ℕ → List Word → Result (Place × List Word) QuestionFail
place_at net n [] = Err (refused refusal.MissingWord n [])
place_at net n (w ∷ words) = with_device n w words (device_called net w)

-- the word `to`
unfoldable pub to_at : ℕ → List Word → Result (List Word) QuestionFail
to_at n [] = Err (refused refusal.MissingWord n [])
to_at n (w ∷ words) = if bytes_eq w (codes "to") then Ok words else Err (refused refusal.BadWord n w)

unfoldable pub second_place : Network → ℕ → List Word → Result (Option Place × List Word) QuestionFail
second_place net n words = do
  rest ← to_at n words
  place ← place_at net n rest
  Ok (Some place.0, place.1)

-- the place of which a question of this kind speaks
unfoldable pub second_at : Network → QuestionKind → ℕ → List Word → Result (Option Place × List Word) QuestionFail
second_at net kind.Reach n words = second_place net n words
second_at net kind.Isolate n words = second_place net n words
second_at net kind.NoLoop n words = Ok (None, words)

-- ---- filters
-- the fields that are named so far, and the fixed bits of a header with the digits at those
pub record Filter : Type 0 where
  pub named : List Field
  pub fixed : ℕ
  pub bits : ℕ

abbrev pub no_field : Filter
no_field = record { named = []; fixed = 0; bits = 0 }

-- the filter, with these bits of the field fixed too
abbrev pub and_field : Filter → Field → ℕ × ℕ → Filter
and_field f x m = record { named = f.named ++ x ∷ []; fixed = bit_or f.fixed (m.0 * 2 ^ shift_of x); bits = bit_or f.bits (m.1 * 2 ^ shift_of x) }

abbrev pub if_free : ℕ → List Field → Word → Option Field → Result Field QuestionFail
if_free n named w None = Err (refused refusal.BadWord n w)
if_free n named w (Some x) = if list_any (λ y. same_field y x) named then Err (refused refusal.BadWord n w) else Ok x

-- the field of this name, that isn't named yet
abbrev pub free_field : ℕ → List Field → Word → Result Field QuestionFail
free_field n named w = if_free n named w (field_named w)

abbrev pub if_bits : ℕ → Word → Option (ℕ × ℕ) → Result (ℕ × ℕ) QuestionFail
if_bits n w None = Err (refused refusal.BadWord n w)
if_bits n w (Some m) = Ok m

-- the bits that a text of the field fixes
abbrev pub bits_at : ℕ → Field → Word → Result (ℕ × ℕ) QuestionFail
bits_at n x w = if_bits n w (field_of x w)

-- pairs of a field's name and a text of it
unfoldable pub filter_from : ℕ → Filter → List Word → Result (ℕ × ℕ) QuestionFail
filter_from n f [] = Ok (f.fixed, f.bits)
filter_from n f (w ∷ []) = free_field n f.named w >>= λ x. Err (refused refusal.MissingWord n [])
filter_from n f (w ∷ t ∷ words) = free_field n f.named w >>= λ x. bits_at n x t >>= λ m. filter_from n (and_field f x m) words

-- ---- questions
-- a question without where it lies in memory
pub record Said : Type 0 where
  pub kind : QuestionKind
  pub from : Place
  pub to : Option Place
  pub filter : ℕ × ℕ

abbrev pub masks_of : Cube → ℕ × ℕ
masks_of c = (c.fixed, c.bits)

abbrev pub said : Question → Said
said q = record { kind = q.kind; from = q.from; to = q.to; filter = masks_of q.filter }

abbrev pub kind_of : Word → Option QuestionKind
kind_of w =
    if bytes_eq w (codes "reach") then Some kind.Reach
    else (if bytes_eq w (codes "isolate") then Some kind.Isolate
    else (if bytes_eq w (codes "noloop") then Some kind.NoLoop
    else None))

unfoldable pub question_of : Network → QuestionKind → ℕ → List Word → Result Said QuestionFail
question_of net k n words = do
  from ← place_at net n words
  to ← second_at net k n from.1
  filter ← filter_from n no_field to.1
  Ok (record { kind = k; from = from.0; to = to.0; filter = filter })

abbrev pub begins_mark : Word → Bool
begins_mark [] = false
begins_mark (b ∷ bs) = b == 33

abbrev pub with_kind : Network → ℕ → Word → List Word → Option QuestionKind → Result (Option Said) QuestionFail
with_kind net n w words None = Err (refused refusal.BadWord n w)
with_kind net n w words (Some k) = question_of net k n words >>= λ q. Ok (Some q)

-- line n by its words: a comment begins with `!` and says nothing
unfoldable pub question_at : Network → ℕ → List Word → Result (Option Said) QuestionFail
question_at net n [] = Ok None
question_at net n (w ∷ words) = if begins_mark w then Ok None else with_kind net n w words (kind_of w)

-- the questions of the lines, in their order
unfoldable pub questions_in : Network → List ℕ → List Line → Result (List Said) QuestionFail
questions_in net bytes [] = Ok []
questions_in net bytes (l ∷ ls) = do
  first ← question_at net l.number (map (piece bytes) l.words)
  others ← questions_in net bytes ls
  Ok (option_to_list first ++ others)

-- the questions that the text asks, or the refusal of its first line that is refused
abbrev pub questions_of : Network → List ℕ → Result (List Said) QuestionFail
questions_of net bytes = questions_in net bytes (lines_of bytes)
