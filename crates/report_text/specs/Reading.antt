-- How fields and reports are read, from left to right. What is read may still be written otherwise: that it prints as the same
-- bytes is a test of its own, behind the reading.
use Rattle.std.specs.Prelude.{◌≡◌, ℕ, zero, suc, ◌+◌, ◌-◌, ◌*◌, ◌%◌, ◌^◌, Bool, true, false, ◌&&◌, ◌==◌, List, [], ◌∷◌, ◌++◌, length, position, Option, Some, None, option_and_then, option_map, Result, Ok, Err, bit_and, codes, nat_lt, if◌then◌else◌}
use Rattle.std.specs.Str.{bytes_eq}
use Rattle.std.proofs.lemmas.Nat.{mod_below, and_assoc}
use Rattle.std.specs.Int.Bits.{and_self}
use Rattle.std.proofs.Common.{◌∙◌, ap, lit≤}
use Rattle.std.specs.List.{list_all}
use Rattle.std.specs.declared.cmp.Ordering.{Ordering}
use Rattle.std.specs.declared.cmp.Ordering.TheVariants.{Less}
use denote.Ref.{Bor}
use Rattle.hdr_bits.specs.declared.cube.Cube.{Cube}
use Rattle.hdr_bits.specs.declared.header.Header.{Header}
use Rattle.hdr_bits.specs.HeaderBits.{number}
use Rattle.ios_words.specs.Words.{address_of, number_of}
use Rattle.net_text.specs.Texts.{is_inside}
use Rattle.net_types.specs.Order.{in_order, outcome_cmp, text_cmp}
use Rattle.net_types.specs.declared.label.Outcome.{Outcome}
use Rattle.net_types.specs.declared.label.Outcome.TheVariants.{Dropped, Expired, Local, Exit}
use Rattle.net_types.specs.declared.network.Place.{Place}
use Rattle.net_types.specs.declared.network.Row.{Row}
use Rattle.net_types.specs.declared.network.Section.{Section}
use Rattle.report_text.specs.declared.reader.ReportFail.{ReportFail}
use Rattle.report_text.specs.declared.reader.ReportFail.TheVariants.{NotReport, NoMemory}
use Rattle.report_text.specs.FieldText.{prefix_mask, width_of, address_field_text, number_field_text}

infixl 10 ◌>>=◌
abbrev pub ◌>>=◌ : {A B : Type 0} → Option A → (A → Option B) → Option B
o >>= f = option_and_then f o

-- what a function returned is what is read, unless memory ran out
abbrev pub Gives : {X Y : Type 0} → (X → Y) → Result X ReportFail → Option Y → Type 0
Gives view (Ok x) read = read ≡ Some (view x)
Gives view (Err NotReport) read = read ≡ None
Gives view (Err NoMemory) read = Unit {0}

-- what stands before the first byte b, and what stands after it; where there is none, all and nothing
abbrev pub cut_at : ℕ → List ℕ → List ℕ × List ℕ
cut_at b [] = ([], [])
cut_at b (x ∷ xs) = if x == b then ([], xs) else (x ∷ (cut_at b xs).0, (cut_at b xs).1)

-- the next word, up to a blank
abbrev pub next_word : List ℕ → List ℕ
next_word bytes = (cut_at 32 bytes).0

-- what stands behind the next word
abbrev pub skip_word : List ℕ → List ℕ
skip_word bytes = (cut_at 32 bytes).1

-- the next word is this one
abbrev pub is_next : List ℕ → List ℕ → Bool
is_next word bytes = bytes_eq (next_word bytes) word

-- a part of a text, by its bytes
abbrev pub part_bytes : Bor (List ℕ) → List ℕ
part_bytes part = part.now

-- ---- fields

-- 1 for a digit, 0 for `*`
abbrev pub known_digit : ℕ → ℕ
known_digit b = if b == 42 then 0 else 1

-- 1 for the digit 1
abbrev pub one_digit : ℕ → ℕ
one_digit b = if b == 49 then 1 else 0

-- the number whose binary digits these are, behind the number n
abbrev pub binary_from : (ℕ → ℕ) → ℕ → List ℕ → ℕ
binary_from digit n [] = n
binary_from digit n (b ∷ bs) = binary_from digit (n * 2 + digit b) bs

-- the fixed bits of ternary digits, and the digits at those
abbrev pub ternary_of : List ℕ → ℕ × ℕ
ternary_of word = (binary_from known_digit 0 word, binary_from one_digit 0 word)

-- an address with a prefix length, 1 to 31
unfoldable pub prefix_of : List ℕ → List ℕ → Option (ℕ × ℕ)
prefix_of front back = do
  address ← address_of front
  length ← number_of 1 31 back
  Some (prefix_mask length, address)

-- an address, alone or with a prefix length
abbrev pub whole_address : List ℕ → Option (ℕ × ℕ)
whole_address word = option_map (λ a. (2 ^ 32 - 1, a)) (address_of word)

unfoldable pub dotted_of : List ℕ → Option (ℕ × ℕ)
dotted_of word =
    if nat_lt 0 (length (cut_at 47 word).1) then prefix_of (cut_at 47 word).0 (cut_at 47 word).1 else whole_address (cut_at 47 word).0

-- a field that is an address
unfoldable pub address_read : List ℕ → Option (ℕ × ℕ)
address_read word =
    if length word == 32 then Some (ternary_of word) else (if bytes_eq word (codes "*") then Some (0, 0) else dotted_of word)

-- a field that is a number of `width` bits
abbrev pub whole_number : ℕ → List ℕ → Option (ℕ × ℕ)
whole_number width word = option_map (λ n. (2 ^ width - 1, n)) (number_of 0 (2 ^ width - 1) word)

unfoldable pub number_read : ℕ → List ℕ → Option (ℕ × ℕ)
number_read width word =
    if length word == width then Some (ternary_of word) else (if bytes_eq word (codes "*") then Some (0, 0) else whole_number width word)

-- of what was read, a field that is written so
abbrev pub if_written : (ℕ → ℕ → List ℕ) → List ℕ → ℕ × ℕ → Option (ℕ × ℕ)
if_written text word f = if bit_and f.1 f.0 == f.1 && bytes_eq (text f.0 f.1) word then Some f else None

unfoldable pub address_field_of : List ℕ → Option (ℕ × ℕ)
address_field_of word = option_and_then (if_written address_field_text word) (address_read word)

unfoldable pub number_field_of : ℕ → List ℕ → Option (ℕ × ℕ)
number_field_of width word = option_and_then (if_written (number_field_text width) word) (number_read width word)

-- field 0 to 5
unfoldable pub field_of : ℕ → List ℕ → Option (ℕ × ℕ)
field_of field word =
    if nat_lt field 2 then address_field_of word else (if nat_lt field 6 then number_field_of (width_of field) word else None)

-- the field behind its name, and what stands behind it
unfoldable pub field_at : ℕ → List ℕ → Option ((ℕ × ℕ) × List ℕ)
field_at field bytes = option_map (λ f. (f, skip_word (skip_word bytes))) (field_of field (next_word (skip_word bytes)))

-- the fixed bits of the six fields of a line, and the digits at those
unfoldable pub fields_at : List ℕ → Option (Header × Header)
fields_at line = do
  dst ← field_at 0 line
  src ← field_at 1 dst.1
  proto ← field_at 2 src.1
  dport ← field_at 3 proto.1
  sport ← field_at 4 dport.1
  flags ← field_at 5 sport.1
  Some (
    record { dst = dst.0.0; src = src.0.0; proto = proto.0.0; dport = dport.0.0; sport = sport.0.0; flags = flags.0.0 },
    record { dst = dst.0.1; src = src.0.1; proto = proto.0.1; dport = dport.0.1; sport = sport.0.1; flags = flags.0.1 },
  )

-- ---- outcomes

-- the position of a name, where it has a number
abbrev pub small : ℕ → Option ℕ
small n = if nat_lt n (2 ^ 32) then Some n else None

abbrev pub name_number : List (List ℕ) → List ℕ → Option ℕ
name_number texts word = option_and_then small (position (bytes_eq word) texts)

-- the next two words as a place
unfoldable pub place_at : List (List ℕ) → List ℕ → Option (Place × List ℕ)
place_at texts bytes = do
  device ← name_number texts (next_word bytes)
  interface ← name_number texts (next_word (skip_word bytes))
  Some (record { device = device; interface = interface }, skip_word (skip_word bytes))

-- a changed field, where its name is the next word
unfoldable pub value_at : (List ℕ → Option ℕ) → List ℕ → Option (Option ℕ × List ℕ)
value_at value bytes = option_map (λ x. (Some x, skip_word bytes)) (value (next_word bytes))

unfoldable pub change_at : List ℕ → (List ℕ → Option ℕ) → List ℕ → Option (Option ℕ × List ℕ)
change_at name value bytes = if is_next name bytes then value_at value (skip_word bytes) else Some (None, bytes)

abbrev pub port_of : List ℕ → Option ℕ
port_of word = number_of 0 65535 word

unfoldable pub local_at : List (List ℕ) → List ℕ → Option (Outcome × List ℕ)
local_at texts bytes = do
  place ← place_at texts bytes
  Some (Local place.0, place.1)

unfoldable pub exit_at : List (List ℕ) → List ℕ → Option (Outcome × List ℕ)
exit_at texts bytes = do
  place ← place_at texts bytes
  src ← change_at (codes "src") address_of place.1
  dst ← change_at (codes "dst") address_of src.1
  sport ← change_at (codes "sport") port_of dst.1
  dport ← change_at (codes "dport") port_of sport.1
  Some (Exit place.0 src.0 dst.0 sport.0 dport.0, dport.1)

unfoldable pub outcome_at : List (List ℕ) → List ℕ → Option (Outcome × List ℕ)
outcome_at texts bytes =
    if is_next (codes "drop") bytes then Some (Dropped, skip_word bytes)
    else (if is_next (codes "expired") bytes then Some (Expired, skip_word bytes)
    else (if is_next (codes "local") bytes then local_at texts (skip_word bytes)
    else (if is_next (codes "exit") bytes then exit_at texts (skip_word bytes) else None)))

-- ---- labels, rows and sections; each number n is the most items that are still read

-- outcomes with a word between each two, up to the end
unfoldable pub outcomes_from : List (List ℕ) → ℕ → List Outcome → List ℕ → Option (List Outcome)
outcomes_from texts zero found bytes = Some found
outcomes_from texts (suc n) found [] = Some found
outcomes_from texts (suc n) found (b ∷ bytes) = do
  outcome ← outcome_at texts (b ∷ bytes)
  outcomes_from texts n (found ++ outcome.0 ∷ []) (skip_word outcome.1)

abbrev pub label_of : List Outcome → Option (List Outcome)
label_of [] = None
label_of (o ∷ os) = Some (in_order outcome_cmp (o ∷ os))

-- the label behind the first word of a line
unfoldable pub label_at : List (List ℕ) → List ℕ → Option (List Outcome)
label_at texts line = option_and_then label_of (outcomes_from texts (length line) [] (skip_word line))

-- the cube with these masks
abbrev pub cube_of : ℕ → ℕ → Cube
cube_of n m = record {
  fixed = n % 2 ^ 112;
  bits = bit_and m (n % 2 ^ 112);
  below = mod_below n (2 ^ 112) (lit≤ tt);
  digits = and_assoc (n % 2 ^ 112) m (n % 2 ^ 112) ∙ ap (bit_and m) (and_self (n % 2 ^ 112));
}

-- the cube of these fixed bits and digits, where no digit stands at another bit
abbrev pub masks_cube : ℕ → ℕ → Option Cube
masks_cube n m = if bit_and m n == m then Some (cube_of n m) else None

abbrev pub cube_with : Header × Header → Option Cube
cube_with h = masks_cube (number h.0) (number h.1)

unfoldable pub cube_at : List ℕ → Option Cube
cube_at line = option_and_then cube_with (fields_at line)

-- the next line, up to LF
abbrev pub next_line : List ℕ → List ℕ
next_line bytes = (cut_at 10 bytes).0

-- what stands behind the next line
abbrev pub skip_line : List ℕ → List ℕ
skip_line bytes = (cut_at 10 bytes).1

-- three lines as a row
unfoldable pub row_at : List (List ℕ) → List ℕ → Option (Row × List ℕ)
row_at texts bytes = do
  cube ← cube_at (next_line bytes)
  old ← label_at texts (next_line (skip_line bytes))
  new ← label_at texts (next_line (skip_line (skip_line bytes)))
  Some (record { cube = cube; old = old; new = new }, skip_line (skip_line (skip_line bytes)))

-- rows, as long as the next word is the name of a cube's first field
unfoldable pub rows_from : List (List ℕ) → ℕ → List Row → List ℕ → Option (List Row × List ℕ)
rows_from texts zero found bytes = Some (found, bytes)
rows_from texts (suc n) found bytes =
    if is_next (codes "dst") bytes then (do
      row ← row_at texts bytes
      rows_from texts n (found ++ row.0 ∷ []) row.1)
    else Some (found, bytes)

-- a line that names an ingress, and the rows behind it
unfoldable pub section_at : List (List ℕ) → List ℕ → Option (Section × List ℕ)
section_at texts bytes = do
  place ← place_at texts (skip_word (next_line bytes))
  rows ← rows_from texts (length bytes) [] (skip_line bytes)
  Some (record { place = place.0; rows = rows.0 }, rows.1)

-- sections, as long as the next word is that of an ingress
unfoldable pub sections_from : List (List ℕ) → ℕ → List Section → List ℕ → Option (List Section)
sections_from texts zero found bytes = Some found
sections_from texts (suc n) found bytes =
    if is_next (codes "ingress") bytes then (do
      section ← section_at texts bytes
      sections_from texts n (found ++ section.0 ∷ []) section.1)
    else Some found

-- ---- names

-- whether the first comes before the second
abbrev pub is_less : Ordering → Bool
is_less Less = true
is_less _ = false

-- a word: bytes, none of which ends it
abbrev pub is_name : List ℕ → Bool
is_name word = nat_lt 0 (length word) && list_all is_inside word

-- each is a word, and behind the one before it
abbrev pub are_rising : List ℕ → List (List ℕ) → Bool
are_rising before [] = true
are_rising before (t ∷ ts) = is_name t && (is_less (text_cmp before t) && are_rising t ts)
