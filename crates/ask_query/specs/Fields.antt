-- The fields of a filter: their names, and what a text of one fixes.
use Rattle.std.specs.Prelude.{ℕ, ◌^◌, ◌==◌, ◌&&◌, Bool, List, map, find, Option, Some, None, bit_and, codes, if◌then◌else◌}
use Rattle.std.specs.List.{flat_map, range_with_len}
use Rattle.std.specs.Str.{bytes_eq}
use Rattle.report_text.specs.FieldText.{field_text, width_of}
use Rattle.ask_query.specs.declared.fields.Field.{Field}
use Rattle.ask_query.specs.declared.fields.Field.TheVariants as field
use Rattle.ask_query.specs.Refusals.{Word}

-- the fields by their names
abbrev pub field_named : Word → Option Field
field_named w =
    if bytes_eq w (codes "dst") then Some field.Dst
    else (if bytes_eq w (codes "src") then Some field.Src
    else (if bytes_eq w (codes "proto") then Some field.Proto
    else (if bytes_eq w (codes "dport") then Some field.Dport
    else (if bytes_eq w (codes "sport") then Some field.Sport
    else (if bytes_eq w (codes "flags") then Some field.Flags
    else None)))))

-- its place in a header, from 0
abbrev pub place_of : Field → ℕ
place_of field.Dst = 0
place_of field.Src = 1
place_of field.Proto = 2
place_of field.Dport = 3
place_of field.Sport = 4
place_of field.Flags = 5

abbrev pub same_field : Field → Field → Bool
same_field x y = place_of x == place_of y

-- how many of a header's bits stand behind it
abbrev pub shift_of : Field → ℕ
shift_of field.Dst = 80
shift_of field.Src = 48
shift_of field.Proto = 40
shift_of field.Dport = 24
shift_of field.Sport = 8
shift_of field.Flags = 0

-- all pairs of numbers below n
abbrev pub pairs_below : ℕ → List (ℕ × ℕ)
pairs_below n = flat_map (λ a. map (λ b. (a, b)) (range_with_len 0 n)) (range_with_len 0 n)

-- the word is what is printed of the field where it has these fixed bits, and these digits at those
abbrev pub is_printed : Field → Word → ℕ × ℕ → Bool
is_printed x w f = bit_and f.1 f.0 == f.1 && bytes_eq (field_text (place_of x) f.0 f.1) w

-- the fixed bits of the field that is printed so, and the digits at those, if there is one
unfoldable pub field_of : Field → Word → Option (ℕ × ℕ)
field_of x w = find (is_printed x w) (pairs_below (2 ^ width_of (place_of x)))
