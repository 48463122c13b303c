-- The place with the nearest name: `Gi0/0` is meant for `GigabitEthernet0/0`, and `r1` for `R1`.
use Rattle.std.specs.Prelude.{ℕ, Bool, ◌&&◌, List, Option, map, find, position, length, take, drop, option_and_then, option_map}
use Rattle.std.specs.Char.{to_ascii_lowercase, is_ascii_digit}
use Rattle.std.specs.Option.{unwrap_or, option_or}
use Rattle.std.specs.Str.{bytes_eq}
use Rattle.net_types.specs.declared.config.Interface.{Interface}
use Rattle.net_types.specs.declared.config.Loaded.{Loaded}
use Rattle.topo_links.specs.Ends.{Word, End}
use Rattle.topo_links.specs.Check.{device_named}

-- in lower case
abbrev pub lower : Word → Word
lower w = map to_ascii_lowercase w

-- the same but for case
abbrev pub is_alike : Word → Word → Bool
is_alike v w = bytes_eq (lower v) (lower w)

-- the place of the first digit, or the length where there is none
abbrev pub letters : Word → ℕ
letters w = unwrap_or (position is_ascii_digit w) (length w)

-- the name has what is written from the first digit on
abbrev pub has_number : Word → Word → Bool
has_number written name = bytes_eq (drop (letters written) written) (drop (letters name) name)

-- and the letters in front of it begin with those that are written, in any case
abbrev pub is_short_for : Word → Word → Bool
is_short_for written name =
    has_number written name && is_alike (take (letters written) written) (take (letters written) (take (letters name) name))

abbrev pub number_of_interface : Word → Interface → Bool
number_of_interface written i = has_number written i.name

abbrev pub short_of_interface : Word → Interface → Bool
short_of_interface written i = is_short_for written i.name

-- the first interface that the name is short for, else the first with its number
abbrev pub near_interface : Word → List Interface → Option Interface
near_interface written is = option_or (find (short_of_interface written) is) (find (number_of_interface written) is)

-- the device of that name, else the first whose name is the same but for case
abbrev pub near_device : List Loaded → Word → Option Loaded
near_device folder n = option_or (device_named folder n) (find (λ l. is_alike n l.config.hostname) folder)

-- a device with an interface of it
abbrev pub place_of : Loaded → Interface → End
place_of l i = (l.config.hostname, i.name)

abbrev pub near_in_device : Word → Loaded → Option End
near_in_device written l = option_map (place_of l) (near_interface written l.config.interfaces)

-- the nearest place in a network
abbrev pub near_in : List Loaded → End → Option End
near_in folder e = option_and_then (near_in_device e.1) (near_device folder e.0)
