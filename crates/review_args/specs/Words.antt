-- The words after the command, as the usage of the program has them.
--
-- An option stands anywhere after the command, as two words `--name value` or as one, `--name=value`. After a word `--`
-- all words are positional. Before it every other word that begins with `-` is refused, also as an option's value.
use Rattle.std.specs.Prelude.{Bool, false, not, ◌&&◌, ◌||◌, List, [], ◌∷◌, ◌++◌, Option, Some, None, is_some, filter_map, length, drop, codes, nat_eq, ◌==◌, if◌then◌else◌}
use Rattle.std.specs.List.{before_first, after_first, starts_with, list_any}
use Rattle.std.specs.Str.{bytes_eq}
use Rattle.review_args.specs.Numbers.{Word}

-- the options
abbrev pub workers : Word
workers = codes "--workers"

abbrev pub ttl : Word
ttl = codes "--ttl"

-- `--`
abbrev pub is_end : Word → Bool
is_end word = bytes_eq word (codes "--")

abbrev pub is_dashed : Word → Bool
is_dashed [] = false
is_dashed (c ∷ word) = c == 45

-- the name of an option as a word of its own
abbrev pub is_name : Word → Bool
is_name word = bytes_eq word workers || bytes_eq word ttl

-- what follows this beginning of a word
abbrev pub after : Word → Word → Option Word
after beginning word = if starts_with nat_eq word beginning then Some (drop (length beginning) word) else None

-- a word that is an option, with or without its value
abbrev pub is_option : Word → Bool
is_option word = is_name word || (is_some (after (workers ++ codes "=") word) || is_some (after (ttl ++ codes "=") word))

-- a word, behind the word before it
abbrev pub Pair : Type 0
Pair = Word × Word

abbrev pub with_previous : Word → List Word → List Pair
with_previous previous [] = []
with_previous previous (word ∷ words) = (previous, word) ∷ with_previous word words

-- the value of this option: the word after its name, or else what follows its name and `=`
abbrev pub value_in : Word → Pair → Option Word
value_in name pair =
    if is_name pair.0 then (if bytes_eq pair.0 name then Some pair.1 else None) else after (name ++ codes "=") pair.1

-- a word that stands for itself: it is neither a value nor an option
abbrev pub positional_in : Pair → Option Word
positional_in pair = if is_name pair.0 || is_dashed pair.1 then None else Some pair.1

-- a word that begins with `-`, and is an option's value or no option
abbrev pub is_stray : Pair → Bool
is_stray pair = is_dashed pair.1 && (is_name pair.0 || not (is_option pair.1))

-- whether the last word is an option's name, whose value is missing
abbrev pub ends_in_name : Word → List Word → Bool
ends_in_name previous [] = is_name previous
ends_in_name previous (word ∷ words) = ends_in_name word words

-- all of this over the words before the first `--`, the first of them after the command
abbrev pub pairs : Word → List Word → List Pair
pairs command words = with_previous command (before_first is_end words)

-- the values that an option is given
abbrev pub values : Word → Word → List Word → List Word
values name command words = filter_map (value_in name) (pairs command words)

-- the positional words: those before the first `--`, and all after it
abbrev pub positional : Word → List Word → List Word
positional command words = filter_map positional_in (pairs command words) ++ after_first is_end words

-- whether a word is refused wherever it stands
abbrev pub has_stray : Word → List Word → Bool
has_stray command words = list_any is_stray (pairs command words) || ends_in_name command (before_first is_end words)
