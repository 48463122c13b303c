-- What a list of things that were written, in order, says of one thing, and of each name.
use Rattle.std.specs.Prelude.{ℕ, Bool, true, false, List, [], ◌∷◌, ◌++◌, map, filter_map, fold, Option, Some, None, suc, slice_set, slice_index_or}
use Rattle.std.specs.Option.{option_or}
use Rattle.std.specs.Str.{bytes_eq}
use Rattle.ios_lines.specs.Words.{Word, Words}

-- the first of a list
abbrev pub first : {A : Type 0} → List A → Option A
first [] = None
first (x ∷ xs) = Some x

-- the last of a list
abbrev pub last : {A : Type 0} → List A → Option A
last [] = None
last (x ∷ xs) = option_or (last xs) (Some x)

-- the last that was written
abbrev pub latest : {E A : Type 0} → (E → Option A) → List E → Option A
latest f es = last (filter_map f es)

-- where a name stands
abbrev pub place_after : Bool → Option ℕ → Option ℕ
place_after true o = Some 0
place_after false None = None
place_after false (Some i) = Some (suc i)

-- the first place of a name in a list of names
abbrev pub place_of : Word → Words → Option ℕ
place_of n [] = None
place_of n (m ∷ ms) = place_after (bytes_eq n m) (place_of n ms)

-- a name that isn't there yet comes last
abbrev pub put_name : Option ℕ → Words → Word → Words
put_name None ns n = ns ++ n ∷ []
put_name (Some i) ns n = ns

-- a name that is written once more
abbrev pub add_name : Words → Word → Words
add_name ns n = put_name (place_of n ns) ns n

-- each name once, in the order of its first place
abbrev pub names_of : {C : Type 0} → List (Word × C) → Words
names_of ws = fold add_name [] (map (λ w. w.0) ws)

-- what was written of one name
abbrev pub keep_if : {C : Type 0} → Bool → C → Option C
keep_if true c = Some c
keep_if false c = None

-- what was written, where it is of this name
abbrev pub written_of : {C : Type 0} → Word → Word × C → Option C
written_of n w = keep_if (bytes_eq w.0 n) w.1

-- all that was written of this name, in order
abbrev pub changes_of : {C : Type 0} → Word → List (Word × C) → List C
changes_of n ws = filter_map (written_of n) ws

-- of each name, what all that was written of it makes
abbrev pub values_of : {C V : Type 0} → (Word → List C → V) → List (Word × C) → List V
values_of by ws = map (λ n. by n (changes_of n ws)) (names_of ws)

-- a change of the value at this place, or of a new value at the end
abbrev pub put_value : {C V : Type 0} → (V → C → V) → (Word → V) → Option ℕ → List V → Word → C → List V
put_value step new None vs n c = vs ++ step (new n) c ∷ []
put_value step new (Some i) vs n c = slice_set vs i (step (slice_index_or vs i (new [])) c)
