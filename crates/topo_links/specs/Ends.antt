-- The ends that a line of a link table names.
use Rattle.std.specs.Prelude.{◌≡◌, ℕ, Bool, false, ◌&&◌, ◌==◌, List, [], ◌∷◌, ◌++◌, length, take, nat_le, Result, Ok, Err, if◌then◌else◌}
use Rattle.std.specs.List.{list_any}
use Rattle.std.specs.Str.{bytes_eq}
use Rattle.net_text.specs.Limits.{word_limit}
use Rattle.topo_links.specs.declared.table.LinkKind.{LinkKind}
use Rattle.topo_links.specs.declared.table.LinkKind.TheVariants as kind
use Rattle.topo_links.specs.declared.table.LinkRefusal.{LinkRefusal}
use Rattle.topo_links.specs.declared.table.LinkRefusal.TheVariants as refusal
use Rattle.topo_links.specs.declared.table.LinkFail.{LinkFail}
use Rattle.topo_links.specs.declared.table.LinkFail.TheVariants as fail

-- a word, by its bytes
abbrev pub Word : Type 0
Word = List ℕ

-- the names of a device and of an interface of it
abbrev pub End : Type 0
End = Word × Word

-- both names are equal, byte for byte
abbrev pub is_same_end : End → End → Bool
is_same_end e f = bytes_eq e.0 f.0 && bytes_eq e.1 f.1

-- the end is one of these
abbrev pub is_taken : End → List End → Bool
is_taken e ends = list_any (is_same_end e) ends

-- a refusal at line n, with the word that shows it, cut at the limit
abbrev pub refused : LinkRefusal → ℕ → Word → LinkFail
refused k n word = fail.Refused k n (take word_limit word)

-- a p2p line has two ends, an ingress line one, a lan line two or more
abbrev pub is_full : LinkKind → ℕ → Bool
is_full kind.P2p count = count == 2
is_full kind.Lan count = false
is_full kind.Ingress count = count == 1

-- so many ends are enough for a line
abbrev pub is_enough : LinkKind → ℕ → Bool
is_enough kind.P2p count = count == 2
is_enough kind.Lan count = nat_le 2 count
is_enough kind.Ingress count = count == 1

-- The ends of line n, read from its words behind the ends that it has so far: pair by pair, from left to right.
-- An end is refused at its interface name where it was taken before, also by this line itself.
unfoldable pub ends_of : LinkKind → ℕ → List End → List End → List Word → Result (List End) LinkFail
ends_of k n taken ends [] = if is_enough k (length ends) then Ok ends else Err (refused refusal.MissingWord n [])
ends_of k n taken ends (d ∷ []) =
    if is_full k (length ends) then Err (refused refusal.BadWord n d) else Err (refused refusal.MissingWord n [])
ends_of k n taken ends (d ∷ i ∷ words) =
    if is_full k (length ends) then Err (refused refusal.BadWord n d)
    else (if is_taken (d, i) (taken ++ ends) then Err (refused refusal.EndTaken n i)
    else ends_of k n taken (ends ++ (d, i) ∷ []) words)

-- an answer but want of memory is what the reading gives
abbrev pub GivesFail : {Y : Type 0} → LinkFail → Result Y LinkFail → Type 0
GivesFail fail.NoMemory read = Unit {0}
GivesFail (fail.Refused k n word) read = read ≡ Err (fail.Refused k n word)

-- the same of an answer that may be Ok
abbrev pub Gives : {X Y : Type 0} → (X → Y) → Result X LinkFail → Result Y LinkFail → Type 0
Gives view (Ok x) read = read ≡ Ok (view x)
Gives view (Err e) read = GivesFail e read
