-- The two halves of a cube, each with moves of all its headers: when these are one answer.
use Rattle.std.specs.Prelude.{◌≡◌, ℕ, List, All, Any, map}
use Rattle.hdr_bits.specs.declared.header.Header.{Header}
use Rattle.cube_alg.specs.declared.on_cube.OnCube.{OnCube}
use Rattle.cube_alg.specs.declared.on_cube.OnCube.TheVariants as answer
use Rattle.cube_alg.specs.Stamps.{changed_fields}
use Rattle.transfer_rel.specs.declared.moves.StampMove.{StampMove}
use Rattle.transfer_rel.specs.declared.moves.StampMove.TheVariants as stamped
use Rattle.transfer_rel.specs.CubeMoves.{move_of}
use Rattle.transfer_rel.specs.Entries.{Entry, entry_of}

-- the entry of a header by a move of its cube
abbrev pub entry_by : Header → StampMove → Entry
entry_by h m = entry_of h (move_of h m)

-- the entry is that of the header by one of these moves
unfoldable pub HasEntry : List StampMove → Header → Entry → Type 0
HasEntry ms h e = Any (λ m. entry_by h m ≡ e) ms

-- each entry of the header g, by the moves ms, is one of the header h, by ns
abbrev pub HasEntries : List StampMove → Header → List StampMove → Header → Type 0
HasEntries ms g ns h = All (λ m. HasEntry ns h (entry_by g m)) ms

-- the move without the replacements that leave the header as it is
abbrev pub shortened : Header → StampMove → StampMove
shortened h stamped.Drop = stamped.Drop
shortened h (stamped.Local p) = stamped.Local p
shortened h stamped.Lost = stamped.Lost
shortened h (stamped.Exit p s) = stamped.Exit p (changed_fields s h)
shortened h (stamped.Go p s) = stamped.Go p (changed_fields s h)

-- the entries of the two headers are the same, and the answer has the moves of the first; or they aren't
abbrev pub IsJoined : List StampMove → Header → List StampMove → Header → ℕ → OnCube (List StampMove) → Type 0
IsJoined ms g ns h bit (answer.All joined) = HasEntries ms g ns h × HasEntries ns h ms g × (joined ≡ map (shortened g) ms)
IsJoined ms g ns h bit (answer.Divides k) = (HasEntries ms g ns h → HasEntries ns h ms g → ⊥) × (k ≡ bit)
