-- The window of a label in a store of set-once cells. A store is seen as the list of the names of its cells, in order.
use Rattle.std.specs.Prelude.{ℕ, ◌%◌, List, ◌++◌, take, drop, fold}
use Rattle.std.specs.Hash as fed
use Rattle.std.specs.Hash.FoldHasher as folding
use Rattle.net_types.specs.declared.label.Outcome.{Outcome}
use Rattle.net_types.specs.contracts.label.OutcomeHash.TheImpl as outcome

-- the number that std's `FoldHasher` gives for the outcomes of a label
abbrev pub label_hash : List Outcome → ℕ
label_hash label = folding.finish (fold folding.write folding.initial (fed.slice outcome.ghosts.hash_input label))

-- the position in the store at which the window of a label begins, in a store of so many cells
abbrev pub window_start : List Outcome → ℕ → ℕ
window_start label count = label_hash label % count

-- a window: 32 neighbouring cells, cyclic. From the store once round from `start` on, these are the first 32
abbrev pub window : List ℕ → ℕ → List ℕ
window cells start = take 32 (drop start cells ++ take start cells)
