-- How chunks are linked, and what they hold.
use Rattle.std.specs.Prelude.{◌≡◌, ℕ, ◌+◌, ◌≤◌, ◌<◌, List, [], ◌∷◌, ◌++◌, length, Option, Some, None}
use Rattle.std.specs.VecDeque.{deque_len, deque_capacity}
use Rattle.std.specs.declared.boxed.Box.{Box}
use Rattle.std.specs.declared.alloc.Global.{Global}
use Rattle.chunk_rope.specs.Owned.{Place}
use Rattle.chunk_rope.specs.declared.chain.Mark.{Mark}
use Rattle.chunk_rope.specs.declared.chunks.Chunk.{Chunk}

-- the mark of what lies there
abbrev pub mark_of : Place → Mark
mark_of p = record { ptr = p.0 }

module _ {T : Type 0} where
  -- what the blocks hold, in order
  abbrev pub items_of : List (Place × Chunk T) → List T
  items_of [] = []
  items_of (b ∷ bs) = b.1.items.items ++ items_of bs

  -- From `link` each block leads to the next one, and the last block leads to `end`. No chunk is empty
  abbrev pub Leads : Option Mark → List (Place × Chunk T) → Option Mark → Type 0
  Leads link [] end = link ≡ end
  Leads link (b ∷ bs) end = (link ≡ Some (mark_of b.0)) × (0 < deque_len b.1.items) × Leads b.1.next bs end

  -- the mark of the last block
  abbrev pub last_mark : List (Place × Chunk T) → Option Mark
  last_mark [] = None
  last_mark (b ∷ []) = Some (mark_of b.0)
  last_mark (b ∷ c ∷ bs) = last_mark (c ∷ bs)

  -- what a chunk, if there is one, holds
  abbrev pub held_by : Option (Box (Chunk T) Global) → List T
  held_by None = []
  held_by (Some b) = b.value.items.items

  -- where a chunk, if there is one, leads
  abbrev pub link_of : Option (Box (Chunk T) Global) → Option Mark
  link_of None = None
  link_of (Some b) = b.value.next

  -- how many chunks there are
  abbrev pub count_of : Option (Box (Chunk T) Global) → List (Place × Chunk T) → ℕ
  count_of None bs = 0
  count_of (Some b) bs = length bs + 1

  -- The first chunk leads through the others to the end, and none is empty. Without a first one there are no others
  abbrev pub Linked : Option (Box (Chunk T) Global) → List (Place × Chunk T) → Option Mark → Type 0
  Linked None bs last = (bs ≡ []) × (last ≡ None)
  Linked (Some b) bs last = (0 < deque_len b.value.items) × Leads b.value.next bs None × (last ≡ last_mark bs)

  -- the chunk, if there is one, has room for this many
  abbrev pub HasRoom : Option (Box (Chunk T) Global) → ℕ → Type 0
  HasRoom None spare = spare ≡ 0
  HasRoom (Some b) spare = deque_len b.value.items + spare ≤ deque_capacity b.value.items
