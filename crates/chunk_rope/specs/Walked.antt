-- What a cursor has still to give of a chunk.
use Rattle.std.specs.Prelude.{List, [], Option, Some, None}
use Rattle.std.specs.VecDeque.Iter.{deque_iter_rest}
use Rattle.std.specs.declared.collections.vec_deque.Iter.{Iter}

module _ {T : Type 0} where
  abbrev pub left_in : Option (Iter T) → List T
  left_in None = []
  left_in (Some it) = deque_iter_rest it
