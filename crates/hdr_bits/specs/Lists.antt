-- Lists that grow at their end.
use Rattle.std.specs.Prelude.{◌≡◌, List, ◌++◌}

-- items were added at the end, so those that were there keep their numbers
pub record Extends {A : Type 0} (old new : List A) : Type 0 where
  pub more : List A
  pub added : new ≡ old ++ more
