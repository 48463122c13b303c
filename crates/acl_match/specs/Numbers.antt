-- The entries of a list as functions of a table of diagrams.
use Rattle.std.specs.Prelude.{ℕ, ◌≡◌, ◌<◌, List, All}
use Rattle.cube_diagram.specs.Functions.{Functions, count_of, value_at}
use Rattle.cube_diagram.specs.Entries.{first_value}
use Rattle.net_types.specs.declared.config.Entry.{Entry}
use Rattle.acl_match.specs.Lists.{entries_value}

-- the first of these functions that gives a header a value gives it what the first entry that matches says
pub record AreNumbers (functions : Functions) (entries : List Entry) (numbers : List ℕ) : Type 0 where
  pub below : All (λ i. i < count_of functions) numbers
  pub value : (h : ℕ) → first_value (value_at functions) numbers h ≡ entries_value entries h
