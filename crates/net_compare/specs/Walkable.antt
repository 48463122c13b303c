-- Two networks with what their walks need, in one table of sets.
use Rattle.std.specs.Prelude.{ℕ, ◌≡◌, Option}
use Rattle.cube_diagram.specs.Functions.{Functions}
use Rattle.difference_reach.specs.Reaches.{IsReach}
use Rattle.net_view.specs.Borrowed.{world_of}
use Rattle.pair_rows.specs.Pairs.{Pair}
use Rattle.set_walk.specs.Nets.{IsNet}
use Rattle.set_walk.specs.Scopes.{AreAlikeBeyond}
use Rattle.net_compare.specs.declared.compared.Compared.{Compared}
use Rattle.net_compare.specs.Slots.{affected_in}

-- both have their ways for the headers of one scope, outside which they do the same, and of each place it is known which
-- headers may meet a difference from there
pub record AreWalkable (fs : Functions) (c : Compared) : Type 0 where
  pub before : IsNet fs c.old.now
  pub after : IsNet fs c.new.now
  pub one_scope : c.old.now.scope ≡ c.new.now.scope
  pub reached : IsReach (world_of c.old.now.world) (world_of c.new.now.world) fs c.old.now.scope c.reach.now
  pub beyond : AreAlikeBeyond (world_of c.old.now.world) (world_of c.new.now.world) fs c.old.now.scope

-- the two labels of each header in each slot, where they differ
abbrev pub gives_of : Compared → ℕ → ℕ → Option Pair
gives_of c = affected_in (world_of c.old.now.world) (world_of c.new.now.world) c.ttl c.ingress.now
