-- What is kept of a network that changes.
use Rattle.std.specs.Prelude.{ℕ, ◌≡◌, ◌<◌}
use Rattle.indexmap.specs.IndexMap.{get}
use Rattle.hdr_bits.specs.declared.header.Header.{Header}
use Rattle.hdr_bits.specs.Lists.{Extends}
use Rattle.cube_diagram.specs.Functions.{Keeps, count_of}
use Rattle.net_types.specs.World.{World, same_place}
use Rattle.place_ways.specs.Places.{ArePositions}
use Rattle.set_walk.specs.Sets.{InSet}
use Rattle.live_network.specs.declared.live.LiveWays.{LiveWays}

-- the ways are those of the network for all headers
pub record IsLive (w : World) (n : LiveWays) : Type 0 where
  pub scope : n.scope < count_of n.tables.diagrams
  pub all : (h : Header) → InSet n.tables.diagrams n.scope h
  pub ways : ArePositions w n.tables.diagrams n.scope n.ways.lists.items (get same_place n.ways.positions)

-- functions and ways were added, and nothing of what was there is changed but for positions
pub record IsRenewed (old new : LiveWays) : Type 0 where
  pub scope : new.scope ≡ old.scope
  pub lists : Extends old.ways.lists.items new.ways.lists.items
  pub kept : Keeps old.tables.diagrams new.tables.diagrams
