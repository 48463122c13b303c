use Rattle.std.proofs.Common.{◌<◌, take}
use Rattle.cube_diagram.specs.Functions.{Keeps, count_of}
use Rattle.set_walk.specs.Sets.{IsSetOf}
use Rattle.ask_query.specs.Reaching.{EndsAt}
use Rattle.ask_query.proofs.reaching.headers_at.Given as goal

abbrev pub invariant-loop-end : goal.invariant-loop-end
invariant-loop-end l = record {
  kept : Keeps l.fn.table l.table;
  below : l.set < count_of l.table;
  exact : IsSetOf l.table l.set (EndsAt l.fn.table (take l.end-index l.ends) l.place);
}
