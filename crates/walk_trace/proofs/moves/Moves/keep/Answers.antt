use Rattle.std.proofs.Common.{◌≡◌, sym, ap, subst, ◌∙◌}
use Rattle.indexmap.specs.IndexMap.{get}
use Rattle.net_view.specs.Borrowed.{world_of}
use Rattle.net_types.specs.World.{World}
use Rattle.walk_trace.specs.Kept.{same_key}
use Rattle.walk_trace.specs.Numbered.{ordered_moves}
use Rattle.walk_trace.proofs.KeptLemmas.{moves_kept}
use Rattle.walk_trace.proofs.moves.Moves.keep.Goals as goal

pub invariant_of-self-2 : goal.invariant_of-self-2
invariant_of-self-2 c =
    moves_kept (world_of c.self.inside.world) c.args.state.now (get same_key c.self.inside.moves) (get same_key c.insert.new.self) c.new.result
    (rw c.key_of.ensures at c.in_ok-insert.ensures.updates.0)
    (c.new.ensures ∙ c.requires ∙ ap (λ (w : World). ordered_moves w c.args.state.now) (sym c.self.view_is))
    c.self.invariant
