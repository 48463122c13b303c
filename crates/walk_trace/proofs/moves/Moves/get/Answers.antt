use Rattle.std.proofs.Common.{sym, ap, ◌∙◌}
use Rattle.std.specs.Option.{option_copied}
use Rattle.net_types.specs.World.{World}
use Rattle.walk_trace.specs.Keys.{key_of}
use Rattle.walk_trace.specs.Numbered.{ordered_moves}
use Rattle.walk_trace.proofs.moves.Moves.get.Goals as goal

pub returns-in-Some : goal.returns-in-Some
returns-in-Some c =
    c.as_slice.ensures
    ∙ c.self.invariant (key_of c.args.state.now) c.in-Some.moves.now (sym (ap option_copied (sym c.in-Some.is) ∙ (rw c.key_of.ensures at c.get.ensures.value)))
    ∙ ap (λ (w : World). ordered_moves w c.args.state.now) c.self.view_is
