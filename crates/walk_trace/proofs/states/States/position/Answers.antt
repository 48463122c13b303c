use Rattle.std.proofs.Common.{ap, ◌∙◌}
use Rattle.std.specs.Prelude.{position}
use Rattle.walk_trace.specs.Numbered.{same_state}
use Rattle.walk_trace.proofs.KeyLemmas.{key_found}
use Rattle.walk_trace.proofs.states.States.position.Goals as goal

pub returns-clause-position : goal.returns-clause-position
returns-clause-position c =
    rw c.key_of.ensures at c.get_index_of.ensures.index
    ∙ key_found c.args.state.now c.self.inside.keys.keys
    ∙ ap (position (same_state c.args.state.now)) c.self.view_is
