use Rattle.std.proofs.Common.{ap, ◌∙◌, map}
use Rattle.walk_trace.specs.Keys.{state_of}
use Rattle.walk_trace.specs.Numbered.{with_state}
use Rattle.walk_trace.proofs.KeyLemmas.{key_added}
use Rattle.walk_trace.proofs.states.States.add.Goals as goal

pub returns : goal.returns
returns c =
    ap (map state_of) (rw c.key_of.ensures at c.in_ok-insert.ensures.keys)
    ∙ key_added c.args.state.now c.self.inside.keys.keys
    ∙ ap (λ us. with_state us c.args.state.now) c.self.view_is
