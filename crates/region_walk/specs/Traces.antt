-- What the walks of one header meet at each number of moves.
use Rattle.std.specs.Prelude.{ℕ, zero, suc, ◌+◌, ◌<◌, ◌==◌, Bool, List, [], ◌++◌, map, flat_map, filter_map, Contains}
use Rattle.net_types.specs.declared.network.Move.{Move}
use Rattle.net_types.specs.declared.network.State.{State}
use Rattle.net_types.specs.World.{World}
use Rattle.net_types.specs.Moves.{moves}
use Rattle.net_types.specs.Walks.{End, states_after, end_of}
use Rattle.transfer_rel.specs.CubeMoves.{SameSet}

-- a state with the moves that it has
pub record Step : Type 0 where
  pub state : State
  pub moves : List Move

abbrev pub state_of_step : Step → State
state_of_step x = x.state

-- for each number of moves below the limit, the states that the walks from s lead to, with their moves
pub record IsTrace (w : World) (s : State) (limit : ℕ) (trace : ℕ → List Step) : Type 0 where
  pub states : (n : ℕ) → n < limit → SameSet (states_after w n s) (map state_of_step (trace n))
  pub moves : (n : ℕ) → n < limit → (x : Step) → Contains (trace n) x → SameSet (moves w x.state.place x.state.header) x.moves

abbrev pub step_ends : Bool → Step → List End
step_ends last x = filter_map (end_of last) x.moves

abbrev pub trace_ends_below : ℕ → (ℕ → List Step) → ℕ → List End
trace_ends_below t trace zero = []
trace_ends_below t trace (suc n) = trace_ends_below t trace n ++ flat_map (step_ends (n + 1 == t)) (trace n)
