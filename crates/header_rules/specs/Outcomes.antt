-- What a move of a packet's last state adds to its label.
use Rattle.std.specs.Prelude.{Bool, Option, option_map}
use Rattle.hdr_bits.specs.declared.header.Header.{Header}
use Rattle.net_types.specs.declared.label.Outcome.{Outcome}
use Rattle.net_types.specs.declared.network.Move.{Move}
use Rattle.net_types.specs.Walks.{end_of, outcome_of}

-- the outcome of the end by this move, if it ends the walk
abbrev pub outcome_by : Header → Bool → Move → Option Outcome
outcome_by g last m = option_map (outcome_of g) (end_of last m)
