-- How a trace is written: a line for each thing that a device did, and the label in the last line. Each line ends with LF.
use Rattle.std.specs.Prelude.{ℕ, ◌+◌, List, [], ◌∷◌, ◌++◌, Option, Some, None, codes, decimal, flat_map}
use Rattle.std.specs.Option.{unwrap_or}
use Rattle.net_types.specs.declared.network.Names.{Names}
use Rattle.net_types.specs.declared.network.Verdict.{Verdict}
use Rattle.net_types.specs.declared.network.Verdict.TheVariants.{Passed, Permit, Deny, DenyEnd}
use Rattle.report_text.specs.FieldText.{address_text, header_text}
use Rattle.report_text.specs.ReportText.{name_text, place_text, change_text, outcome_text, label_text}
use Rattle.walk_trace.specs.declared.types.Trace.{Trace}
use Rattle.walk_trace.specs.declared.types.TraceState.{TraceState}
use Rattle.walk_trace.specs.declared.types.TraceEnd.{TraceEnd}
use Rattle.walk_trace.specs.declared.types.TraceEnd.TheVariants.{Closed, Denied, Broadcast, Local, Choices}
use Rattle.walk_trace.specs.declared.types.TraceChoice.{TraceChoice}
use Rattle.walk_trace.specs.declared.types.TraceChoice.TheVariants.{Discard, Out}
use Rattle.walk_trace.specs.declared.types.TraceFate.{TraceFate}
use Rattle.walk_trace.specs.declared.types.TraceFate.TheVariants as fate

-- the word of a list that was tried, its name and the entry that decides: `none` where everything passes, `end` where the end of
-- the list denies
abbrev pub verdict_text : List ℕ → Verdict → List ℕ
verdict_text name Passed = codes " none\n"
verdict_text name (Permit sequence) = codes " " ++ name ++ codes " permit " ++ decimal sequence ++ codes "\n"
verdict_text name (Deny sequence) = codes " " ++ name ++ codes " deny " ++ decimal sequence ++ codes "\n"
verdict_text name DenyEnd = codes " " ++ name ++ codes " deny end\n"

unfoldable pub list_text : List ℕ → Option (List ℕ) → Verdict → List ℕ
list_text word list verdict = word ++ verdict_text (unwrap_or list []) verdict

-- the line of what a rule wrote: the address behind its words, and the port that a port rule wrote behind its word. No line
-- where no rule matched
unfoldable pub written_text : List ℕ → List ℕ → Option ℕ → Option ℕ → List ℕ
written_text address_word port_word None port = []
written_text address_word port_word (Some address) port =
    address_word ++ address_text address ++ change_text port_word decimal port ++ codes "\n"

-- ---- a choice

abbrev pub go_text : Option ℕ → List ℕ
go_text None = codes "go -\n"
go_text (Some number) = codes "go " ++ decimal number ++ codes "\n"

-- nothing more is told of a packet that the output list denies
unfoldable pub fate_text : Names → TraceFate → List ℕ
fate_text names fate.Denied = []
fate_text names (fate.Exit outcome) = outcome_text names outcome ++ codes "\n"
fate_text names fate.Lost = codes "lost\n"
fate_text names (fate.Go state) = go_text state

unfoldable pub choice_text : Names → TraceChoice → List ℕ
choice_text names Discard = codes "discard\n"
choice_text names (Out place next src sport dst output verdict fate) =
    codes "out " ++ name_text names place.interface ++ codes " next " ++ address_text next ++ codes "\n"
    ++ written_text (codes "nat src ") (codes " sport ") src sport
    ++ written_text (codes "nat dst ") [] dst None
    ++ list_text (codes "output") output verdict
    ++ fate_text names fate

-- ---- a state

-- the input list, and what translation from outside wrote
unfoldable pub arrival_text : TraceState → List ℕ
arrival_text x =
    list_text (codes "input") x.input x.verdict
    ++ written_text (codes "nat dst ") (codes " dport ") x.dst x.dport
    ++ written_text (codes "nat src ") [] x.src None

-- how far the packet gets, behind what was told of its arrival
unfoldable pub end_text : Names → TraceState → TraceEnd → List ℕ
end_text names x Closed = codes "closed\n"
end_text names x Denied = list_text (codes "input") x.input x.verdict
end_text names x Broadcast = arrival_text x ++ codes "broadcast\n"
end_text names x (Local place) = arrival_text x ++ codes "local " ++ place_text names place ++ codes "\n"
end_text names x (Choices choices) = arrival_text x ++ flat_map (choice_text names) choices

unfoldable pub state_text : Names → ℕ → TraceState → List ℕ
state_text names number x =
    codes "state " ++ decimal number ++ codes " at " ++ place_text names x.place ++ codes " " ++ header_text x.header ++ codes "\n"
    ++ end_text names x x.end

-- the states, numbered from this number on
abbrev pub states_text : Names → ℕ → List TraceState → List ℕ
states_text names number [] = []
states_text names number (x ∷ xs) = state_text names number x ++ states_text names (number + 1) xs

-- ---- a trace

-- the states with their numbers from 1 on, and the label
unfoldable pub trace_text : Names → Trace → List ℕ
trace_text names trace =
    states_text names 1 trace.states ++ codes "outcome " ++ label_text names trace.outcome ++ codes "\n"
