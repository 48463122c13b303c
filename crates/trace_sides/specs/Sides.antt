-- Two traces of one packet, of two networks, side by side: what both begin with stands once, and behind that what each goes on with.
use Rattle.std.specs.Prelude.{ℕ, suc, ◌≡◌, ◌+◌, List, [], ◌∷◌, ◌++◌, Some, slice_get, take, drop, codes, if◌then◌else◌}
use Rattle.std.specs.Str.{bytes_eq}
use Rattle.net_types.specs.declared.network.Names.{Names}
use Rattle.report_text.specs.ReportText.{label_text}
use Rattle.walk_trace.specs.declared.types.Trace.{Trace}
use Rattle.walk_trace.specs.declared.types.TraceState.{TraceState}
use Rattle.walk_trace.specs.TraceText.{state_text, states_text, trace_text}
use Rattle.trace_sides.specs.Indented.{indented}

-- ---- where they part

-- how many states both lists begin with, where the first of them has this number: of each of these the same is told in both, which
-- is its place and header, the lists and rules with their verdicts, and how far the packet gets
abbrev pub shared_from : Names → ℕ → List TraceState → List TraceState → ℕ
shared_from names number [] ys = 0
shared_from names number (x ∷ xs) [] = 0
shared_from names number (x ∷ xs) (y ∷ ys) =
    if bytes_eq (state_text names number x) (state_text names number y) then suc (shared_from names (number + 1) xs ys) else 0

-- how many states two traces begin with. Behind them they part: the law is `traces_part_there`
unfoldable pub shared : Names → Trace → Trace → ℕ
shared names old new = shared_from names 1 old.states new.states

-- ---- how they are written

-- the first n states of a trace
unfoldable pub first_text : Names → ℕ → Trace → List ℕ
first_text names n trace = states_text names 1 (take n trace.states)

-- what a trace goes on with behind its first n states: the further ones, and the outcome
unfoldable pub rest_text : Names → ℕ → Trace → List ℕ
rest_text names n trace =
    states_text names (n + 1) (drop n trace.states) ++ codes "outcome " ++ label_text names trace.outcome ++ codes "\n"

-- nothing stands where they part at once
abbrev pub both_text : List ℕ → List ℕ
both_text [] = []
both_text (b ∷ text) = codes "both:\n" ++ indented (b ∷ text)

unfoldable pub sides_at : Names → ℕ → Trace → Trace → List ℕ
sides_at names n old new =
    both_text (first_text names n old)
    ++ codes "old:\n" ++ indented (rest_text names n old)
    ++ codes "new:\n" ++ indented (rest_text names n new)

-- two traces: what both begin with, and what each goes on with
unfoldable pub sides_text : Names → Trace → Trace → List ℕ
sides_text names old new = sides_at names (shared names old new) old new

-- ---- what can be read off it

-- the parts are the texts of both traces: nothing of either is lost
pub record AreWhole (names : Names) (n : ℕ) (old new : Trace) : Type 0 where
  pub old_trace : first_text names n old ++ rest_text names n old ≡ trace_text names old
  pub new_trace : first_text names n old ++ rest_text names n new ≡ trace_text names new

-- no more can stand once: of the next states, where both traces have one, different things are told
pub record PartAt (names : Names) (n : ℕ) (old new : Trace) : Type 0 where
  pub apart : (x y : TraceState) → slice_get old.states n ≡ Some x → slice_get new.states n ≡ Some y
      → state_text names (n + 1) x ≡ state_text names (n + 1) y → ⊥
