-- What becomes of a packet in two networks, side by side.
use Rattle.std.specs.Prelude.{◌≡◌, ℕ, Bool, false, List, [], ◌∷◌, Option, None, Some, Result, is_some}
use Rattle.net_io.specs.Files.{Told}
use Rattle.net_load.specs.declared.numbering.NumberedBoth.{NumberedBoth}
use Rattle.net_load.specs.Numbering.{numbered_both, place_of}
use Rattle.job_core.specs.declared.report.Report.{Report}
use Rattle.job_core.specs.declared.stop.Stop.{Stop}
use Rattle.job_core.specs.Steps.{Then, OrNoMemory}
use Rattle.walk_trace.specs.Traced.{traced}
use Rattle.why_core.specs.declared.networks.Networks.{Networks}
use Rattle.why_core.specs.Cases.{first_ttl}
use Rattle.why_core.specs.Shown.{IsSides}
use Rattle.why_core.specs.Words.{Traces, traces_of}
use Rattle.why_core.specs.Networks.{AcceptedNetworks, GivesNetworks}

-- the packet's traces in both networks, from the place of these names on, are shown
abbrev pub IsFollowed : NumberedBoth → Traces → List ℕ → Type 0
IsFollowed n w text =
    IsSides w.format n.names w
    (traced (record { network = n.old; links = n.old_links }) first_ttl (place_of n.names.texts (w.device, w.interface)) w.header)
    (traced (record { network = n.new; links = n.new_links }) first_ttl (place_of n.names.texts (w.device, w.interface)) w.header)
    text

pub record AreTraces (n : NumberedBoth) (w : Traces) (r : Report) : Type 0 where
  pub shown : IsFollowed n w r.text.items
  pub affected : r.affected ≡ false

-- both networks over their names and the two by which the packet's place is named: a place that a network doesn't have is absent
abbrev pub numbered_for : Networks → Traces → NumberedBoth
numbered_for n w = numbered_both n.old.items n.new.items n.links n.links (w.device ∷ w.interface ∷ [])

-- the networks are read as a comparison reads them
abbrev pub Follows : Told → Traces → Result Report Stop → Type 0
Follows t w = Then (GivesNetworks t w.old w.new w.links) (λ n. OrNoMemory (AreTraces (numbered_for n w) w))

abbrev pub Performs : Option Traces → Told → Result Report Stop → Type 0
Performs None t result = ⊥
Performs (Some w) t result = Follows t w result

-- what the words ask, done; or why it isn't
abbrev pub Does : List (List ℕ) → Told → Result Report Stop → Type 0
Does words t result = Performs (traces_of words) t result

-- the words are within the usage
abbrev pub is_asked : List (List ℕ) → Bool
is_asked words = is_some (traces_of words)

abbrev pub Accepted : Option Traces → Told → Type 0
Accepted None t = ⊥
Accepted (Some w) t = AcceptedNetworks t w.old w.new w.links

abbrev pub IsAccepted : List (List ℕ) → Told → Type 0
IsAccepted words t = Accepted (traces_of words) t
