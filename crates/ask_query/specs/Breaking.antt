-- The headers that break a question, as sets.
use Rattle.std.specs.Prelude.{ℕ, ◌≡◌, List, Option, Some, Contains}
use Rattle.hdr_bits.specs.declared.header.Header.{Header}
use Rattle.hdr_bits.specs.HeaderBits.{number, IsHeader}
use Rattle.hdr_bits.specs.CubeBits.{IsIn}
use Rattle.cube_diagram.specs.Functions.{Functions}
use Rattle.net_types.specs.declared.network.Place.{Place}
use Rattle.net_types.specs.World.{World}
use Rattle.set_walk.specs.Sets.{InSet, IsSet}
use Rattle.ask_query.specs.declared.answers.WalkEnds.{WalkEnds}
use Rattle.net_types.specs.declared.question.Question.{Question}
use Rattle.net_types.specs.Questions.{BreaksKind}
use Rattle.ask_query.specs.Reaching.{AreEndsFor}

-- the set has the headers of the question's filter that break it
abbrev pub AreBreaking : World → ℕ → Question → Functions → ℕ → Type 0
AreBreaking w t q fs set = IsSet fs set (λ h. IsIn q.filter (number h) × BreaksKind w t q.kind q.from q.to h)

-- all headers of the question's filter are in the set
abbrev pub HasFilter : Functions → ℕ → Question → Type 0
HasFilter fs set q = (h : Header) → IsHeader h → IsIn q.filter (number h) → InSet fs set h

-- so are those of each question's
abbrev pub HaveFilters : Functions → ℕ → List Question → Type 0
HaveFilters fs set questions = (q : Question) → Contains questions q → HasFilter fs set q

-- the ends of a place that is known are those of the headers of the domain that enter there with the TTL t
abbrev pub AreWalks : World → ℕ → Functions → ℕ → (Place → Option WalkEnds) → Type 0
AreWalks w t fs domain walks = (p : Place) (walk : WalkEnds) → walks p ≡ Some walk → AreEndsFor w t p (InSet fs domain) fs walk.ends.items
