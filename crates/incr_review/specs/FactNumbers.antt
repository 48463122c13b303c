-- The facts that hold of headers, as numbers.
use Rattle.std.specs.Prelude.{ℕ, ◌≡◌, ◌<◌, ◌↔◌, List, [], ◌++◌, Option, Some, None, Contains, slice_get}
use Rattle.std.specs.Option.{option_map_or}
use Rattle.hdr_bits.specs.declared.header.Header.{Header}
use Rattle.hdr_bits.specs.HeaderBits.{number, IsHeader}
use Rattle.cube_diagram.specs.declared.paired.ValuePair.{ValuePair}
use Rattle.cube_diagram.specs.Functions.{Functions, count_of, value_at}
use Rattle.incr_review.specs.declared.facts.FactSet.{FactSet}
use Rattle.incr_review.specs.declared.facts.WalkFact.{WalkFact}
use Rattle.incr_review.specs.declared.numbers.FactList.{FactList}
use Rattle.incr_review.specs.declared.numbers.FactNumbers.{FactNumbers}
use Rattle.incr_review.specs.Facts.{HasFact}

-- the facts that stand at the number; none where the list ends before it
abbrev pub facts_at : List FactList → ℕ → List WalkFact
facts_at lists n = option_map_or (λ l. l.facts.items) (slice_get lists n) []

-- the facts of a header that has this number; none of one that has no number
abbrev pub facts_by : List FactList → Option ℕ → List WalkFact
facts_by lists None = []
facts_by lists (Some n) = facts_at lists n

-- the facts that the numbers tell of a header
abbrev pub facts_told : Functions → FactNumbers → Header → List WalkFact
facts_told fs numbers h = facts_by numbers.lists.items (value_at fs numbers.function (number h))

-- the same facts hold of the two headers
abbrev pub HaveSameFacts : Functions → List FactSet → Header → Header → Type 0
HaveSameFacts fs facts h k = (x : WalkFact) → HasFact fs facts h x ↔ HasFact fs facts k x

-- the numbers tell of each header exactly the facts that hold of it, and two headers of the same facts have one number
pub record AreFactNumbers (fs : Functions) (facts : List FactSet) (numbers : FactNumbers) : Type 0 where
  pub below : numbers.function < count_of fs
  pub exact : (h : Header) → IsHeader h → (x : WalkFact) → Contains (facts_told fs numbers h) x ↔ HasFact fs facts h x
  pub same : (h k : Header) → IsHeader h → IsHeader k → HaveSameFacts fs facts h k → value_at fs numbers.function (number h) ≡ value_at fs numbers.function (number k)

-- ---- how they are found

-- the facts of a header that has these two numbers
abbrev pub facts_of_pair : List FactList → List FactList → ValuePair → List WalkFact
facts_of_pair first second pair = facts_by first pair.first ++ facts_by second pair.second

-- c tells of each header what a and b tell of it, and gives two headers one number where a does and b does
pub record TellsBoth (f : Functions) (a b : FactNumbers) (g : Functions) (c : FactNumbers) : Type 0 where
  pub below : c.function < count_of g
  pub facts : (h : ℕ) → facts_by c.lists.items (value_at g c.function h) ≡ facts_by a.lists.items (value_at f a.function h) ++ facts_by b.lists.items (value_at f b.function h)
  pub same : (h k : ℕ) → value_at f a.function h ≡ value_at f a.function k → value_at f b.function h ≡ value_at f b.function k → value_at g c.function h ≡ value_at g c.function k
