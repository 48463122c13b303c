-- The headers of a set, in parts by what walks tell of them.
use Rattle.std.specs.Prelude.{ℕ, ◌≡◌, ◌<◌, ◌⊎◌, ◌↔◌, Bool, is_some, List, [], ◌∷◌, ◌++◌, Option, Some, None, Contains, count_by, slice_get}
use Rattle.hdr_bits.specs.declared.header.Header.{Header}
use Rattle.hdr_bits.specs.HeaderBits.{number, IsHeader}
use Rattle.cube_diagram.specs.declared.value_sets.ValueSet.{ValueSet}
use Rattle.cube_diagram.specs.Functions.{Functions, GivesNothing, count_of, value_at}
use Rattle.set_walk.specs.Sets.{InSet}
use Rattle.incr_review.specs.declared.facts.FactSet.{FactSet}
use Rattle.incr_review.specs.declared.facts.WalkFact.{WalkFact}
use Rattle.incr_review.specs.declared.numbers.FactList.{FactList}
use Rattle.incr_review.specs.declared.parts.Part.{Part}
use Rattle.incr_review.specs.Facts.{HasFact}
use Rattle.incr_review.specs.FactNumbers.{facts_at}

-- 1 where there is a value
abbrev pub ones : Option ℕ → ℕ
ones None = 0
ones (Some v) = 1

-- the set has a header
abbrev pub IsFilled : Functions → ℕ → Type 0
IsFilled fs set = GivesNothing (value_at fs set) → ⊥

abbrev pub has_header : Functions → ℕ → Header → Bool
has_header fs set h = is_some (value_at fs set (number h))

abbrev pub in_part : Functions → Header → Part → Bool
in_part fs h q = has_header fs q.headers h

abbrev pub ArePartsBelow : Functions → List Part → Type 0
ArePartsBelow fs parts = (q : Part) → Contains parts q → q.headers < count_of fs

-- the same facts stand at both parts
abbrev pub TellAlike : Part → Part → Type 0
TellAlike q r = (x : WalkFact) → Contains q.facts.items x ↔ Contains r.facts.items x

-- each header of the domain is in one part, and no other header is in one; a part has exactly the facts that hold of each of its
-- headers, and no two parts have the same facts
pub record AreParts (fs : Functions) (domain : ℕ) (facts : List FactSet) (parts : List Part) : Type 0 where
  pub below : ArePartsBelow fs parts
  pub some : (q : Part) → Contains parts q → IsFilled fs q.headers
  pub one : (h : Header) → IsHeader h → count_by (in_part fs h) parts ≡ ones (value_at fs domain (number h))
  pub exact : (q : Part) (h : Header) → Contains parts q → IsHeader h → InSet fs q.headers h → (x : WalkFact) → Contains q.facts.items x ↔ HasFact fs facts h x
  pub apart : (i j : ℕ) (q r : Part) → slice_get parts i ≡ Some q → slice_get parts j ≡ Some r → TellAlike q r → i ≡ j

-- ---- how they are told apart

-- the headers of the set, with the facts at its value
pub record IsPartBy (lists : List FactList) (s : ValueSet) (q : Part) : Type 0 where
  pub headers_are : q.headers ≡ s.set
  pub facts_are : q.facts.items ≡ facts_at lists s.value

-- the headers are one part more, if there are some
pub record IsPartOf (headers : ℕ) (facts : List WalkFact) (parts more : List Part) : Type 0 where
  pub part : Part
  pub added : more ≡ parts ++ part ∷ []
  pub headers_are : part.headers ≡ headers
  pub facts_are : part.facts.items ≡ facts

abbrev pub AddsPart : Functions → ℕ → List WalkFact → List Part → List Part → Type 0
AddsPart fs headers facts parts more = (GivesNothing (value_at fs headers) × (more ≡ parts)) ⊎ (IsFilled fs headers × IsPartOf headers facts parts more)
