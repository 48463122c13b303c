-- What walks tell of headers.
use Rattle.std.specs.Prelude.{ℕ, ◌≡◌, ◌<◌, List, ◌++◌, Some, Contains, map, slice_get}
use Rattle.hdr_bits.specs.declared.header.Header.{Header}
use Rattle.cube_diagram.specs.Functions.{Functions, count_of}
use Rattle.set_walk.specs.declared.ends.OutcomeSet.{OutcomeSet}
use Rattle.set_walk.specs.declared.visits.DeviceVisitors.{DeviceVisitors}
use Rattle.set_walk.specs.Sets.{InSet}
use Rattle.incr_review.specs.declared.facts.FactSet.{FactSet}
use Rattle.incr_review.specs.declared.facts.WalkFact.{WalkFact}
use Rattle.incr_review.specs.declared.facts.WalkFact.TheVariants.{Ends, Visits}

abbrev pub fact_of_end : OutcomeSet → FactSet
fact_of_end e = record { fact = Ends e.outcome; headers = e.headers }

abbrev pub fact_of_visitor : DeviceVisitors → FactSet
fact_of_visitor v = record { fact = Visits v.device; headers = v.headers }

abbrev pub facts_of : List OutcomeSet → List DeviceVisitors → List FactSet
facts_of ends visitors = map fact_of_end ends ++ map fact_of_visitor visitors

-- the fact holds of the header, by one of the sets
pub record HasFact (fs : Functions) (facts : List FactSet) (h : Header) (x : WalkFact) : Type 0 where
  pub of : FactSet
  pub among : Contains facts of
  pub inside : InSet fs of.headers h
  pub is : of.fact ≡ x

abbrev pub AreFactsBelow : Functions → List FactSet → Type 0
AreFactsBelow fs facts = (x : FactSet) → Contains facts x → x.headers < count_of fs

-- each fact stands once
pub record StandOnce (facts : List FactSet) : Type 0 where
  pub once : (i j : ℕ) (x y : FactSet) → slice_get facts i ≡ Some x → slice_get facts j ≡ Some y → x.fact ≡ y.fact → i ≡ j
