-- From labels as numbers to the pairs of labels that differ.
use Rattle.std.specs.Prelude.{ℕ, ◌≡◌, ◌≢◌, ◌<◌, ◌^◌, List, [], Option, Some, None, slice_get}
use Rattle.hdr_bits.specs.declared.header.Header.{Header}
use Rattle.hdr_bits.specs.HeaderBits.{IsHeader}
use Rattle.cube_diagram.specs.declared.paired.ValuePair.{ValuePair}
use Rattle.cube_diagram.specs.Functions.{Functions, value_at}
use Rattle.net_types.specs.declared.label.Outcome.{Outcome}
use Rattle.net_types.specs.declared.network.Place.{Place}
use Rattle.net_types.specs.World.{World}
use Rattle.net_types.specs.Walks.{label}
use Rattle.net_types.specs.Order.{in_order, outcome_cmp}
use Rattle.net_types.specs.Report.{labels_if_other}
use Rattle.set_walk.specs.declared.numbers.OutcomeList.{OutcomeList}
use Rattle.set_walk.specs.declared.numbers.LabelNumbers.{LabelNumbers}
use Rattle.set_walk.specs.Numbers.{outcomes_at}
use Rattle.set_walk.specs.Sets.{InSet}
use Rattle.pair_rows.specs.Pairs.{IsNumberOf}

-- the label that stands at a number
abbrev pub label_at : List OutcomeList → Option ℕ → Option (List Outcome)
label_at labels None = None
label_at labels (Some n) = Some (in_order outcome_cmp (outcomes_at labels n))

-- two labels, where both are there and they differ
abbrev pub pair_if_other : Option (List Outcome) → Option (List Outcome) → Option (List Outcome × List Outcome)
pair_if_other None b = None
pair_if_other (Some a) None = None
pair_if_other (Some a) (Some b) = labels_if_other a b

abbrev pub labels_by : List OutcomeList → List OutcomeList → Option ℕ → Option ℕ → Option (List Outcome × List Outcome)
labels_by old new m n = pair_if_other (label_at old m) (label_at new n)

-- the two labels that a header's numbers stand for, where they differ
abbrev pub labels_at : Functions → LabelNumbers → LabelNumbers → ℕ → Option (List Outcome × List Outcome)
labels_at fs old new h = labels_by old.labels.items new.labels.items (value_at fs old.function h) (value_at fs new.function h)

-- some outcome stands at the number, if there is one
abbrev pub HasOutcomes : List OutcomeList → Option ℕ → Type 0
HasOutcomes labels None = [] ≡ let xs : List OutcomeList = [] in xs
HasOutcomes labels (Some n) = outcomes_at labels n ≢ []

-- so it is for the number of each header
abbrev pub HaveOutcomes : Functions → LabelNumbers → Type 0
HaveOutcomes fs numbers = (h : ℕ) → h < 2 ^ 112 → HasOutcomes numbers.labels.items (value_at fs numbers.function h)

-- at the position of two numbers stands the number among the pairs of the pair that is given, and none where none is
pub record IsToldAt (pairs : List (List Outcome × List Outcome)) (given : Option (List Outcome × List Outcome)) (told : List (Option ℕ)) (position : ℕ) : Type 0 where
  pub number : Option ℕ
  pub there : slice_get told position ≡ Some number
  pub is : IsNumberOf pairs number given

-- so it is for each two numbers
abbrev pub AreTold : (ValuePair → Option (List Outcome × List Outcome)) → List (List Outcome × List Outcome) → List ValuePair → List (Option ℕ) → Type 0
AreTold given pairs numbers told = (n : ℕ) (two : ValuePair) → slice_get numbers n ≡ Some two → IsToldAt pairs (given two) told n

-- a header outside the set has the same label in both worlds
abbrev pub AreAlikeOutside : World → World → ℕ → Place → Functions → ℕ → Type 0
AreAlikeOutside old new t p fs set = (h : Header) → IsHeader h → (InSet fs set h → ⊥) → label old t p h ≡ label new t p h
