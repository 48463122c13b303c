-- The labels that a walk numbers, with their classes in a store. A store is seen as the list of the names of its cells.
use Rattle.std.specs.Prelude.{ℕ, ◌≡◌, List, [], Option, Some, None, IfSome, slice_get, option_and_then, option_map}
use Rattle.std.specs.List.{AllZip}
use Rattle.cube_diagram.specs.declared.paired.ValuePair.{ValuePair}
use Rattle.class_store.specs.declared.class.Class.{Class}
use Rattle.class_store.specs.Classes.{IsClass, label_of}
use Rattle.net_types.specs.declared.label.Outcome.{Outcome}
use Rattle.net_types.specs.Order.{in_order, outcome_cmp}
use Rattle.set_walk.specs.declared.numbers.OutcomeList.{OutcomeList}
use Rattle.net_compare.specs.declared.classes.Classed.{Classed}
use Rattle.net_compare.specs.Rows.{pair_if_other}

-- the class of a label in the store, if it has one; without a store it has none
abbrev pub IsClassOf : Option (List ℕ) → List Outcome → Option Class → Type 0
IsClassOf store label None = Unit {0}
IsClassOf None label (Some class) = ⊥
IsClassOf (Some cells) label (Some class) = IsClass cells class × (label_of class ≡ label)

-- the label of these outcomes; none where there are no outcomes
abbrev pub IsClassedOf : Option (List ℕ) → OutcomeList → Option Classed → Type 0
IsClassedOf store list None = list.outcomes.items ≡ []
IsClassedOf store list (Some classed) = (classed.label ≡ in_order outcome_cmp list.outcomes.items) × IsClassOf store classed.label classed.class

-- one for each number
abbrev pub AreClassed : Option (List ℕ) → List OutcomeList → List (Option Classed) → Type 0
AreClassed store labels all = AllZip (IsClassedOf store) labels all

-- the label at a number
abbrev pub classed_at : List (Option Classed) → Option ℕ → Option Classed
classed_at all number = option_and_then (λ n. option_and_then (λ classed. classed) (slice_get all n)) number

-- its class is one of the store
abbrev pub IsOfStore : Option (List ℕ) → Option Classed → Type 0
IsOfStore store classed = IfSome classed (λ c. IsClassOf store c.label c.class)

-- so it is at each number
abbrev pub AreOfStore : Option (List ℕ) → List (Option Classed) → Type 0
AreOfStore store all = (number : Option ℕ) → IsOfStore store (classed_at all number)

-- the two labels, where both are there and they differ
abbrev pub differing : Option Classed → Option Classed → Option (List Outcome × List Outcome)
differing old new = pair_if_other (option_map (λ c. c.label) old) (option_map (λ c. c.label) new)

-- those at two numbers
abbrev pub differing_at : List (Option Classed) → List (Option Classed) → ValuePair → Option (List Outcome × List Outcome)
differing_at old new two = differing (classed_at old two.first) (classed_at new two.second)
