-- From labels with their classes to the labels that stand at numbers.
use Rattle.std.proofs.Common.{◌≡◌, ℕ, zero, suc, List, [], ◌∷◌, Option, Some, None, refl, ap, subst}
use Rattle.std.specs.Prelude.{option_map}
use Rattle.class_store.specs.declared.class.Class.{Class}
use Rattle.class_store.specs.Classes.{IsClass, label_of}
use Rattle.net_types.specs.declared.label.Outcome.{Outcome}
use Rattle.net_types.specs.Order.{in_order, outcome_cmp}
use Rattle.set_walk.specs.declared.numbers.OutcomeList.{OutcomeList}
use Rattle.net_compare.specs.declared.classes.Classed.{Classed}
use Rattle.net_compare.specs.Classes.{AreClassed, AreOfStore, IsClassOf, IsClassedOf, IsOfStore, classed_at}
use Rattle.net_compare.specs.Rows.{HasOutcomes, label_at}

-- a class that is there is one of the cells that are there
pub own_class : (store : Option (List ℕ)) (label : List Outcome) (o : Option Class) (cells : List ℕ) (class : Class) → store ≡ Some cells → o ≡ Some class → IsClassOf store label o → IsClass cells class × (label_of class ≡ label)
own_class store label o cells class e f i = subst (λ (s : Option (List ℕ)). IsClassOf s label (Some class)) e (subst (λ (c : Option Class). IsClassOf store label c) f i)

of_store : (store : Option (List ℕ)) (list : OutcomeList) (o : Option Classed) → IsClassedOf store list o → IsOfStore store o
of_store store list None i = tt
of_store store list (Some classed) i = i.1

-- the classes of labels are of the store
pub classed_of_store : (store : Option (List ℕ)) (labels : List OutcomeList) (all : List (Option Classed)) → AreClassed store labels all → AreOfStore store all
classed_of_store store labels all are None = tt
classed_of_store store [] [] are (Some n) = tt
classed_of_store store [] (o ∷ all) are (Some n) = absurd are
classed_of_store store (list ∷ labels) [] are (Some n) = absurd are
classed_of_store store (list ∷ labels) (o ∷ all) are (Some zero) = of_store store list o are.0
classed_of_store store (list ∷ labels) (o ∷ all) are (Some (suc n)) = classed_of_store store labels all are.1 (Some n)

own_label : (store : Option (List ℕ)) (list : OutcomeList) (o : Option Classed) → IsClassedOf store list o → (list.outcomes.items ≡ [] → ⊥) → option_map (λ (c : Classed). c.label) o ≡ Some (in_order outcome_cmp list.outcomes.items)
own_label store list None i some = absurd (some i)
own_label store list (Some classed) i some = ap Some i.0

-- where an outcome stands at the number, so does its label
pub label_of_classed : (store : Option (List ℕ)) (labels : List OutcomeList) (all : List (Option Classed)) → AreClassed store labels all → (number : Option ℕ) → HasOutcomes labels number → option_map (λ (c : Classed). c.label) (classed_at all number) ≡ label_at labels number
label_of_classed store labels all are None has = refl
label_of_classed store [] [] are (Some n) has = absurd (has refl)
label_of_classed store [] (o ∷ all) are (Some n) has = absurd are
label_of_classed store (list ∷ labels) [] are (Some n) has = absurd are
label_of_classed store (list ∷ labels) (o ∷ all) are (Some zero) has = own_label store list o are.0 has
label_of_classed store (list ∷ labels) (o ∷ all) are (Some (suc n)) has = label_of_classed store labels all are.1 (Some n) has
