-- Ways by the sets of the headers of each fate.
use Rattle.std.proofs.Common.{ℕ, ◌≡◌, ◌<◌, List, get_or, Option, Some, IsSome, refl, sym, subst}
use Rattle.std.specs.Prelude.{Contains}
use Rattle.std.proofs.lemmas.List.Elements.{Contains-get_or}
use Rattle.hdr_bits.specs.declared.header.Header.{Header}
use Rattle.hdr_bits.specs.HeaderBits.{number, IsHeader}
use Rattle.cube_diagram.specs.declared.value_sets.ValueSet.{ValueSet}
use Rattle.cube_diagram.specs.Combined.{if_both}
use Rattle.cube_diagram.specs.Functions.{Functions, Keeps, count_of, value_at}
use Rattle.cube_diagram.specs.ValueSets.{AreValueSets}
use Rattle.cube_diagram.proofs.ValuesTold.{in_value_set, in_one_set}
use Rattle.net_types.specs.declared.network.Move.{Move}
use Rattle.set_walk.specs.declared.step.Way.{Way}
use Rattle.set_walk.specs.Sets.{InSet}
use Rattle.place_ways.specs.Adding.{AddsWays, AreGiven, ByOne, MakesAny}
use Rattle.place_ways.proofs.SetLemmas.{both_some, kept_set}
use Rattle.place_ways.proofs.AddLemmas.{adds_same, adds_from}

-- what a function gives the headers of a scope
abbrev pub scoped : Functions → ℕ → ℕ → ℕ → Option ℕ
scoped f function scope n = if_both (value_at f function n) (value_at f scope n)

some_one : (o : Option ℕ) → o ≡ Some 1 → IsSome o
some_one o e = subst (λ z. IsSome z) (sym e) refl

-- the same by the values in a larger table
pub sets_in_new : (f g : Functions) (function scope : ℕ) (sets : List ValueSet) → Keeps f g → function < count_of f → scope < count_of f → AreValueSets g (scoped f function scope) sets → AreValueSets g (scoped g function scope) sets
sets_in_new f g function scope sets k l m s =
    let p : (n : ℕ) → value_at f function n ≡ value_at g function n = λ n. sym (k.value function l n) in
    let q : (n : ℕ) → value_at f scope n ≡ value_at g scope n = λ n. sym (k.value scope m n) in
    let e : scoped f function scope ≡ scoped g function scope = λ i n. if_both (p n i) (q n i) in
    subst (λ z. AreValueSets g z sets) e s

-- ways by each set are ways of the scope
pub sets_added : (f k : Functions) (function scope : ℕ) (sets : List ValueSet) (moves : Header → List Move) (a b : List Way) → AreValueSets f (scoped f function scope) sets → ((h : Header) → IsHeader h → (v : ℕ) × (value_at f function (number h) ≡ Some v)) → AddsWays f k (λ h m. ByOne (λ (s : ValueSet). InSet f s.set h × Contains (moves h) m) sets) a b → AddsWays f k (MakesAny f scope moves) a b
sets_added f k function scope sets moves a b s every p =
    adds_same f k _ _ a b (λ h v m. (
      λ x.
          let n = number h in
          let c = x.among in
          let i = in_value_set f (scoped f function scope) sets s c.0 x.one c.1 n (subst (λ (z : ValueSet). IsSome (value_at f z.set n)) (sym c.2) x.is.0) in
          (((both_some (get_or sets c.0 x.one).value (value_at f function n) (value_at f scope n)).0 i).0, x.is.1),
      λ x.
          let n = number h in
          let o = every h v in
          let q = in_one_set f (scoped f function scope) sets s n o.0 ((both_some o.0 (value_at f function n) (value_at f scope n)).1 (x.0, o.1)) in
          let d : ValueSet = record { value = 0; set = 0 } in
          record { one = get_or sets q.0 d; among = Contains-get_or sets q.0 d q.1; is = (some_one (value_at f (get_or sets q.0 d).set n) (q.2 d).1, x.1) },
    )) p

-- of the scope in the table before
pub scope_from : (f g k : Functions) (scope : ℕ) (moves : Header → List Move) (a b : List Way) → Keeps f g → scope < count_of f → AreGiven f a → AddsWays g k (MakesAny g scope moves) a b → AddsWays f k (MakesAny f scope moves) a b
scope_from f g k scope moves a b e l given p =
    adds_same f k _ _ a b (λ h v m. let z = kept_set f g scope h e l in (λ x. (z.0 x.0, x.1), λ x. (z.1 x.0, x.1))) (adds_from f g k _ a b e given p)
