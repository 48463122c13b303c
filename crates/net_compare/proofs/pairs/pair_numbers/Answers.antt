use Rattle.std.proofs.Common.{ℕ, List, Option, refl, sym, subst}
use Rattle.cube_diagram.specs.declared.paired.ValuePair.{ValuePair}
use Rattle.cube_diagram.specs.Functions.{value_at}
use Rattle.pair_rows.specs.Pairs.{IsNumberOf}
use Rattle.net_compare.specs.Classes.{differing_at}
use Rattle.net_compare.specs.Differing.{differing_by}
use Rattle.net_compare.specs.Rows.{AreTold}
use Rattle.net_compare.proofs.RowLemmas.{number_of_pair}
use Rattle.net_compare.proofs.pairs.pair_numbers.Goals as goal

pub returns-clause-exact : goal.returns-clause-exact
returns-clause-exact c =
    let fs = c.args.table.now in
    let old = c.args.old in
    let new = c.args.new in
    let pairs = c.pairs_of.new.pairs in
    let two = differing_at old.labels.now new.labels.now in
    let keys = c.paired.new.pairs.keys in
    let by_keys = subst (λ (ns : List ValuePair). AreTold two pairs ns c.in_ok-told.told.items) c.as_slice-two.ensures.keys c.in_ok-told.ensures.told in
    let told = subst (λ (ts : List (Option ℕ)). AreTold two pairs keys ts) (sym c.deref.ensures.value) by_keys in
    λ h.
    let x = value_at fs old.function h in
    let y = value_at fs new.function h in
    let both = value_at c.paired.new.self c.in_ok-both.both h in
    subst (λ (o : Option ℕ). IsNumberOf pairs o (differing_by fs old new h)) (sym (c.in_ok-function.ensures.exact h))
    (number_of_pair two pairs keys c.deref.result.now x y both (λ z. refl) told (c.in_ok-both.ensures.exact h))
