use Rattle.std.proofs.Common.{ℕ, List, Option, sym, subst}
use Rattle.cube_diagram.specs.Functions.{value_at}
use Rattle.pair_rows.specs.Pairs.{Pair, IsNumberOf}
use Rattle.net_compare.specs.Differing.{differing_by}
use Rattle.net_compare.proofs.pairs.pairs_classed.Goals as goal

pub returns-clause-given : goal.returns-clause-given
returns-clause-given c =
    let pairs = c.pair_numbers.new.pairs in
    let given = c.in_ok-given.given in
    record {
      each = λ h l.
          let both = differing_by c.args.table.now c.args.old c.args.new h in
          subst (λ (ps : List Pair). IsNumberOf ps (value_at given.table given.function h) both) (sym c.in_ok-given.ensures.pairs)
          (subst (λ (o : Option ℕ). IsNumberOf pairs o both) (sym (c.in_ok-given.ensures.exact h)) (c.in_ok-function.ensures.exact h));
    }
