use Rattle.std.proofs.Common.{ap, ◌∙◌, rules}
use Rattle.std.specs.Prelude.{option_map}
use Rattle.std.proofs.lemmas.Fn.{always_returns_same}
use Rattle.text_tallies.specs.Tallies.{counted, rank, row}
use Rattle.text_tallies.proofs.Lookups.{kept_reordered}
use Rattle.text_tallies.proofs.tallies.Tallies.sort.Goals as goal

pub returns-clause-same : goal.returns-clause-same
returns-clause-same c = λ ts are.
    let same = kept_reordered c.args.self.now.seen.entries c.sort_by_key.new.self.entries c.in_ok-sort_by_key.ensures.reordered.0 c.in_ok-sort_by_key.ensures.unique in
    record {
      length = are.length;
      counts = λ text. ap counted (same text) ∙ are.counts text;
      firsts = λ text. ap (λ o. option_map (λ s. s.first) o) (same text) ∙ are.firsts text;
    }

pub returns-clause-order : goal.returns-clause-order
returns-clause-order c = c.in_ok-sort_by_key.ensures.sorted (λ e. rank (row (e.0.items, e.1))) (always_returns_same _ _ _ (λ a r q k. search rules))
