use Rattle.std.proofs.Common.{◌≡◌, ◌∙◌, ◌==◌, List, ℕ, Bool, true, ap, sym, subst}
use Rattle.std.specs.Prelude.{Contains}
use Rattle.std.specs.List.{list_any}
use Rattle.net_types.proofs.Members.{from_any}
use Rattle.live_network.proofs.ReplaceLemmas.{same_name}
use Rattle.live_network.proofs.touched.add_name.Goals as goal

pub returns-then-has_name-clause-named : goal.returns-then-has_name-clause-named
returns-then-has_name-clause-named c =
    let names = c.args.names.now.items in
    let name = c.args.name in
    let there : list_any (λ n. n == name) names ≡ true = ap (λ (ns : List ℕ). list_any (λ n. n == name) ns) (sym c.deref.ensures.value) ∙ (sym c.has_name.ensures ∙ c.if-has_name.true) in
    let r = from_any (λ n. n == name) names there in
    subst (Contains names) (same_name r.0 name r.2) r.1
