use Rattle.std.proofs.Common.{◌≤◌, List, length, refl, ap, ◌∙◌, subst, arith}
use Rattle.topo_links.specs.Ends.{Word}
use Rattle.net_load.specs.declared.numbering.NumberedBoth.{NumberedBoth}
use Rattle.net_load.specs.Numbering.{numbered_both}
use Rattle.why_core.specs.Traces.{IsFollowed}
use Rattle.why_core.specs.Words.{traces_in}
use Rattle.why_core.proofs.Naming.{names_fit}
use Rattle.why_core.proofs.traces.followed.Goals as goal

pub traces_bytes-requires : goal.traces_bytes-requires
traces_bytes-requires c =
    let two : length c.deref.result.now ≤ 2 = (let e = ap length (c.deref.ensures.value ∙ c.in_ok-names.ensures) in omega (arith, e)) in
    names_fit c.args.networks c.in_ok-both.both c.deref.result.now c.requires two c.in_ok-both.ensures

pub returns : goal.returns
returns c =
    let n = c.args.networks in
    let named = ap (λ (names : List Word). numbered_both n.old.items n.new.items n.links n.links names) (c.deref.ensures.value ∙ c.in_ok-names.ensures) in
    record {
      shown = subst (λ (m : NumberedBoth). IsFollowed m (traces_in c.args.asked) c.in_ok-text.text.items) (c.in_ok-both.ensures ∙ named) c.in_ok-text.ensures;
      affected = refl;
    }
