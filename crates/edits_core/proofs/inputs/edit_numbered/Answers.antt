use Rattle.std.proofs.Common.{◌≡◌, ap, arith, length, subst}
use Rattle.net_load.specs.declared.numbering.Numbered.{Numbered}
use Rattle.edits_core.specs.Job.{EditsOn, asked_network}
use Rattle.edits_core.proofs.IngressCount.{few_ingresses}
use Rattle.edits_core.proofs.inputs.edit_numbered.Goals as goal

pub edit_on-requires-clause-few : goal.edit_on-requires-clause-few
edit_on-requires-clause-few c =
    let numbered : c.in_ok-numbered.numbered ≡ asked_network c.args.devices c.args.table.now = rw (c.into_vec.ensures, c.new.ensures.items) at c.in_ok-numbered.ensures in
    let same = ap (λ (n : Numbered). length n.links.ingress) numbered in
    let few = few_ingresses (asked_network c.args.devices c.args.table.now).names.texts c.args.table.now in
    omega (arith, same, few, c.requires.table)

pub returns-clause-job : goal.returns-clause-job
returns-clause-job c =
    let numbered : c.in_ok-numbered.numbered ≡ asked_network c.args.devices c.args.table.now = rw (c.into_vec.ensures, c.new.ensures.items) at c.in_ok-numbered.ensures in
    subst (λ (n : Numbered). EditsOn c.args.path.now n c.args.bytes.now c.edit_on.result) numbered c.edit_on.ensures.job
