use Rattle.std.proofs.Common.{Option, subst}
use Rattle.net_types.specs.declared.config.AccessList.{AccessList}
use Rattle.net_forms.specs.Forms.{IsList}
use Rattle.list_tables.proofs.KnownLemmas.{made_more}
use Rattle.list_tables.proofs.shares.made_in.Goals as goal

pub loop-list-preserved : goal.loop-list-preserved
loop-list-preserved c =
    let a = c.loop-list.table in
    let b = c.add_list.new.diagrams in
    record { made = rw c.in_ok-push.ensures.items (made_more a b c.args.both c.loop-list.lists.items _ c.in_ok-function.ensures.kept c.loop-list.invariant.made (subst (λ (o : Option AccessList). IsList b o c.in_ok-function.function) c.list_at.ensures (record { below = c.in_ok-function.ensures.below; exact = c.in_ok-function.ensures.exact }))) }
