use Rattle.std.proofs.Common.{sym, subst, ◌∙◌}
use Rattle.net_forms.specs.Forms.{IsList}
use Rattle.net_forms.proofs.FormLemmas.{list_absent, list_there, all_known}
use Rattle.net_forms.proofs.compile.list_function.Goals as goal

pub returns-in_default-clause-list : goal.returns-in_default-clause-list
returns-in_default-clause-list c =
    subst (λ o. IsList c.add_list.new.diagrams o c.in_ok-function.function) (sym (list_absent c.args.lists.now c.args.name.now c.in_default.ensures)) (record { below = c.in_ok-function.ensures.below; exact = c.in_ok-function.ensures.exact })

pub returns-in-Some-known_function-clause-list : goal.returns-in-Some-known_function-clause-list
returns-in-Some-known_function-clause-list c =
    subst (λ o. IsList c.args.diagrams.now o c.in-Some-known_function.function) (sym (list_there c.args.lists.now c.args.name.now c.in-Some.position c.in-Some.ensures)) (all_known c.args.diagrams.now c.args.lists.now c.args.known.now.items (record { position = c.in-Some.position; function = c.in-Some-known_function.function }) c.requires (rw c.deref.ensures.value at c.in-Some-known_function.ensures))

pub returns-clause-list : goal.returns-clause-list
returns-clause-list c =
    subst (λ o. IsList c.add_list-2.new.diagrams o c.in_ok-function-2.function) (c.list_at.ensures ∙ sym (list_there c.args.lists.now c.args.name.now c.in-Some.position c.in-Some.ensures)) (record { below = c.in_ok-function-2.ensures.below; exact = c.in_ok-function-2.ensures.exact })
