use Rattle.std.proofs.Common.{◌++◌, ◌∙◌, ap, append_assoc}
use Rattle.std.specs.Prelude.{codes}
use Rattle.edit_lines.specs.Built.{list_head}
use Rattle.edit_lines.proofs.built.append_list_head.Goals as goal

pub returns : goal.returns
unfolding list_head
returns c =
    let old = c.args.out.now.items in
    c.in_ok-append-2.ensures ∙ (ap (λ x. x ++ c.kind_word.result.now) c.in_ok-append.ensures
    ∙ (append_assoc old (codes "ip access-list ") c.kind_word.result.now
    ∙ ap (λ k. old ++ (codes "ip access-list " ++ k)) c.kind_word.ensures))
