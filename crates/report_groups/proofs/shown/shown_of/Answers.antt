use Rattle.std.proofs.Common.{◌∙◌, ap}
use Rattle.std.specs.List.{list_any}
use Rattle.report_groups.specs.Values.{matches}
use Rattle.report_groups.proofs.ShownLemmas.{all_six, shows_group}
use Rattle.report_groups.proofs.shown.shown_of.Goals as goal

pub returns : goal.returns
returns c =
    let all = all_six c.args.group.now c.as_slice.result.now c.dst-item.result c.src-item.result c.proto-item.result c.dport-item.result c.sport-item.result c.flags-item.result c.as_slice.ensures c.requires c.dst-item.is c.src-item.is c.proto-item.is c.dport-item.is c.sport-item.is c.flags-item.is in
    shows_group c.args.group.now _ _ _ _ _ _ _ all
    (λ v l. c.in_ok-values_of.ensures v l ∙ ap (list_any (matches v)) c.as_slice-2.ensures)
    (λ v l. c.in_ok-values_of-2.ensures v l ∙ ap (list_any (matches v)) c.as_slice-3.ensures)
    (λ v l. c.in_ok-values_of-3.ensures v l ∙ ap (list_any (matches v)) c.as_slice-4.ensures)
    (λ v l. c.in_ok-values_of-4.ensures v l ∙ ap (list_any (matches v)) c.as_slice-5.ensures)
    (λ v l. c.in_ok-values_of-5.ensures v l ∙ ap (list_any (matches v)) c.as_slice-6.ensures)
    (λ v l. c.in_ok-flags_of.ensures v l ∙ ap (list_any (matches v)) c.as_slice-7.ensures)
