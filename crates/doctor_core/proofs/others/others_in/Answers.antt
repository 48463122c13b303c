use Rattle.std.proofs.Common.{◌≡◌, ◌∙◌, ap, subst, ℕ, List, IfOk, filter, map, Global}
use Rattle.std.specs.Prelude.{string_bytes}
use Rattle.topo_links.specs.Names.{sorted_names}
use Rattle.topo_links.proofs.NameOrder.{sorted_once}
use Rattle.doctor_core.specs.Folders.{is_other}
use Rattle.doctor_core.proofs.others.others_in.Goals as goal

pub returns : goal.returns
returns c =
    let names = filter is_other (map (string_bytes {Z = Global}) c.args.names.now) in
    let sorted : c.sort.new.self ≡ sorted_names names = c.in_ok-sort.ensures.ok ∙ (ap sorted_names c.in_ok-others.ensures ∙ sorted_once names) in
    subst (λ (found : List (List ℕ)). IfOk c.copies.result (λ others. others ≡ found)) sorted c.copies.ensures
