-- How many names two networks have: no more than are written.
use Rattle.std.proofs.Common.{◌≡◌, ◌<◌, ◌≤◌, ◌^◌, List, ◌++◌, length, sym, subst, arith}
use Rattle.std.proofs.lemmas.List.{length-append}
use Rattle.topo_links.specs.Ends.{Word}
use Rattle.topo_links.specs.Table.{table_names}
use Rattle.topo_links.proofs.NameOrder.{length_sorted}
use Rattle.net_load.specs.declared.numbering.NumberedBoth.{NumberedBoth}
use Rattle.net_load.specs.Numbering.{all_names, extra_names, folder_names, names_of, numbered_both}
use Rattle.why_core.specs.declared.networks.Networks.{Networks}
use Rattle.why_core.specs.Networks.{AreFew}

-- so their numbers have 32 bits
pub names_fit : (ns : Networks) (n : NumberedBoth) (extra : List Word) → AreFew ns → length extra ≤ 2 → n ≡ numbered_both ns.old.items ns.new.items ns.links ns.links extra
    → length n.names.texts < 2 ^ 32
names_fit ns n extra are_few two numbered =
    let old = folder_names ns.old.items in
    let new = folder_names ns.new.items in
    let links = table_names ns.links in
    let a = length-append old new in
    let b = length-append (old ++ new) links in
    let d = length-append ((old ++ new) ++ links) (extra_names ns.links extra) in
    let e = length-append links extra in
    let few = length_sorted (all_names ns.old.items ns.new.items ns.links (extra_names ns.links extra)) in
    let of_old = are_few.old in
    let of_new = are_few.new in
    let of_links = are_few.links in
    let bound : length (names_of ns.old.items ns.new.items ns.links (extra_names ns.links extra)) < 2 ^ 32 = omega (arith, a, b, d, e, few, of_old, of_new, of_links, two) in
    subst (λ (m : NumberedBoth). length m.names.texts < 2 ^ 32) (sym numbered) bound
