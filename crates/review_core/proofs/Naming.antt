-- How many names there are: no more than are written.
use Rattle.std.proofs.Common.{◌≡◌, ◌<◌, ◌≤◌, ◌^◌, List, [], ◌++◌, length, sym, subst, arith}
use Rattle.std.proofs.lemmas.List.{length-append}
use Rattle.net_types.specs.declared.config.Loaded.{Loaded}
use Rattle.topo_links.specs.declared.table.LinkTable.{LinkTable}
use Rattle.topo_links.specs.Ends.{Word}
use Rattle.topo_links.specs.Table.{table_names}
use Rattle.topo_links.proofs.NameOrder.{length_sorted}
use Rattle.net_load.specs.declared.numbering.Numbered.{Numbered}
use Rattle.net_load.specs.Numbering.{folder_names, all_names, count_names, names_of, numbered_of}

few_names : (old new : List Loaded) (t : LinkTable) (extra : List Word) → length (names_of old new t extra) ≤ count_names old new t extra
few_names old new t extra =
    let a = length-append (folder_names old) (folder_names new) in
    let b = length-append (folder_names old ++ folder_names new) (table_names t) in
    let d = length-append ((folder_names old ++ folder_names new) ++ table_names t) extra in
    let few = length_sorted (all_names old new t extra) in
    omega (arith, a, b, d, few)

-- so the numbers of one network's names and further ones have 32 bits, where the names as they are written are few enough
pub names_fit : (n : Numbered) (devices others : List Loaded) (t : LinkTable) (names extra : List Word) → n ≡ numbered_of devices others t names → others ≡ [] → names ≡ extra → count_names devices [] t extra < 2 ^ 32 → length n.names.texts < 2 ^ 32
names_fit n devices others t names extra numbered none named fits =
    let few = few_names devices [] t extra in
    let bound : length (names_of devices [] t extra) < 2 ^ 32 = omega (arith, few, fits) in
    let same = subst (λ (ns : List Word). length (names_of devices [] t ns) < 2 ^ 32) (sym named) bound in
    let alone = subst (λ (ls : List Loaded). length (names_of devices ls t names) < 2 ^ 32) (sym none) same in
    subst (λ (m : Numbered). length m.names.texts < 2 ^ 32) (sym numbered) alone
