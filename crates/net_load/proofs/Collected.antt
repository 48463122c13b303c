-- All names, added in turn and put in order.
use Rattle.std.proofs.Common.{◌≡◌, ◌≤◌, ℕ, List, [], ◌++◌, length, refl, sym, ap, subst, ◌∙◌, arith}
use Rattle.net_types.specs.declared.config.Loaded.{Loaded}
use Rattle.topo_links.specs.declared.table.LinkTable.{LinkTable}
use Rattle.topo_links.specs.Names.{add_name, add_names, sorted_names}
use Rattle.topo_links.specs.Table.{table_names}
use Rattle.topo_links.proofs.NameOrder.{sorted_once, length_sorted}
use Rattle.std.proofs.lemmas.List.Sums.{fold-append}
use Rattle.std.proofs.lemmas.List.{length-append}
use Rattle.net_load.specs.Numbering.{folder_names, all_names, count_names, names_of}

-- the names after each part was added in turn, and put in order
in_turn : (m n o p q r a b c d : List (List ℕ)) → m ≡ [] → n ≡ add_names m a → o ≡ add_names n b → p ≡ add_names o c → q ≡ add_names p d → r ≡ sorted_names q → r ≡ sorted_names (((a ++ b) ++ c) ++ d)
in_turn m n o p q r a b c d e f g h i j =
    let added : q ≡ add_names [] (((a ++ b) ++ c) ++ d) =
    rw (fold-append add_name [] ((a ++ b) ++ c) d, fold-append add_name [] (a ++ b) c, fold-append add_name [] a b, i, h, g, f, e) refl in
    j ∙ ap sorted_names added ∙ sorted_once (((a ++ b) ++ c) ++ d)

module _ (m n o p q r : List (List ℕ)) (old new : List Loaded) (t : LinkTable) (extra : List (List ℕ)) (none : m ≡ []) (first : n ≡ add_names m (folder_names old)) (second : o ≡ add_names n (folder_names new)) (tables : p ≡ add_names o (table_names t)) (last : q ≡ add_names p extra) (sorted : r ≡ sorted_names q) where
  pub all_collected : r ≡ names_of old new t extra
  all_collected = in_turn m n o p q r (folder_names old) (folder_names new) (table_names t) extra none first second tables last sorted

  pub count_collected : length r ≤ count_names old new t extra
  count_collected =
      let a = length-append (folder_names old) (folder_names new) in
      let b = length-append (folder_names old ++ folder_names new) (table_names t) in
      let d = length-append ((folder_names old ++ folder_names new) ++ table_names t) extra in
      let size : length (all_names old new t extra) ≡ count_names old new t extra = omega (arith, a, b, d) in
      let few = length_sorted (all_names old new t extra) in
      subst (λ (ns : List (List ℕ)). length ns ≤ count_names old new t extra) (sym all_collected) (omega (arith, size, few))
