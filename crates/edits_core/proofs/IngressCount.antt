-- A link table has no more ingresses than names.
use Rattle.std.proofs.Common.{◌≤◌, List, [], ◌∷◌, length, arith}
use Rattle.std.specs.Prelude.{flat_map}
use Rattle.std.proofs.lemmas.List.{length-append}
use Rattle.topo_links.specs.declared.table.LinkKind.{LinkKind}
use Rattle.topo_links.specs.declared.table.LinkKind.TheVariants as kind
use Rattle.topo_links.specs.declared.table.LinkLine.{LinkLine}
use Rattle.topo_links.specs.declared.table.LinkTable.{LinkTable}
use Rattle.topo_links.specs.Ends.{Word, End}
use Rattle.topo_links.specs.Table.{end_names, ingress_part, table_names}
use Rattle.net_load.specs.Numbering.{ingress_of, links_of, places_of}

end_count : (names : List Word) (ends : List End) → length (places_of names ends) ≤ length (end_names ends)
end_count names [] = omega arith
end_count names (e ∷ ends) = omega (arith, end_count names ends)

part_count : (names : List Word) (k : LinkKind) (ends : List End) → length (places_of names (ingress_part k ends)) ≤ length (end_names ends)
part_count names kind.P2p ends = omega arith
part_count names kind.Lan ends = omega arith
part_count names kind.Ingress ends = end_count names ends

lines_count : (names : List Word) (lines : List LinkLine) → length (flat_map (ingress_of names) lines) ≤ length (flat_map (λ l. end_names l.ends) lines)
lines_count names [] = omega arith
lines_count names (l ∷ ls) = omega (arith, part_count names l.kind l.ends, lines_count names ls, length-append (ingress_of names l) (flat_map (ingress_of names) ls), length-append (end_names l.ends) (flat_map (λ x. end_names x.ends) ls))

pub few_ingresses : (names : List Word) (t : LinkTable) → length (links_of names t).ingress ≤ length (table_names t)
few_ingresses names t = lines_count names t.lines
