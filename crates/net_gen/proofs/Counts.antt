-- How many names there are.
use Rattle.std.proofs.Common.{◌≡◌, ℕ, suc, ◌+◌, ◌-◌, ◌*◌, ◌^◌, ◌<◌, ◌≤◌, Bool, true, false, cond, List, [], ◌∷◌, ◌++◌, None, map, length, length-append, refl, ap, sym, ◌∙◌, arith}
use Rattle.std.specs.Prelude.{flat_map, nat_lt, codes}
use Rattle.std.proofs.lemmas.List.{length-map}
use Rattle.std.proofs.lemmas.List.FromFn.{length-range_with_len}
use Rattle.std.proofs.lemmas.List.Folds.{flat_map-map}
use Rattle.std.proofs.lemmas.Grind.{flat_map-append}
use Rattle.net_types.specs.declared.config.Interface.{Interface}
use Rattle.net_types.specs.declared.config.Loaded.{Loaded}
use Rattle.net_load.specs.Numbering.{config_names, folder_names, count_names}
use Rattle.topo_links.specs.declared.table.LinkLine.{LinkLine}
use Rattle.topo_links.specs.Table.{end_names, table_names}
use Rattle.net_gen.specs.Devices.{numbers, address, subnet, interface, before, behind, own, interfaces, device}
use Rattle.net_gen.specs.Networks.{file, files, link, ingress, table}

at_most : {A B : Type 0} (f : A → List B) (k : ℕ) → ((a : A) → length (f a) ≤ k) → (xs : List A) → length (flat_map f xs) ≤ k * length xs
at_most f k h [] = omega arith
at_most f k h (x ∷ xs) =
    let here : length (f x) ≤ k = h x in
    let rest : length (flat_map f xs) ≤ k * length xs = at_most f k h xs in
    let both : length (flat_map f (x ∷ xs)) ≡ length (f x) + length (flat_map f xs) = length-append (f x) (flat_map f xs) in
    omega arith

one_or_none : {A : Type 0} (b : Bool) (x : A) → length (cond b (x ∷ []) []) ≤ 1
one_or_none true x = omega arith
one_or_none false x = omega arith

-- up to three interfaces
interface_count : (n j : ℕ) → length (interfaces n j) ≤ 3
interface_count n j =
    let a : length (before j) ≤ 1 = one_or_none (nat_lt 1 j) (interface (codes "Ethernet0") (subnet (address 2 (j - 1) 2) 30) None) in
    let b : length (behind n j) ≤ 1 = one_or_none (nat_lt j n) (interface (codes "Ethernet1") (subnet (address 2 j 1) 30) None) in
    let x : length (interfaces n j) ≡ length (before j ++ behind n j) + length (own j ∷ []) = length-append (before j ++ behind n j) (own j ∷ []) in
    let y = length-append (before j) (behind n j) in
    let one : length (own j ∷ []) ≡ 1 = refl in
    omega (arith, a, b, x, y, one)

device_names : (new : Bool) (number n j : ℕ) → length (config_names (device new number n j)) ≤ 4
device_names new number n j =
    let named : length (map (λ (i : Interface). i.name) (interfaces n j)) ≡ length (interfaces n j) = length-map (interfaces n j) (λ (i : Interface). i.name) in
    let whole : length (config_names (device new number n j)) ≡ suc (length (map (λ (i : Interface). i.name) (interfaces n j))) = refl in
    omega (arith, named, whole, interface_count n j)

folder_size : (new : Bool) (number n : ℕ) → length (folder_names (files new number n)) ≤ 4 * n
folder_size new number n =
    let few : length (flat_map (λ (j : ℕ). config_names (device new number n j)) (numbers n)) ≤ 4 * length (numbers n) = at_most (λ (j : ℕ). config_names (device new number n j)) 4 (device_names new number n) (numbers n) in
    let same : length (folder_names (files new number n)) ≡ length (flat_map (λ (j : ℕ). config_names (device new number n j)) (numbers n)) = ap length (flat_map-map (λ (l : Loaded). config_names l.config) (file new number n) (numbers n)) in
    omega (arith, few, same, length-range_with_len 1 n)

abbrev line_names : LinkLine → List (List ℕ)
line_names l = end_names l.ends

link_names : (j : ℕ) → length (line_names (link j)) ≤ 4
link_names j = let e : length (line_names (link j)) ≡ 4 = refl in omega arith

table_size : (n : ℕ) → length (table_names (table n)) ≤ 4 * n + 4
table_size n =
    let links = map link (numbers (n - 1)) in
    let ends = ingress n 1 ∷ ingress (n + 1) n ∷ [] in
    let few : length (flat_map (λ (j : ℕ). line_names (link j)) (numbers (n - 1))) ≤ 4 * length (numbers (n - 1)) = at_most (λ (j : ℕ). line_names (link j)) 4 link_names (numbers (n - 1)) in
    let same : length (flat_map line_names links) ≡ length (flat_map (λ (j : ℕ). line_names (link j)) (numbers (n - 1))) = ap length (flat_map-map line_names link (numbers (n - 1))) in
    let last : length (flat_map line_names ends) ≡ 4 = refl in
    let whole : length (flat_map line_names (links ++ ends)) ≡ length (flat_map line_names links) + length (flat_map line_names ends) = ap length (flat_map-append line_names links ends) ∙ length-append (flat_map line_names links) (flat_map line_names ends) in
    let named : length (table_names (table n)) ≡ length (flat_map line_names (links ++ ends)) = refl in
    omega (arith, few, same, last, whole, named, length-range_with_len 1 (n - 1))

pub few_names : (number n : ℕ) → n ≤ 200 → count_names (files false number n) (files true number n) (table n) [] < 2 ^ 32
few_names number n small =
    omega (arith, small, folder_size false number n, folder_size true number n, table_size n)
