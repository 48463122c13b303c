-- What is shown are the rows.
use Rattle.std.proofs.Common.{◌≡◌, ◌||◌, List, [], ◌∷◌, map, refl, sym, ◌∙◌}
use Rattle.std.specs.List.{list_any, flat_map, AllByRecursion}
use Rattle.std.proofs.lemmas.List.Elements.{recursion_from_All}
use Rattle.std.proofs.lemmas.List.Folds.{list_any-append}
use Rattle.std.proofs.lemmas.List.Sorted.{list_any-IsPermutation}
use Rattle.hdr_bits.specs.declared.header.Header.{Header}
use Rattle.hdr_bits.specs.HeaderBits.{IsHeader}
use Rattle.net_types.specs.declared.network.Row.{Row}
use Rattle.report_groups.specs.declared.types.Entry.{Entry}
use Rattle.report_groups.specs.declared.types.Group.{Group}
use Rattle.report_groups.specs.Entries.{IsEntry, AreEntries}
use Rattle.report_groups.specs.Groups.{cell_of, cells_of}
use Rattle.report_groups.specs.Meaning.{is_in_row, is_in_group}
use Rattle.report_groups.specs.Shown.{is_shown}
use Rattle.report_groups.proofs.Unions.{group_is_union}

module _ (h : Header) (is : IsHeader h) where
  in_groups : (gs : List Group) → list_any (is_in_row h) (flat_map cells_of gs) ≡ list_any (is_in_group h) gs
  in_groups [] = refl
  in_groups (g ∷ gs) = list_any-append (is_in_row h) (cells_of g) (flat_map cells_of gs) ∙ (λ i. group_is_union g h i || in_groups gs i)

  in_entries : (es : List Entry) → AllByRecursion IsEntry es → list_any (λ e. is_shown h e.shown) es ≡ list_any (is_in_group h) (map (λ e. e.group) es)
  in_entries [] all = refl
  in_entries (e ∷ es) all = λ i. all.0.headers.same h is i || in_entries es all.1 i

  pub shown_in_rows : (rows : List Row) (es : List Entry) → AreEntries rows es → list_any (λ e. is_shown h e.shown) es ≡ list_any (is_in_row h) (map cell_of rows)
  shown_in_rows rows es are =
      in_entries es (recursion_from_All IsEntry es are.each)
      ∙ (sym (in_groups (map (λ e. e.group) es)) ∙ sym (list_any-IsPermutation (is_in_row h) (map cell_of rows) (flat_map cells_of (map (λ e. e.group) es)) are.groups.same))
