-- The entries of a list, among the lines so far.
use Rattle.std.proofs.Common.{◌≡◌, ℕ, ◌+◌, ◌<◌, List, [], ◌∷◌, ◌++◌, length, take, get_or, filter_map, refl, sym, ap, ◌∙◌, append-nil}
use Rattle.std.specs.Prelude.{Option, Some, None, option_to_list}
use Rattle.std.proofs.lemmas.List.{take_more}
use Rattle.ios_lines.proofs.Steps.{filter_map_more}
use Rattle.ios_config.specs.declared.entries.EntryLine.{EntryLine}
use Rattle.audit_view.specs.declared.lists.ListEntry.{ListEntry}

pub next_entries : (f : EntryLine → Option ListEntry) (lines : List EntryLine) (i : ℕ) (l : EntryLine) (found now : List ListEntry) → i < length lines → l ≡ get_or lines i l
    → now ≡ found ++ option_to_list (f l) → found ≡ filter_map f (take i lines) → now ≡ filter_map f (take (i + 1) lines)
next_entries f lines i l found now k e n h =
    n ∙ ap (λ x. x ++ option_to_list (f l)) h ∙ sym (filter_map_more f (take i lines) l) ∙ ap (filter_map f) (sym (take_more lines i l k ∙ ap (λ x. take i lines ++ x ∷ []) (sym e)))

pub added_some : (found now : List ListEntry) (o : Option ListEntry) (e : ListEntry) → o ≡ Some e → now ≡ found ++ e ∷ [] → now ≡ found ++ option_to_list o
added_some found now o e s n = n ∙ ap (λ x. found ++ option_to_list x) (sym s)

pub added_none : (found now : List ListEntry) (o : Option ListEntry) → ((e : ListEntry) → o ≡ Some e → ⊥) → now ≡ found → now ≡ found ++ option_to_list o
added_none found now None h n = n ∙ sym (append-nil found)
added_none found now (Some e) h n = absurd (h e refl)
