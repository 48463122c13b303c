-- The six fields of a group, each shown as it is.
use Rattle.std.proofs.Common.{◌≡◌, Bool, true, false, ◌&&◌, List, [], ◌∷◌, ◌++◌, map, length, slice_index_or, refl, sym, ap, ◌∙◌, arith, All}
use Rattle.std.specs.List.{list_any}
use Rattle.std.proofs.lemmas.List.{map-append}
use Rattle.std.proofs.lemmas.List.Elements.{All-same, All-push}
use Rattle.report_groups.specs.declared.types.Draft.{Draft}
use Rattle.report_groups.specs.declared.types.Entry.{Entry}
use Rattle.report_groups.specs.declared.types.Group.{Group}
use Rattle.report_groups.specs.declared.types.Pattern.{Pattern}
use Rattle.report_groups.specs.declared.types.Shown.{Shown}
use Rattle.report_groups.specs.Drafts.{shown}
use Rattle.report_groups.specs.Entries.{IsEntry}
use Rattle.report_groups.specs.Meaning.{fields_of, each_matches_some}
use Rattle.report_groups.specs.Shown.{FlagsStandFor, ShowsGroup}
use Rattle.report_groups.specs.Values.{matches, StandFor}

and_true : (a : Bool) → a ≡ (a && true)
and_true true = refl
and_true false = refl

-- six items that are read one by one are the list
six : (fs : List (List Pattern)) (a b c d e f : List Pattern) → length fs ≡ 6 → a ≡ slice_index_or fs 0 a → b ≡ slice_index_or fs 1 b → c ≡ slice_index_or fs 2 c → d ≡ slice_index_or fs 3 d → e ≡ slice_index_or fs 4 e → f ≡ slice_index_or fs 5 f → fs ≡ a ∷ b ∷ c ∷ d ∷ e ∷ f ∷ []
six (a' ∷ b' ∷ c' ∷ d' ∷ e' ∷ f' ∷ []) a b c d e f h p q r s t u = λ i. sym p i ∷ sym q i ∷ sym r i ∷ sym s i ∷ sym t i ∷ sym u i ∷ []
six [] a b c d e f h p q r s t u = absurd (omega (arith, h))
six (a' ∷ []) a b c d e f h p q r s t u = absurd (omega (arith, h))
six (a' ∷ b' ∷ []) a b c d e f h p q r s t u = absurd (omega (arith, h))
six (a' ∷ b' ∷ c' ∷ []) a b c d e f h p q r s t u = absurd (omega (arith, h))
six (a' ∷ b' ∷ c' ∷ d' ∷ []) a b c d e f h p q r s t u = absurd (omega (arith, h))
six (a' ∷ b' ∷ c' ∷ d' ∷ e' ∷ []) a b c d e f h p q r s t u = absurd (omega (arith, h))
six (a' ∷ b' ∷ c' ∷ d' ∷ e' ∷ f' ∷ g' ∷ fs) a b c d e f h p q r s t u = absurd (omega (arith, h))

pub all_six : (g : Group) (fs : List (List Pattern)) (a b c d e f : List Pattern) → fs ≡ g.fields → length g.fields ≡ 6 → a ≡ slice_index_or fs 0 a → b ≡ slice_index_or fs 1 b → c ≡ slice_index_or fs 2 c → d ≡ slice_index_or fs 3 d → e ≡ slice_index_or fs 4 e → f ≡ slice_index_or fs 5 f → g.fields ≡ a ∷ b ∷ c ∷ d ∷ e ∷ f ∷ []
all_six g fs a b c d e f is long p q r s t u = sym is ∙ six fs a b c d e f (ap length is ∙ long) p q r s t u

pub shows_group : (g : Group) (s : Shown) (a b c d e f : List Pattern) → g.fields ≡ a ∷ b ∷ c ∷ d ∷ e ∷ f ∷ [] → StandFor 32 a s.dst → StandFor 32 b s.src → StandFor 8 c s.proto → StandFor 16 d s.dport → StandFor 16 e s.sport → FlagsStandFor f s.flags → ShowsGroup g s
shows_group g s a b c d e f all dst src proto dport sport flags =
    record {
      same = λ h is.
          (λ i. dst h.dst is.dst i && (src h.src is.src i && (proto h.proto is.proto i && (dport h.dport is.dport i && (sport h.sport is.sport i && (flags h.flags is.flags ∙ and_true (list_any (matches h.flags) f)) i)))))
          ∙ ap (each_matches_some (fields_of h)) (sym all);
    }

-- one more group, shown as it is
pub one_more_group : (es es' : List Entry) (ds : List Draft) (e : Entry) (d : Draft) → es' ≡ es ++ e ∷ [] → map (λ x. x.group) es ≡ map shown ds → e.group ≡ shown d → map (λ x. x.group) es' ≡ map shown (ds ++ d ∷ [])
one_more_group es es' ds e d p q r = ap (map (λ x. x.group)) p ∙ (map-append (λ (x : Entry). x.group) es (e ∷ []) ∙ ((λ i. q i ++ r i ∷ []) ∙ sym (map-append shown ds (d ∷ []))))

pub one_more_entry : (es es' : List Entry) (e : Entry) → es' ≡ es ++ e ∷ [] → All IsEntry es → IsEntry e → All IsEntry es'
one_more_entry es es' e p all is = All-same IsEntry es' (es ++ e ∷ []) p (All-push IsEntry es e all is)
