-- From the labels of the headers of a domain to the pair of labels of every header.
use Rattle.std.proofs.Common.{ℕ, ◌≡◌, ◌≤◌, ◌<◌, ◌^◌, ◌∙◌, List, [], Option, Some, None, inl, inr, refl, sym, ap, subst}
use Rattle.hdr_bits.specs.HeaderBits.{number, header_of}
use Rattle.hdr_bits.proofs.Numbers.{number-below, number-header_of, header_of-is_header}
use Rattle.cube_diagram.specs.Functions.{Functions, GivesNothing, Keeps, count_of, value_at}
use Rattle.net_types.specs.declared.label.Outcome.{Outcome}
use Rattle.net_types.specs.declared.network.Place.{Place}
use Rattle.net_types.specs.World.{World}
use Rattle.net_types.specs.Walks.{label}
use Rattle.net_types.specs.Order.{in_order, outcome_cmp}
use Rattle.net_types.specs.Report.{affected}
use Rattle.net_types.proofs.LabelLaws.{none_if_same}
use Rattle.net_types.proofs.EndLaws.{label_is_label}
use Rattle.set_walk.specs.declared.numbers.LabelNumbers.{LabelNumbers}
use Rattle.set_walk.specs.Numbers.{AreLabelNumbers, outcomes_at}
use Rattle.set_walk.specs.Sets.{InSet}
use Rattle.set_walk.proofs.SetLemmas.{kept_set, kept_below, in_or_not, no_header}
use Rattle.net_compare.specs.Rows.{AreAlikeOutside, HasOutcomes, HaveOutcomes, label_at, labels_at, pair_if_other}

-- the header with a number has this value, and so does the number
at_number : (f : Functions) (i h : ℕ) (v : Option ℕ) → h < 2 ^ 112 → value_at f i (number (header_of h)) ≡ v → value_at f i h ≡ v
at_number f i h v l e = subst (λ n. value_at f i n ≡ v) (number-header_of h l) e

module _ (w : World) (p : Place) (t : ℕ) (start : Functions) (domain : ℕ) where
  -- numbers stay in a table that grows
  numbers_kept : (f g : Functions) (n : LabelNumbers) → Keeps f g → AreLabelNumbers w start domain p t f n → AreLabelNumbers w start domain p t g n
  numbers_kept f g n k a =
      record {
        below = kept_below f g n.function k a.below;
        inside = λ h v i. (let has = a.inside h v i in record { index = has.index; given = k.value n.function a.below (number h) ∙ has.given; is = has.is });
        outside = λ h v i. k.value n.function a.below (number h) ∙ a.outside h v i;
      }

  -- the same domain in a table that has grown
  from_start : (later : Functions) (f : Functions) (n : LabelNumbers) → Keeps start later → domain < count_of start → AreLabelNumbers w later domain p t f n → AreLabelNumbers w start domain p t f n
  from_start later f n k l a =
      record {
        below = a.below;
        inside = λ h v i. a.inside h v ((kept_set start later domain h k l).1 i);
        outside = λ h v i. a.outside h v (λ j. i ((kept_set start later domain h k l).0 j));
      }

  -- a header of the domain has its label at its number
  label_inside : (f : Functions) (n : LabelNumbers) → AreLabelNumbers w start domain p t f n → (h : ℕ) → h < 2 ^ 112 → InSet start domain (header_of h) → label_at n.labels.items (value_at f n.function h) ≡ Some (label w t p (header_of h))
  label_inside f n a h l i =
      let has = a.inside (header_of h) (header_of-is_header h) i in
      ap (label_at n.labels.items) (at_number f n.function h (Some has.index) l has.given) ∙ ap Some (sym has.is)

  -- no other header has a number
  none_outside : (f : Functions) (n : LabelNumbers) → AreLabelNumbers w start domain p t f n → (h : ℕ) → h < 2 ^ 112 → (InSet start domain (header_of h) → ⊥) → value_at f n.function h ≡ None
  none_outside f n a h l i = at_number f n.function h None l (a.outside (header_of h) (header_of-is_header h) i)

  nothing_in_order : (os : List Outcome) → os ≡ [] → in_order outcome_cmp os ≡ []
  nothing_in_order os e = ap (in_order outcome_cmp) e

  have_outcomes : (f : Functions) (n : LabelNumbers) → 1 ≤ t → AreLabelNumbers w start domain p t f n → HaveOutcomes f n
  have_outcomes f n one a h l = elim (in_or_not start domain (header_of h)) [
    | inl i ↦ let has = a.inside (header_of h) (header_of-is_header h) i in subst (λ (o : Option ℕ). HasOutcomes n.labels.items o) (sym (at_number f n.function h (Some has.index) l has.given)) (λ e. (label_is_label w t p (header_of h) one).some (has.is ∙ nothing_in_order (outcomes_at n.labels.items has.index) e))
    | inr i ↦ subst (λ (o : Option ℕ). HasOutcomes n.labels.items o) (sym (none_outside f n a h l i)) refl
  ]

-- the pair of labels at a header's numbers is that of the report
pub labels_are_affected : (v w : World) (p : Place) (t : ℕ) (start f : Functions) (domain : ℕ) (old new : LabelNumbers) → AreAlikeOutside v w t p start domain → AreLabelNumbers v start domain p t f old → AreLabelNumbers w start domain p t f new → (h : ℕ) → h < 2 ^ 112 → labels_at f old new h ≡ affected v w t p h
labels_are_affected v w p t start f domain old new alike a b h l = elim (in_or_not start domain (header_of h)) [
  | inl i ↦ ap (λ (x : Option (List Outcome)). pair_if_other x (label_at new.labels.items (value_at f new.function h))) (label_inside v p t start domain f old a h l i) ∙ ap (pair_if_other (Some (label v t p (header_of h)))) (label_inside w p t start domain f new b h l i)
  | inr i ↦ ap (λ (x : Option ℕ). pair_if_other (label_at old.labels.items x) (label_at new.labels.items (value_at f new.function h))) (none_outside v p t start domain f old a h l i) ∙ sym (none_if_same (label v t p (header_of h)) (label w t p (header_of h)) (alike (header_of h) (header_of-is_header h) i))
]

pub old_numbers : (v : World) (p : Place) (t : ℕ) (start mid : Functions) (domain : ℕ) (later : Functions) (old : LabelNumbers) → Keeps mid later → AreLabelNumbers v start domain p t mid old → AreLabelNumbers v start domain p t later old
old_numbers v p t start mid domain later old k a = numbers_kept v p t start domain mid later old k a

pub new_numbers : (w : World) (p : Place) (t : ℕ) (start mid : Functions) (domain : ℕ) (later : Functions) (new : LabelNumbers) → Keeps start mid → domain < count_of start → AreLabelNumbers w mid domain p t later new → AreLabelNumbers w start domain p t later new
new_numbers w p t start mid domain later new k l b = from_start w p t start domain mid later new k l b

pub some_outcomes : (w : World) (p : Place) (t : ℕ) (start : Functions) (domain : ℕ) (f : Functions) (n : LabelNumbers) → 1 ≤ t → AreLabelNumbers w start domain p t f n → HaveOutcomes f n
some_outcomes w p t start domain f n one a = have_outcomes w p t start domain f n one a

-- ---- where the domain has no header

pub none_affected : (v w : World) (p : Place) (t : ℕ) (start : Functions) (domain : ℕ) → AreAlikeOutside v w t p start domain → GivesNothing (value_at start domain) → (h : ℕ) → h < 2 ^ 112 → affected v w t p h ≡ None
none_affected v w p t start domain alike none h l = none_if_same (label v t p (header_of h)) (label w t p (header_of h)) (alike (header_of h) (header_of-is_header h) (no_header start domain (header_of h) none (number-below (header_of h) (header_of-is_header h))))
