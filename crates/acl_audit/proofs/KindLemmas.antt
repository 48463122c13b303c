-- When an entry could go.
use Rattle.std.proofs.Common.{ℕ, ◌≡◌, ◌<◌, ◌↔◌, Bool, true, false, not, ◌&&◌, List, take, drop, length, get_or, slice_get, Some, refl, ap, ◌∙◌, subst}
use Rattle.std.specs.List.{remove}
use Rattle.std.proofs.lemmas.Option.{get_or_from_slice_get}
use Rattle.hdr_bits.specs.declared.header.Header.{Header}
use Rattle.hdr_bits.specs.HeaderBits.{number, header_of, IsHeader}
use Rattle.hdr_bits.proofs.Numbers.{header_of-number, number-below, header_of-is_header}
use Rattle.cube_diagram.specs.Functions.{Functions, GivesNothing, value_at}
use Rattle.net_types.specs.declared.config.Entry.{Entry}
use Rattle.net_types.specs.AccessLists.{entries_verdict, passes}
use Rattle.acl_audit.specs.Sets.{IsSet, any_matches, passes_to}
use Rattle.acl_audit.proofs.SetLemmas.{unlike, nothing_in, in_nothing}
use Rattle.acl_audit.proofs.ListLemmas.{rest_passes, same_from_tails, tails_from_same}

unlike_same : (x y a : Bool) → (unlike x y && not a) ≡ false → a ≡ false → x ≡ y
unlike_same true true a e f = refl
unlike_same true false true e f = absurd (cc)
unlike_same true false false e f = absurd (cc)
unlike_same false true true e f = absurd (cc)
unlike_same false true false e f = absurd (cc)
unlike_same false false a e f = refl

same_unlike : (x y a : Bool) → (a ≡ false → x ≡ y) → (unlike x y && not a) ≡ false
same_unlike true true a f = refl
same_unlike true false true f = refl
same_unlike true false false f = absurd (let e = f refl in cc)
same_unlike false true true f = refl
same_unlike false true false f = absurd (let e = f refl in cc)
same_unlike false false a f = refl

-- the headers of which the list without the entry says something else
abbrev pub changes : List Entry → ℕ → ℕ → Bool
changes es i h = unlike (passes_to false (drop i es) h) (rest_passes es i h) && not (any_matches (take i es) h)

pub changes_none : (f : Functions) (es : List Entry) (i r : ℕ) → i < length es → IsSet f (changes es i) r → GivesNothing (value_at f r) ↔ ((h : Header) → IsHeader h → passes (entries_verdict (remove es i) h) ≡ passes (entries_verdict es h))
changes_none f es i r l s = (
  λ n h v. subst (λ x. passes (entries_verdict (remove es i) x) ≡ passes (entries_verdict es x)) (header_of-number h v) (same_from_tails es i (number h) l (unlike_same (passes_to false (drop i es) (number h)) (rest_passes es i (number h)) (any_matches (take i es) (number h)) (nothing_in f (changes es i) r s n (number h) (number-below h v)))),
  λ n. in_nothing f (changes es i) r s (λ h b. same_unlike (passes_to false (drop i es) h) (rest_passes es i h) (any_matches (take i es) h) (tails_from_same es i h l (n (header_of h) (header_of-is_header h)))),
)

-- ---- the entry at a position
pub entry_at : (es : List Entry) (i : ℕ) (x e : Entry) → slice_get es i ≡ Some e → x ≡ get_or es i x → x ≡ e
entry_at es i x e q r = r ∙ get_or_from_slice_get es i e x q

pub both_ways : (b : Bool) → b ≡ false → b ≡ true → ⊥
both_ways true e f = cc
both_ways false e f = cc

pub sequence_at : (es : List Entry) (i : ℕ) (x e : Entry) → slice_get es i ≡ Some e → (get_or es i x).sequence ≡ e.sequence
sequence_at es i x e q = ap (λ y. y.sequence) (get_or_from_slice_get es i e x q)
