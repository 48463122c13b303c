-- A question that a step doesn't touch goes on to hold; and the answers of the others, put among those.
use Rattle.std.proofs.Common.{arith, ℕ, ◌≡◌, ◌<◌, ◌+◌, Bool, true, false, Option, List, [], ◌∷◌, ◌++◌, drop, get_or, length, refl, sym, subst, take, ap, ◌∙◌}
use Rattle.std.specs.List.{AllZip}
use Rattle.std.proofs.lemmas.List.{append_assoc, drop_more, take_more}
use Rattle.std.proofs.lemmas.List.Elements.{All-head, All-tail}
use Rattle.indexmap.proofs.SetLemmas.{AllZip-push}
use Rattle.hdr_bits.specs.declared.header.Header.{Header}
use Rattle.net_types.specs.declared.network.Place.{Place}
use Rattle.net_types.specs.declared.question.Answer.{Answer}
use Rattle.net_types.specs.declared.question.Answer.TheVariants as answer
use Rattle.net_types.specs.declared.question.Question.{Question}
use Rattle.net_types.specs.declared.question.QuestionKind.{QuestionKind}
use Rattle.net_types.specs.declared.question.QuestionKind.TheVariants as kind
use Rattle.net_types.specs.Questions.{BreaksKind, HasOutcomeAt, IsAnswer, ReachesNamed}
use Rattle.net_types.specs.SameWalks.{SameWalksUnder}
use Rattle.net_types.specs.Walks.{label}
use Rattle.net_types.specs.World.{World}
use Rattle.net_types.proofs.QuestionLaws.{reaches_by_label}
use Rattle.net_types.proofs.SameWalks.{labels_alike, loops_alike}
use Rattle.rollout.specs.Steps.{AllHold}
use Rattle.rollout.specs.Touched.{AreTouched, IsTouchedSo, Stands, asked_again, with_others}

-- ---- one question
-- with the same label a header reaches the same places
reaches_alike : (old new : World) (t : ℕ) (p : Place) (to : Option Place) (h : Header) → label old t p h ≡ label new t p h → ReachesNamed old t p to h → ReachesNamed new t p to h
reaches_alike old new t p to h same r =
    record {
      place = r.place;
      named = r.named;
      reaches = (reaches_by_label new t p r.place h).1 (subst (HasOutcomeAt r.place) same ((reaches_by_label old t p r.place h).0 r.reaches));
    }

breaks_alike : (old new : World) (t : ℕ) (k : QuestionKind) (p : Place) (to : Option Place) (h : Header) → SameWalksUnder old new t p h → BreaksKind new t k p to h → BreaksKind old t k p to h
breaks_alike old new t kind.Reach p to h same breaks = λ r. breaks (reaches_alike old new t p to h (labels_alike old new t p h same t (omega arith)) r)
breaks_alike old new t kind.Isolate p to h same breaks = reaches_alike new old t p to h (sym (labels_alike old new t p h same t (omega arith))) breaks
breaks_alike old new t kind.NoLoop p to h same breaks = (loops_alike old new t p h same t (omega arith)).1 breaks

pub holds_on : (old new : World) (t : ℕ) (q : Question) → Stands old new q → IsAnswer old t q answer.Holds → IsAnswer new t q answer.Holds
holds_on old new t q stands holds h b =
    holds h (record { fits = b.fits; filtered = b.filtered; breaks = breaks_alike old new t q.kind q.from q.to h (stands h b.fits b.filtered t) b.breaks })

-- ---- all of them
abbrev Meets : World → ℕ → Question → Type 0
Meets w t q = IsAnswer w t q answer.Holds

pub answered : (old new : World) (t : ℕ) (questions : List Question) (touched : List Bool) (answers : List Answer) → AreTouched old new questions touched → AllHold t questions old → AllZip (IsAnswer new t) (asked_again questions touched) answers → AllZip (IsAnswer new t) questions (with_others touched answers)
answered old new t [] [] answers so hold are = tt
answered old new t [] (b ∷ touched) answers so hold are = absurd so
answered old new t (q ∷ questions) [] answers so hold are = absurd so
answered old new t (q ∷ questions) (true ∷ touched) [] so hold are = absurd are
answered old new t (q ∷ questions) (true ∷ touched) (a ∷ answers) so hold are =
    (are.0, answered old new t questions touched answers so.1 (All-tail (Meets old t) q questions hold) are.1)
answered old new t (q ∷ questions) (false ∷ touched) answers so hold are =
    (holds_on old new t q (so.0 refl) (All-head (Meets old t) q questions hold), answered old new t questions touched answers so.1 (All-tail (Meets old t) q questions hold) are)

-- through the slices by which the lists are handed on
pub all_answered : (old new : World) (t : ℕ) (questions : List Question) (touched first second : List Bool) (asked handed : List Question) (told answers : List Answer)
    → AreTouched old new questions touched → AllHold t questions old
    → first ≡ touched → asked ≡ asked_again questions first → handed ≡ asked → AllZip (IsAnswer new t) handed told
    → second ≡ touched → answers ≡ with_others second told
    → AllZip (IsAnswer new t) questions answers
all_answered old new t questions touched first second asked handed told answers so hold a b c are d e =
    let known = subst (λ qs. AllZip (IsAnswer new t) qs told) (c ∙ b ∙ ap (asked_again questions) a) are in
    subst (AllZip (IsAnswer new t) questions) (sym (e ∙ ap (λ ts. with_others ts told) d)) (answered old new t questions touched told so hold known)

-- ---- a step of each loop
pub asked_more : (questions : List Question) (touched : List Bool) (i : ℕ) (q : Question) (b : Bool) → length touched ≡ length questions → i < length questions → asked_again (drop i questions) (drop i touched) ≡ asked_again (get_or questions i q ∷ drop (i + 1) questions) (get_or touched i b ∷ drop (i + 1) touched)
asked_more questions touched i q b long within =
    λ j. asked_again (drop_more questions i q within j) (drop_more touched i b (subst (λ n. i < n) (sym long) within) j)

pub touched_more : (old new : World) (questions : List Question) (touched : List Bool) (i : ℕ) (q : Question) (b : Bool) → i < length questions → AreTouched old new (take i questions) touched → IsTouchedSo old new (get_or questions i q) b → AreTouched old new (take (i + 1) questions) (touched ++ b ∷ [])
touched_more old new questions touched i q b within so one =
    subst (λ qs. AreTouched old new qs (touched ++ b ∷ [])) (sym (take_more questions i q within))
    (AllZip-push (IsTouchedSo old new) (take i questions) touched (get_or questions i q) b so one)

pub taken : (before : List Question) (questions : List Question) (touched : List Bool) (i : ℕ) (q r : Question) (b : Bool) → length touched ≡ length questions → i < length questions → get_or touched i b ≡ true → r ≡ get_or questions i q → before ++ asked_again (drop i questions) (drop i touched) ≡ asked_again questions touched → (before ++ r ∷ []) ++ asked_again (drop (i + 1) questions) (drop (i + 1) touched) ≡ asked_again questions touched
taken before questions touched i q r b long within is at known =
    let rest = asked_again (drop (i + 1) questions) (drop (i + 1) touched) in
    let more = asked_more questions touched i q b long within ∙ ap (λ x. asked_again (get_or questions i q ∷ drop (i + 1) questions) (x ∷ drop (i + 1) touched)) is in
    append_assoc before (r ∷ []) rest ∙ ap (λ x. before ++ x ∷ rest) at ∙ ap (λ qs. before ++ qs) (sym more) ∙ known

pub passed_over : (before : List Question) (questions : List Question) (touched : List Bool) (i : ℕ) (q : Question) (b : Bool) → length touched ≡ length questions → i < length questions → get_or touched i b ≡ false → before ++ asked_again (drop i questions) (drop i touched) ≡ asked_again questions touched → before ++ asked_again (drop (i + 1) questions) (drop (i + 1) touched) ≡ asked_again questions touched
passed_over before questions touched i q b long within is known =
    let more = asked_more questions touched i q b long within ∙ ap (λ x. asked_again (get_or questions i q ∷ drop (i + 1) questions) (x ∷ drop (i + 1) touched)) is in
    ap (λ qs. before ++ qs) (sym more) ∙ known

-- a list that is so long has an item
pub some_of : {X : Type 0} (xs : List X) (i : ℕ) → i < length xs → X
some_of [] i within = absurd (omega (arith, within))
some_of (x ∷ xs) i within = x
