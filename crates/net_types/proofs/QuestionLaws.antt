-- What follows from the definition of questions.
use Rattle.std.proofs.Common.{ℕ, zero, suc, ◌≡◌, ◌≤◌, ◌+◌, ◌*◌, ◌-◌, ◌↔◌, refl, sym, ap, subst, ◌∙◌, arith}
use Rattle.hdr_bits.specs.declared.header.Header.{Header}
use Rattle.hdr_bits.specs.HeaderBits.{number, header_of, IsHeader}
use Rattle.hdr_bits.proofs.Numbers.{header_of-number}
use Rattle.net_types.specs.declared.network.Place.{Place}
use Rattle.net_types.specs.declared.network.State.{State}
use Rattle.net_types.specs.World.{World}
use Rattle.net_types.specs.Walks.{IsWalk, End, dropped, expired, local, exit, state_at, label, outcome_of}
use Rattle.net_types.proofs.EndLaws.{end_from_label, label_from_end}
use Rattle.net_types.specs.declared.question.Answer.{Answer}
use Rattle.net_types.specs.declared.question.Answer.TheVariants as answer
use Rattle.net_types.specs.declared.question.Question.{Question}
use Rattle.net_types.specs.Questions.{IsAnswer, IsEndAt, Reaches, Loops}
use Rattle.net_types.specs.Questions.{IsAt, HasOutcomeAt}

-- ---- one answer
same_header : (g h : Header) → IsHeader g → IsHeader h → number g ≡ number h → g ≡ h
same_header g h i j e = sym (header_of-number g i) ∙ ap header_of e ∙ header_of-number h j

pub one_answer : (w : World) (t : ℕ) (q : Question) (a b : Answer) → IsAnswer w t q a → IsAnswer w t q b → a ≡ b
one_answer w t q answer.Holds answer.Holds i j = refl
one_answer w t q answer.Holds (answer.Fails h) i j = absurd (i h j.is)
one_answer w t q (answer.Fails g) answer.Holds i j = absurd (j g i.is)
one_answer w t q (answer.Fails g) (answer.Fails h) i j =
    let a = i.least h j.is in
    let b = j.least g i.is in
    ap answer.Fails (same_header g h i.is.fits j.is.fits (omega (arith, a, b)))

-- ---- reaching, by the label
at_end : (q : Place) (h : Header) (e : End) → IsEndAt q e → IsAt q (outcome_of h e)
at_end q h dropped i = i
at_end q h expired i = i
at_end q h (local p) i = i
at_end q h (exit p g) i = i

end_at : (q : Place) (h : Header) (e : End) → IsAt q (outcome_of h e) → IsEndAt q e
end_at q h dropped i = i
end_at q h expired i = i
end_at q h (local p) i = i
end_at q h (exit p g) i = i

pub reaches_by_label : (w : World) (t : ℕ) (p q : Place) (h : Header) → Reaches w t p q h ↔ HasOutcomeAt q (label w t p h)
reaches_by_label w t p q h = (
  λ r. record { outcome = outcome_of h r.end; among = label_from_end w t p h (outcome_of h r.end) (record { end = r.end; is = r.is; outcome = refl }); there = at_end q h r.end r.there },
  λ o. let e = end_from_label w t p h o.outcome o.among in record { end = e.end; is = e.is; there = end_at q h e.end (subst (IsAt q) (sym e.outcome) o.there) },
)

-- ---- walks that are joined and cut
abbrev WalkOf : World → ℕ → State → Type 0
WalkOf w n s = (u : State) × IsWalk w n s u

pub joined : (w : World) (n m : ℕ) (s u v : State) → IsWalk w n s u → IsWalk w m u v → IsWalk w (m + n) s v
joined w n zero s u v a e = let k : n ≡ 0 + n = omega arith in subst (λ i. IsWalk w i s v) k (subst (IsWalk w n s) e a)
joined w n (suc m) s u v a b =
    let k : suc (m + n) ≡ suc m + n = omega arith in
    let c : IsWalk w (suc (m + n)) s v = (b.0, joined w n m s u b.0 a b.1, b.2) in
    subst (λ i. IsWalk w i s v) k c

-- all but the last moves
shorter : (w : World) (n : ℕ) (s : State) → WalkOf w (suc n) s → WalkOf w n s
shorter w n s a = (a.1.0, a.1.1)

pub cut : (w : World) (n m : ℕ) (s : State) → WalkOf w (m + n) s → WalkOf w n s
cut w n zero s a = let k : 0 + n ≡ n = omega arith in subst (λ i. WalkOf w i s) k a
cut w n (suc m) s a = let k : suc m + n ≡ suc (m + n) = omega arith in cut w n m s (shorter w (m + n) s (subst (λ i. WalkOf w i s) k a))

-- round and round
rounds : (w : World) (m k : ℕ) (s : State) → IsWalk w m s s → IsWalk w (k * m) s s
rounds w m zero s a = let e : 0 ≡ 0 * m = omega arith in let none : IsWalk w 0 s s = refl in subst (λ i. IsWalk w i s s) e none
rounds w m (suc k) s a = let e : m + k * m ≡ suc k * m = omega arith in subst (λ n. IsWalk w n s s) e (joined w (k * m) m s s s (rounds w m k s a) a)

far : (n m : ℕ) → 1 ≤ m → n ≤ n * m
far zero m l = omega arith
far (suc n) m l = let i = far n m l in let e : suc n * m ≡ m + n * m = omega arith in omega (arith, i, l, e)

pub walks_on : (w : World) (t : ℕ) (p : Place) (h : Header) → Loops w t p h → (n : ℕ) → WalkOf w n (state_at p h)
walks_on w t p h l n =
    let round = rounds w l.around n l.state l.again in
    let all = joined w l.before (n * l.around) (state_at p h) l.state l.state l.comes round in
    let long = far n l.around l.moves in
    let e : n * l.around + l.before ≡ (n * l.around + l.before - n) + n = omega (arith, long) in
    cut w n (n * l.around + l.before - n) (state_at p h) (l.state, subst (λ k. IsWalk w k (state_at p h) l.state) e all)

pub loops_longer : (w : World) (t s : ℕ) (p : Place) (h : Header) → t ≤ s → Loops w t p h → Loops w s p h
loops_longer w t s p h m l = let i = l.within in record { before = l.before; around = l.around; moves = l.moves; within = omega (arith, i, m); state = l.state; comes = l.comes; again = l.again }
