-- Questions that are paired with their answers, from the last to the first.
use Rattle.std.proofs.Common.{◌≡◌, ℕ, ◌+◌, List, [], ◌∷◌, ◌++◌, length, length-append, refl, sym, ap, ◌∙◌, append_assoc, append-nil, reverse, arith}
use Rattle.std.specs.Prelude.{Option}
use Rattle.std.proofs.lemmas.List.{reverse-append}
use Rattle.net_types.specs.declared.question.Answer.{Answer}
use Rattle.answer_view.specs.declared.asked.Asked.{Asked}
use Rattle.answer_view.specs.declared.answered.Answered.{Answered}
use Rattle.answer_view.specs.Answered.{answered_from}

-- what is paired so far, and what the rest will be, are all
abbrev pub ArePaired : List Answered → List Asked → List (Option Answer) → List Answer → List Answered → Type 0
ArePaired done asked before after all = done ++ answered_from (length done + 1) (reverse asked) (reverse before) (reverse after) ≡ all

-- one more
pub pair_more : (done grown all : List Answered) (asked asks : List Asked) (before befores : List (Option Answer)) (after nows : List Answer) (q : Asked) (b : Option Answer) (a : Answer) (k : ℕ)
    → asked ≡ asks ++ q ∷ [] → before ≡ befores ++ b ∷ [] → after ≡ nows ++ a ∷ [] → k ≡ length done + 1
    → grown ≡ done ++ record { number = k; question = q; before = b; after = a } ∷ []
    → ArePaired done asked before after all → ArePaired grown asks befores nows all
pair_more done grown all asked asks before befores after nows q b a k p r s n g h =
    let x : Answered = record { number = k; question = q; before = b; after = a } in
    let rest = answered_from (length done + 1 + 1) (reverse asks) (reverse befores) (reverse nows) in
    let size : length grown + 1 ≡ length done + 1 + 1 = omega (arith, ap (length {A = _}) g, length-append done (x ∷ [])) in
    (λ i. g i ++ answered_from (size i) (reverse asks) (reverse befores) (reverse nows))
    ∙ append_assoc done (x ∷ []) rest
    ∙ ap (λ m. done ++ (record { number = m; question = q; before = b; after = a } ∷ rest)) n
    ∙ sym ((λ i. done ++ answered_from (length done + 1) ((ap reverse p ∙ reverse-append asks (q ∷ [])) i) ((ap reverse r ∙ reverse-append befores (b ∷ [])) i) ((ap reverse s ∙ reverse-append nows (a ∷ [])) i)))
    ∙ h

-- ---- where one of the lists has no more, all are paired

none_asked : (k : ℕ) (before : List (Option Answer)) (after : List Answer) → answered_from k [] before after ≡ []
none_asked k before after = refl

none_before : (k : ℕ) (asked : List Asked) (after : List Answer) → answered_from k asked [] after ≡ []
none_before k [] after = refl
none_before k (q ∷ asked) after = refl

none_now : (k : ℕ) (asked : List Asked) (before : List (Option Answer)) → answered_from k asked before [] ≡ []
none_now k [] before = refl
none_now k (q ∷ asked) [] = refl
none_now k (q ∷ asked) (b ∷ before) = refl

pub paired_asked : (done all : List Answered) (asked : List Asked) (before : List (Option Answer)) (after : List Answer) → asked ≡ [] → ArePaired done asked before after all → done ≡ all
paired_asked done all asked before after e h =
    sym (append-nil done) ∙ sym (ap (λ l. done ++ answered_from (length done + 1) (reverse l) (reverse before) (reverse after)) e) ∙ h

pub paired_before : (done all : List Answered) (asked : List Asked) (before : List (Option Answer)) (after : List Answer) → before ≡ [] → ArePaired done asked before after all → done ≡ all
paired_before done all asked before after e h =
    sym (append-nil done) ∙ ap (λ l. done ++ l) (sym (none_before (length done + 1) (reverse asked) (reverse after)))
    ∙ sym (ap (λ l. done ++ answered_from (length done + 1) (reverse asked) (reverse l) (reverse after)) e) ∙ h

pub paired_now : (done all : List Answered) (asked : List Asked) (before : List (Option Answer)) (after : List Answer) → after ≡ [] → ArePaired done asked before after all → done ≡ all
paired_now done all asked before after e h =
    sym (append-nil done) ∙ ap (λ l. done ++ l) (sym (none_now (length done + 1) (reverse asked) (reverse before)))
    ∙ sym (ap (λ l. done ++ answered_from (length done + 1) (reverse asked) (reverse before) (reverse l)) e) ∙ h
