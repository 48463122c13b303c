-- A text asks no more questions than it has bytes.
use Rattle.std.proofs.Common.{◌≡◌, ℕ, ◌+◌, ◌≤◌, List, [], ◌∷◌, ◌++◌, length, map, refl, sym, ap, arith}
use Rattle.std.specs.Prelude.{Option, Some, None, Result, Ok, Err, option_to_list}
use Rattle.std.proofs.lemmas.List.{length-append, length-map}
use Rattle.net_text.specs.declared.Line.{Line}
use Rattle.net_text.specs.Lines.{piece, lines_of}
use Rattle.net_text.proofs.TextSize.{lines_bytes}
use Rattle.net_types.specs.declared.network.Network.{Network}
use Rattle.net_types.specs.declared.question.Question.{Question}
use Rattle.ask_query.specs.declared.refusal.QuestionFail.{QuestionFail}
use Rattle.ask_query.specs.Refusals.{◌>>=◌}
use Rattle.ask_query.specs.Reading.{Said, said, question_at, questions_in, questions_of}

abbrev Reading : Type 0
Reading = Result (List Said) QuestionFail

ok_is : (o : Reading) (x y : List Said) → o ≡ Ok x → o ≡ Ok y → x ≡ y
ok_is o x y a b = cc

ok_err : (o : Reading) (x : List Said) (e : QuestionFail) → o ≡ Ok x → o ≡ Err e → ⊥
ok_err o x e a b = cc

few_of : (q : Option Said) → length (option_to_list q) ≤ 1
few_of None = omega arith
few_of (Some q) = omega arith

joined : (q : Result (Option Said) QuestionFail) (others : Result (List Said) QuestionFail) (n : ℕ) (qs : List Said)
    → ((rs : List Said) → others ≡ Ok rs → length rs ≤ n)
    → (q >>= λ x. others >>= λ xs. Ok (option_to_list x ++ xs)) ≡ Ok qs → length qs ≤ n + 1
joined (Err e) others n qs few h = absurd (ok_err (Err e) qs e h refl)
joined (Ok x) (Err e) n qs few h = absurd (ok_err (Err e) qs e h refl)
joined (Ok x) (Ok xs) n qs few h =
    let one = few_of x in
    let rest = few xs refl in
    let all = length-append (option_to_list x) xs in
    let same : length qs ≡ length (option_to_list x ++ xs) = ap length (sym (ok_is (Ok (option_to_list x ++ xs)) (option_to_list x ++ xs) qs refl h)) in
    omega (arith, one, rest, all, same)

lines_ask : (net : Network) (bytes : List ℕ) (lines : List Line) (qs : List Said) → questions_in net bytes lines ≡ Ok qs → length qs ≤ length lines
unfolding questions_in
lines_ask net bytes [] qs h = let none : length qs ≡ 0 = ap length (sym (ok_is (Ok []) [] qs refl h)) in omega (arith, none)
lines_ask net bytes (l ∷ ls) qs h =
    let few = joined (question_at net l.number (map (piece bytes) l.words)) (questions_in net bytes ls) (length ls) qs (lines_ask net bytes ls) h in
    omega (arith, few)

pub few_questions : (net : Network) (bytes : List ℕ) (qs : List Question) → questions_of net bytes ≡ Ok (map said qs) → length qs ≤ length bytes
few_questions net bytes qs h =
    let asked = lines_ask net bytes (lines_of bytes) (map said qs) h in
    let lines = lines_bytes bytes in
    let count = length-map qs said in
    omega (arith, asked, lines, count)
