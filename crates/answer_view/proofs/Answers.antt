-- Answers are read as they are written, so that a text is that of one list of answers at most.
use Rattle.std.proofs.Common.{◌≡◌, ℕ, suc, ◌+◌, ◌^◌, ◌<◌, ◌≤◌, Bool, true, false, cond, ◌==◌, List, [], ◌∷◌, ◌++◌, length, length-append, flat_map, filter, refl, sym, ap, ◌∙◌, append_assoc, append-nil, arith, tests}
use Rattle.std.specs.Prelude.{Option, Some, None, option_map, option_to_list, decimal, codes}
use Rattle.std.specs.List.{AllByRecursion, list_any, slice_split}
use Rattle.std.specs.Char.{is_ascii_digit}
use Rattle.std.specs.Str.{bytes_eq, all_ascii_digits}
use Rattle.std.proofs.lemmas.Fmt.{decimal_nonempty}
use Rattle.hdr_bits.specs.declared.header.Header.{Header}
use Rattle.hdr_bits.specs.HeaderBits.{IsHeader}
use Rattle.net_text.specs.Lines.{is_line_end}
use Rattle.net_types.specs.declared.question.Answer.{Answer}
use Rattle.net_types.specs.declared.question.Answer.TheVariants.{Holds, Fails}
use Rattle.ios_words.specs.Words.{address_of, number_of}
use Rattle.report_text.specs.FieldText.{address_text, fields_text, header_text, address_field_text, number_field_text}
use Rattle.report_text.specs.Reading.{next_word, skip_word}
use Rattle.report_text.proofs.Options.{step}
use Rattle.report_text.proofs.Cuts.{has, either, Tail, cut_whole, next_back, skip_back, after}
use Rattle.report_text.proofs.Numerals.{all_digits, number_back, number_plain, address_back, address_plain, has_both}
use Rattle.report_text.proofs.FieldLaws.{both}
use Rattle.view_core.specs.Names.{text_lines}
use Rattle.answer_view.specs.AnswerText.{HasPacket, AreAnswers}
use Rattle.result_text.specs.AnswerText.{answer_text, answers_from, fails, failed_count, failed_text, answers_text}
use Rattle.answer_view.specs.Said.{value_at, header_at, said_by, said_of, said_at, said_in}

-- ---- headers

twelve : (a b c d e f g h i j k l : List ℕ) → a ++ b ++ c ++ d ++ e ++ f ++ g ++ h ++ i ++ j ++ k ++ l ≡ a ++ (b ++ (c ++ (d ++ (e ++ (f ++ (g ++ (h ++ (i ++ (j ++ (k ++ l))))))))))
twelve a b c d e f g h i j k l = simp append_assoc

-- the six fields, each behind its name
header_parts : (h : Header) → header_text h ≡ codes "dst " ++ (address_text h.dst ++ (codes " src " ++ (address_text h.src ++ (codes " proto " ++ (decimal h.proto ++ (codes " dport " ++ (decimal h.dport ++ (codes " sport " ++ (decimal h.sport ++ (codes " flags " ++ decimal h.flags))))))))))
unfolding header_text fields_text address_field_text number_field_text
header_parts h = twelve (codes "dst ") (address_text h.dst) (codes " src ") (address_text h.src) (codes " proto ") (decimal h.proto) (codes " dport ") (decimal h.dport) (codes " sport ") (decimal h.sport) (codes " flags ") (decimal h.flags)

-- a value is read behind its name
value_back : (value : List ℕ → Option ℕ) (n : ℕ) (w t text : List ℕ) → has 32 w ≡ false → Tail 32 t → skip_word text ≡ w ++ t → value w ≡ Some n → value_at value text ≡ Some (n, after t)
unfolding value_at
value_back value n w t text plain tail s v = rw (s, next_back w t plain tail, skip_back w t plain tail, v) refl

address_value : (a : ℕ) (t text : List ℕ) → a < 2 ^ 32 → Tail 32 t → skip_word text ≡ address_text a ++ t → value_at address_of text ≡ Some (a, after t)
address_value a t text l tail s = value_back address_of a (address_text a) t text (address_plain 32 a refl refl l) tail s (address_back a l)

number_value : (most n : ℕ) (t text : List ℕ) → n ≤ most → most < 2 ^ 64 → Tail 32 t → skip_word text ≡ decimal n ++ t → value_at (number_of 0 most) text ≡ Some (n, after t)
number_value most n t text l m tail s =
    let small : n < 2 ^ 64 = omega (arith, l, m) in
    value_back (number_of 0 most) n (decimal n) t text (number_plain 32 n refl small) tail s (number_back 0 most n small (omega arith) l)

header_back : (h : Header) → IsHeader h → header_at (header_text h) ≡ Some h
unfolding header_at
header_back h p =
    let t5 = codes " flags " ++ decimal h.flags in
    let t4 = codes " sport " ++ (decimal h.sport ++ t5) in
    let t3 = codes " dport " ++ (decimal h.dport ++ t4) in
    let t2 = codes " proto " ++ (decimal h.proto ++ t3) in
    let t1 = codes " src " ++ (address_text h.src ++ t2) in
    let proto = p.proto in
    let dport = p.dport in
    let sport = p.sport in
    let flags = p.flags in
    ap header_at (header_parts h)
    ∙ step _ _ _ _ (address_value h.dst t1 (codes "dst " ++ (address_text h.dst ++ t1)) p.dst refl refl)
    (step _ _ _ _ (address_value h.src t2 (after t1) p.src refl refl)
    (step _ _ _ _ (number_value 255 h.proto t3 (after t2) (omega (arith, proto)) (omega arith) refl refl)
    (step _ _ _ _ (number_value 65535 h.dport t4 (after t3) (omega (arith, dport)) (omega arith) refl refl)
    (step _ _ _ _ (number_value 65535 h.sport t5 (after t4) (omega (arith, sport)) (omega arith) refl refl)
    (step _ _ _ _ (number_value 255 h.flags [] (after t5) (omega (arith, flags)) (omega arith) tt (sym (append-nil (decimal h.flags)))) refl)))))

header_plain : (h : Header) → IsHeader h → has 10 (header_text h) ≡ false
header_plain h p =
    let t5 = codes " flags " ++ decimal h.flags in
    let t4 = codes " sport " ++ (decimal h.sport ++ t5) in
    let t3 = codes " dport " ++ (decimal h.dport ++ t4) in
    let t2 = codes " proto " ++ (decimal h.proto ++ t3) in
    let t1 = codes " src " ++ (address_text h.src ++ t2) in
    let proto = p.proto in
    let dport = p.dport in
    let sport = p.sport in
    let flags = p.flags in
    let p2 = number_plain 10 h.proto refl (omega (arith, proto)) in
    let p3 = number_plain 10 h.dport refl (omega (arith, dport)) in
    let p4 = number_plain 10 h.sport refl (omega (arith, sport)) in
    let p5 = number_plain 10 h.flags refl (omega (arith, flags)) in
    ap (has 10) (header_parts h)
    ∙ has_both 10 (address_text h.dst) t1 (address_plain 10 h.dst refl refl p.dst) (has_both 10 (address_text h.src) t2 (address_plain 10 h.src refl refl p.src) (has_both 10 (decimal h.proto) t3 p2 (has_both 10 (decimal h.dport) t4 p3 (has_both 10 (decimal h.sport) t5 p4 p5))))

-- ---- lines

not_cut : (p : ℕ → Bool) (w rest : List ℕ) (y : ℕ) → list_any p w ≡ false → p y ≡ true → slice_split p (w ++ y ∷ rest) ≡ w ∷ slice_split p rest
not_cut p [] rest y a h = rw h refl
not_cut p (x ∷ w) rest y a h = let g = either (p x) (list_any p w) a in rw (g.0, not_cut p w rest y g.1 h) refl

-- the line of an answer, without its end
abbrev line_of : ℕ → Answer → List ℕ
line_of k Holds = decimal k ++ codes " holds"
line_of k (Fails h) = decimal k ++ (codes " fails " ++ header_text h)

line_end : (k : ℕ) (a : Answer) → answer_text k a ≡ line_of k a ++ 10 ∷ []
line_end k Holds = sym (append_assoc (decimal k) (codes " holds") (10 ∷ []))
line_end k (Fails h) = sym (append_assoc (decimal k) (codes " fails " ++ header_text h) (10 ∷ []))

line_plain : (k : ℕ) (a : Answer) → k < 2 ^ 64 → HasPacket a → has 10 (line_of k a) ≡ false
line_plain k Holds l p = has_both 10 (decimal k) (codes " holds") (number_plain 10 k refl l) refl
line_plain k (Fails h) l p = has_both 10 (decimal k) (codes " fails " ++ header_text h) (number_plain 10 k refl l) (header_plain h p)

-- it says the answer
line_said : (k : ℕ) (a : Answer) → k < 2 ^ 64 → HasPacket a → said_of (line_of k a) ≡ Some a
line_said k Holds l p = ap (λ r. said_by (next_word r) (skip_word r)) (skip_back (decimal k) (codes " holds") (number_plain 32 k refl l) refl)
line_said k (Fails h) l p =
    ap (λ r. said_by (next_word r) (skip_word r)) (skip_back (decimal k) (codes " fails " ++ header_text h) (number_plain 32 k refl l) refl)
    ∙ ap (option_map Fails) (header_back h p)

-- a number is no word that begins with another byte
no_digits : (w v : List ℕ) (c : ℕ) → 0 < length w → all_ascii_digits w ≡ true → is_ascii_digit c ≡ false → bytes_eq w (c ∷ v) ≡ false
no_digits [] v c h d e = absurd (omega (arith, h))
no_digits (x ∷ w) v c h d e = rw (other x c (both (is_ascii_digit x) (all_ascii_digits w) d).0 e) refl
  where
    other : (x c : ℕ) → is_ascii_digit x ≡ true → is_ascii_digit c ≡ false → (x == c) ≡ false
    other x c d e = grind (arith, tests)

said_number : (n : ℕ) (rest : List ℕ) → n < 2 ^ 64 → said_by (decimal n) rest ≡ None
said_number n rest l =
    rw (
      no_digits (decimal n) (codes "olds") 104 (decimal_nonempty n l) (all_digits n l) refl,
      no_digits (decimal n) (codes "ails") 102 (decimal_nonempty n l) (all_digits n l) refl,
    ) refl

-- the last line says no answer
failed_said : (n : ℕ) → n < 2 ^ 64 → said_of (codes "failed " ++ decimal n) ≡ None
failed_said n l =
    ap (λ q. said_by q.0 q.1) (cut_whole 32 (decimal n) (number_plain 32 n refl l)) ∙ said_number n [] l

-- ---- texts

abbrev said : List ℕ → List Answer
said bytes = flat_map said_at (text_lines bytes)

more_said : (w rest : List ℕ) (o : Option Answer) → has 10 w ≡ false → said_of w ≡ o → said (w ++ 10 ∷ rest) ≡ option_to_list o ++ said rest
more_said w rest o h s = ap (flat_map said_at) (not_cut is_line_end w rest 10 h refl) ∙ ap (λ x. option_to_list x ++ said rest) s

answers_said : (k : ℕ) (xs : List Answer) (t : List ℕ) → k + length xs ≤ 2 ^ 64 → AllByRecursion HasPacket xs → said (answers_from k xs ++ t) ≡ xs ++ said t
answers_said k [] t l p = refl
answers_said k (a ∷ xs) t l p =
    let small : k < 2 ^ 64 = omega (arith, l) in
    let line = line_of k a in
    let others = answers_from (k + 1) xs in
    let parts : answers_from k (a ∷ xs) ++ t ≡ line ++ 10 ∷ (others ++ t) =
    ap (λ x. x ++ others ++ t) (line_end k a) ∙ ap (λ x. x ++ t) (append_assoc line (10 ∷ []) others) ∙ append_assoc line (10 ∷ others) t in
    ap said parts ∙ more_said line (others ++ t) (Some a) (line_plain k a small p.0) (line_said k a small p.0)
    ∙ ap (λ r. a ∷ r) (answers_said (k + 1) xs t (omega (arith, l)) p.1)

fewer : (p : Answer → Bool) (xs : List Answer) → length (filter p xs) ≤ length xs
fewer p [] = omega arith
fewer p (x ∷ xs) = (elim (p x) as (λ t. length (cond t (x ∷ filter p xs) (filter p xs)) ≤ suc (length xs)) [
  | true ↦ omega (arith, fewer p xs)
  | false ↦ omega (arith, fewer p xs)
])

last_said : (xs : List Answer) → length xs < 2 ^ 64 → said (failed_text xs) ≡ []
unfolding failed_text
last_said xs l =
    let n = failed_count xs in
    let small : n < 2 ^ 64 = omega (arith, l, fewer fails xs) in
    more_said (codes "failed " ++ decimal n) [] None (has_both 10 (codes "failed ") (decimal n) refl (number_plain 10 n refl small)) (failed_said n small)

-- each answer has a byte
many : (k : ℕ) (xs : List Answer) → length xs ≤ length (answers_from k xs)
many k [] = omega arith
many k (a ∷ xs) =
    let line : length (answer_text k a) ≡ length (line_of k a) + 1 = ap (length {A = _}) (line_end k a) ∙ length-append (line_of k a) (10 ∷ []) in
    omega (arith, line, length-append (answer_text k a) (answers_from (k + 1) xs), many (k + 1) xs)

last_long : (xs : List Answer) → 1 ≤ length (failed_text xs)
unfolding failed_text
last_long xs = omega (arith, length-append (codes "failed " ++ decimal (failed_count xs)) (codes "\n"))

text_long : (xs : List Answer) → length xs + 1 ≤ length (answers_text xs)
unfolding answers_text
text_long xs = omega (arith, length-append (answers_from 1 xs) (failed_text xs), many 1 xs, last_long xs)

text_said : (xs : List Answer) → AllByRecursion HasPacket xs → length xs + 1 ≤ 2 ^ 64 → said_in (answers_text xs) ≡ xs
unfolding answers_text
text_said xs p l =
    answers_said 1 xs (failed_text xs) (omega (arith, l)) p ∙ ap (λ r. xs ++ r) (last_said xs (omega (arith, l))) ∙ append-nil xs

-- what is written of answers says them
pub said_back : (xs : List Answer) (bytes : List ℕ) → AreAnswers xs bytes → length bytes < 2 ^ 64 → said_in bytes ≡ xs
said_back xs bytes a l =
    let size : length (answers_text xs) ≡ length bytes = ap (length {A = _}) a.written in
    ap said_in (sym a.written) ∙ text_said xs a.packets (omega (arith, size, l, text_long xs))

-- so the bytes are the text of one list of answers at most
pub one_list : (xs ys : List Answer) (bytes : List ℕ) → AreAnswers xs bytes → AreAnswers ys bytes → length bytes < 2 ^ 64 → xs ≡ ys
one_list xs ys bytes a b l = sym (said_back xs bytes a l) ∙ said_back ys bytes b l

-- and none where what they say is written otherwise
pub no_list : (bytes : List ℕ) → length bytes < 2 ^ 64 → (answers_text (said_in bytes) ≡ bytes → ⊥) → (ys : List Answer) → AreAnswers ys bytes → ⊥
no_list bytes l other ys a = other (ap answers_text (said_back ys bytes a l) ∙ a.written)
