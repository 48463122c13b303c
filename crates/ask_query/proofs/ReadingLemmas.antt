-- Questions read line by line, and filters field by field.
use Rattle.std.proofs.Common.{◌≡◌, ℕ, ◌+◌, ◌≤◌, ◌<◌, List, [], ◌∷◌, ◌++◌, length, map, drop, get_or, refl, sym, ap, subst, ◌∙◌, append_assoc}
use Rattle.std.specs.Prelude.{Option, Some, None, Result, Ok, Err, option_map, option_to_list}
use Rattle.std.proofs.lemmas.List.{append-nil, at_drop_more, drop_all, map_push}
use Rattle.net_text.specs.declared.Line.{Line}
use Rattle.net_text.specs.Lines.{piece}
use Rattle.net_types.specs.declared.network.Network.{Network}
use Rattle.ask_query.specs.declared.fields.Field.{Field}
use Rattle.ask_query.specs.declared.refusal.QuestionFail.{QuestionFail}
use Rattle.ask_query.specs.declared.refusal.QuestionFail.TheVariants as fail
use Rattle.ask_query.specs.declared.refusal.QuestionRefusal.TheVariants as refusal
use Rattle.ask_query.specs.Refusals.{Word, refused, ◌>>=◌, GivesFail}
use Rattle.net_types.specs.declared.question.Question.{Question}
use Rattle.ask_query.specs.Reading.{Said, said, Filter, and_field, bits_at, filter_from, free_field, question_at, questions_in}

-- what was read before, and what is still read
abbrev pub behind : List Said → Result (List Said) QuestionFail → Result (List Said) QuestionFail
behind front read = read >>= λ qs. Ok (front ++ qs)

regroup : (front : List Said) (q : List Said) (read : Result (List Said) QuestionFail) → behind front (read >>= λ qs. Ok (q ++ qs)) ≡ behind (front ++ q) read
regroup front q (Ok qs) = ap (λ (xs : List Said). Ok xs) (sym (append_assoc front q qs))
regroup front q (Err e) = refl

pub dropped : {A : Type 0} (xs : List A) (i : ℕ) (x : A) → i < length xs → x ≡ get_or xs i x → drop i xs ≡ x ∷ drop (i + 1) xs
dropped xs i x l e = at_drop_more (λ ys. ys) xs i x l ∙ ap (λ z. z ∷ drop (i + 1) xs) (sym e)

module _ (net : Network) (bytes : List ℕ) where
  one_line : (lines : List Line) (i : ℕ) (l : Line) (words : List Word) (front : List Said) → i < length lines → l ≡ get_or lines i l → words ≡ map (piece bytes) l.words
      → behind front (questions_in net bytes (drop i lines)) ≡ behind front (question_at net l.number words >>= λ q. questions_in net bytes (drop (i + 1) lines) >>= λ qs. Ok (option_to_list q ++ qs))
  unfolding questions_in
  one_line lines i l words front k e w = rw (dropped lines i l k e, w) refl

  pub goes_on : (lines : List Line) (i : ℕ) (l : Line) (words : List Word) (front : List Said) (q : Option Said) (total : Result (List Said) QuestionFail) → i < length lines → l ≡ get_or lines i l → words ≡ map (piece bytes) l.words
      → question_at net l.number words ≡ Ok q
      → behind front (questions_in net bytes (drop i lines)) ≡ total → behind (front ++ option_to_list q) (questions_in net bytes (drop (i + 1) lines)) ≡ total
  goes_on lines i l words front q total k e w read so_far =
      sym (regroup front (option_to_list q) (questions_in net bytes (drop (i + 1) lines)))
      ∙ sym (ap (λ (r : Result (Option Said) QuestionFail). behind front (r >>= λ q. questions_in net bytes (drop (i + 1) lines) >>= λ qs. Ok (option_to_list q ++ qs))) read)
      ∙ sym (one_line lines i l words front k e w)
      ∙ so_far

  pub ends : (f : QuestionFail) (lines : List Line) (i : ℕ) (l : Line) (words : List Word) (front : List Said) (total : Result (List Said) QuestionFail) → i < length lines → l ≡ get_or lines i l → words ≡ map (piece bytes) l.words
      → GivesFail f (question_at net l.number words)
      → behind front (questions_in net bytes (drop i lines)) ≡ total → GivesFail f total
  ends fail.NoMemory lines i l words front total k e w read so_far = tt
  ends (fail.Refused a b c) lines i l words front total k e w read so_far =
      sym so_far ∙ one_line lines i l words front k e w
      ∙ ap (λ (r : Result (Option Said) QuestionFail). behind front (r >>= λ q. questions_in net bytes (drop (i + 1) lines) >>= λ qs. Ok (option_to_list q ++ qs))) read

-- ---- filters
pub one_field : (n : ℕ) (f : Filter) (w t : Word) (words : List Word) (x : Field) (m : ℕ × ℕ) → free_field n f.named w ≡ Ok x → bits_at n x t ≡ Ok m → filter_from n f (w ∷ t ∷ words) ≡ filter_from n (and_field f x m) words
unfolding filter_from
one_field n f w t words x m e b = rw (e, b) refl

-- ---- the first line and the last one
pub nothing_behind : (read : Result (List Said) QuestionFail) → behind [] read ≡ read
nothing_behind (Ok qs) = refl
nothing_behind (Err e) = refl

pub first_line : (net : Network) (bytes : List ℕ) (lines : List Line) (front : List Said) → front ≡ [] → behind front (questions_in net bytes (drop 0 lines)) ≡ questions_in net bytes lines
first_line net bytes lines front e = ap (λ f. behind f (questions_in net bytes lines)) e ∙ nothing_behind (questions_in net bytes lines)

pub last_line : (net : Network) (bytes : List ℕ) (lines : List Line) (i : ℕ) (front : List Said) (total : Result (List Said) QuestionFail) → length lines ≤ i → behind front (questions_in net bytes (drop i lines)) ≡ total → total ≡ Ok front
unfolding questions_in
last_line net bytes lines i front total l so_far = sym so_far ∙ ap (λ ls. behind front (questions_in net bytes ls)) (drop_all i lines l) ∙ ap (λ (qs : List Said). Ok qs) (append-nil front)

pub said_more : (qs : List Question) (q : Option Question) → map said (qs ++ option_to_list q) ≡ map said qs ++ option_to_list (option_map said q)
said_more qs None = ap (map said) (append-nil qs) ∙ sym (append-nil (map said qs))
said_more qs (Some q) = map_push said qs q

module _ (n : ℕ) (f : Filter) (w : Word) (total : Result (ℕ × ℕ) QuestionFail) where
  -- the name isn't one, or was named before
  pub no_field_there : (e : QuestionFail) (others : List Word) → GivesFail e (free_field n f.named w) → total ≡ filter_from n f (w ∷ others) → GivesFail e total
  unfolding filter_from
  no_field_there fail.NoMemory others r t = tt
  no_field_there (fail.Refused a b c) [] r t = t ∙ rw r refl
  no_field_there (fail.Refused a b c) (o ∷ others) r t = t ∙ rw r refl

  pub no_text_there : (e : QuestionFail) (x : Field) (others : List Word) → others ≡ [] → e ≡ refused refusal.MissingWord n [] → free_field n f.named w ≡ Ok x → total ≡ filter_from n f (w ∷ others) → GivesFail e total
  unfolding filter_from
  no_text_there e x [] none is r t = subst (λ y. GivesFail y total) (sym is) (t ∙ rw r refl)
  no_text_there e x (o ∷ others) none is r t = absurd cc

  pub no_bits_there : (e : QuestionFail) (x : Field) (text : Word) (words : List Word) → free_field n f.named w ≡ Ok x → GivesFail e (bits_at n x text) → total ≡ filter_from n f (w ∷ text ∷ words) → GivesFail e total
  unfolding filter_from
  no_bits_there fail.NoMemory x text words r b t = tt
  no_bits_there (fail.Refused a c d) x text words r b t = t ∙ rw (r, b) refl

pub no_more_fields : (n : ℕ) (f : Filter) (rest : List Word) (total : Result (ℕ × ℕ) QuestionFail) → rest ≡ [] → total ≡ filter_from n f rest → total ≡ Ok (f.fixed, f.bits)
unfolding filter_from
no_more_fields n f [] total e t = t
no_more_fields n f (w ∷ rest) total e t = absurd cc
