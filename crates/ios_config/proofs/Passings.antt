-- The lines that are passed over among the lines so far.
use Rattle.std.proofs.Common.{◌≡◌, ℕ, ◌+◌, ◌<◌, ◌≤◌, arith, true, false, List, [], ◌∷◌, ◌++◌, length, refl, sym, ap, ◌∙◌, drop, get_or, subst, append-nil, append_assoc}
use Rattle.std.specs.Prelude.{Option, Some, None, Result, Ok, Err, IfOk, sum_by}
use Rattle.std.specs.Option.{option_or}
use Rattle.std.proofs.lemmas.List.{at_drop_more, drop_all, take_all}
use Rattle.std.proofs.lemmas.List.Sums.{sum_by-cons, sum_by_push}
use Rattle.net_text.specs.declared.Line.{Line}
use Rattle.net_text.specs.Lines.{lines_of}
use Rattle.ios_lines.specs.declared.fault.Refusal.{Refusal}
use Rattle.ios_lines.specs.declared.effect.Action.TheVariants as action
use Rattle.ios_lines.specs.declared.effect.Effect.{Effect}
use Rattle.ios_lines.specs.declared.effect.Effect.TheVariants as effect
use Rattle.ios_lines.specs.declared.effect.Section.{Section}
use Rattle.ios_config.specs.declared.reader.Reading.{Reading}
use Rattle.ios_config.specs.declared.passed.Examination.{Examination}
use Rattle.ios_config.specs.declared.passed.PassedLine.{PassedLine}
use Rattle.ios_config.specs.declared.passed.Survey.{Survey}
use Rattle.ios_config.specs.Rules.{section_of, passed, passed_by}
use Rattle.ios_config.specs.Reads.{line_effect, effects_after, effects, refusal_in, early}
use Rattle.ios_config.specs.Draft.{parts, parts_of}
use Rattle.ios_config.specs.Effects.{effect_of}
use Rattle.ios_config.specs.Answers.{seen_in}
use Rattle.ios_config.specs.Passed.{passed_at, add_passed, under_after, passed_after, passed_lines, line_count, Says, Adds, IsSurvey, Judges}
use Rattle.ios_config.proofs.Folds.{so_far, next_far, same_effect, early_more}
use Rattle.ios_config.proofs.Size.{config_size}

-- ---- one more line

dropped : {A : Type 0} (xs : List A) (i : ℕ) (x : A) → i < length xs → x ≡ get_or xs i x → drop i xs ≡ x ∷ drop (i + 1) xs
dropped xs i x l e = at_drop_more (λ ys. ys) xs i x l ∙ ap (λ z. z ∷ drop (i + 1) xs) (sym e)

add_on : (xs ys : List PassedLine) (o : Option PassedLine) → (xs ++ add_passed o []) ++ ys ≡ xs ++ add_passed o ys
add_on xs ys None = ap (λ x. x ++ ys) (append-nil xs)
add_on xs ys (Some p) = append_assoc xs (p ∷ []) ys

same : {A : Type 0} (f : Section → Effect → List Effect → Option ℕ → A) {s t : Section} {d e : Effect} {b c : List Effect} {u v : Option ℕ} → s ≡ t → d ≡ e → b ≡ c → u ≡ v → f s d b u ≡ f t e c v
same f p q r s = cc

module _ (bytes : List ℕ) (lines : List Line) (i : ℕ) (l : Line) (k : i < length lines) (g : l ≡ get_or lines i l) (s : Survey) (t : Survey) (e : Effect)
    (h : parts s.draft ≡ parts_of (so_far bytes lines i)) (m : e ≡ effect_of bytes (seen_in s.draft) l) (n : Adds s t l e) where
  es : List Effect
  es = so_far bytes lines i

  now : e ≡ line_effect bytes (so_far bytes lines i) l
  now = same_effect bytes (so_far bytes lines i) s.draft l e h m

  far : so_far bytes lines (i + 1) ≡ so_far bytes lines i ++ line_effect bytes (so_far bytes lines i) l ∷ []
  far = next_far bytes lines i l k g

  pub next_refusal : s.refusal ≡ early (so_far bytes lines i) → t.refusal ≡ early (so_far bytes lines (i + 1))
  next_refusal r =
      n.refusal ∙ ap (λ o. option_or o (refusal_in e)) r ∙ ap (λ x. option_or (early (so_far bytes lines i)) (refusal_in x)) now
      ∙ sym (early_more (so_far bytes lines i) (line_effect bytes (so_far bytes lines i) l)) ∙ sym (ap early far)

  pub next_passed : s.passed.items ++ passed_after bytes (so_far bytes lines i) s.under (drop i lines) ≡ passed_lines bytes
      → t.passed.items ++ passed_after bytes (so_far bytes lines (i + 1)) t.under (drop (i + 1) lines) ≡ passed_lines bytes
  next_passed r =
      ap (λ ps. ps ++ passed_after bytes (so_far bytes lines (i + 1)) t.under (drop (i + 1) lines)) n.passed
      ∙ add_on s.passed.items (passed_after bytes (so_far bytes lines (i + 1)) t.under (drop (i + 1) lines)) (passed_at s.draft.section s.under l e)
      ∙ same (λ sec x before under. s.passed.items ++ add_passed (passed_at sec s.under l x) (passed_after bytes before under (drop (i + 1) lines)))
      (ap (λ p. p.section) h) now far (n.under ∙ ap (under_after s.under l) now)
      ∙ sym (ap (λ ls. s.passed.items ++ passed_after bytes (so_far bytes lines i) s.under ls) (dropped lines i l k g))
      ∙ r

-- ---- all lines

pub first_passed : (bytes : List ℕ) (lines : List Line) (s : Survey) → lines ≡ lines_of bytes → s.passed.items ≡ [] → s.under ≡ None
    → s.passed.items ++ passed_after bytes [] s.under (drop 0 lines) ≡ passed_lines bytes
first_passed bytes lines s e p u = ap (λ ps. ps ++ passed_after bytes [] s.under lines) p ∙ ap (λ o. passed_after bytes [] o lines) u ∙ ap (passed_after bytes [] None) e

pub whole : (bytes : List ℕ) (lines : List Line) (i : ℕ) (s : Survey) → lines ≡ lines_of bytes → length lines ≤ i
    → parts s.draft ≡ parts_of (so_far bytes lines i) → s.refusal ≡ early (so_far bytes lines i)
    → s.passed.items ++ passed_after bytes (so_far bytes lines i) s.under (drop i lines) ≡ passed_lines bytes
    → IsSurvey bytes s
whole bytes lines i s e k h r p =
    let all : so_far bytes lines i ≡ effects bytes = ap (effects_after bytes []) (take_all i lines k ∙ e) in
    let none : drop i lines ≡ [] = drop_all i lines k in
    record {
      parts = h ∙ ap parts_of all;
      passed = sym (ap (λ ls. s.passed.items ++ passed_after bytes (so_far bytes lines i) s.under ls) none ∙ append-nil s.passed.items) ∙ p;
      refusal = r ∙ ap early all;
    }

-- ---- how many there are

count_of : Option PassedLine → ℕ
count_of None = 0
count_of (Some p) = line_count p

add_count : (o : Option PassedLine) (ps : List PassedLine) → sum_by line_count (add_passed o ps) ≡ count_of o + sum_by line_count ps
unfolding count_of
add_count None ps = omega arith
add_count (Some p) ps = omega (arith, sum_by-cons line_count p ps)

counted : (s : Section) (u : Option ℕ) (l : Line) (e : Effect) → count_of (passed_at s u l e) ≡ passed_by e
unfolding count_of
counted s u l effect.Skip = refl
counted s u l (effect.Banner f n) = refl
counted s u l (effect.Refused r) = refl
counted s u l (effect.Act (action.Pass true)) = omega arith
counted s u l (effect.Act (action.Pass false)) = omega arith
counted s u l (effect.Act (action.Host n)) = refl
counted s u l (effect.Act (action.Interface n c)) = refl
counted s u l (effect.Act (action.Route r)) = refl
counted s u l (effect.Act (action.Nat r)) = refl
counted s u l (effect.Act (action.OpenList n x)) = refl
counted s u l (effect.Act (action.Numbered n x)) = refl
counted s u l (effect.Act (action.Entry n x)) = refl

counts : (bytes : List ℕ) (es : List Effect) (u : Option ℕ) (ls : List Line) → sum_by line_count (passed_after bytes es u ls) + passed es ≡ passed (effects_after bytes es ls)
counts bytes es u [] = omega arith
counts bytes es u (l ∷ ls) =
    let e = line_effect bytes es l in
    let o = passed_at (section_of es) u l e in
    omega (arith, add_count o (passed_after bytes (es ++ e ∷ []) (under_after u l e) ls), counted (section_of es) u l e, sum_by_push passed_by es e, counts bytes (es ++ e ∷ []) (under_after u l e) ls)

-- as many lines are passed over as are counted
pub count_all : (bytes : List ℕ) (ps : List PassedLine) → ps ≡ passed_lines bytes → sum_by line_count ps ≡ passed (effects bytes)
count_all bytes ps h = ap (sum_by line_count) h ∙ omega (arith, counts bytes [] None (lines_of bytes))

-- ---- what the text says

says_by : (bytes : List ℕ) (o : Option Refusal) (r : Result Reading Refusal) → o ≡ early (effects bytes) → Judges o (parts_of (effects bytes)) r → Says bytes r
says_by bytes (Some x) (Ok reading) h j = absurd (ok_err reading x j)
  where
    ok_err : (a : Reading) (b : Refusal) → ◌≡◌ {A = Result Reading Refusal} (Ok a) (Err b) → ⊥
    ok_err a b h = cc
says_by bytes (Some x) (Err y) h j = rw (← h) (err_is y x j)
  where
    err_is : (a b : Refusal) → ◌≡◌ {A = Result Reading Refusal} (Err a) (Err b) → ◌≡◌ {A = Option Refusal} (Some b) (Some a)
    err_is a b h = cc
says_by bytes None (Ok reading) h j = record { accepted = rw (← h) j.late; config = j.config; passed = j.passed }
says_by bytes None (Err y) h j = rw (← h) j

pub says : (bytes : List ℕ) (s : Survey) (r : Result Reading Refusal) → IsSurvey bytes s → Judges s.refusal (parts s.draft) r → Says bytes r
says bytes s r h j = says_by bytes s.refusal r h.refusal (subst (λ p. Judges s.refusal p r) h.parts j)

pub fewer : (bytes : List ℕ) (r : Result Reading Refusal) → Says bytes r → IfOk r (λ r. length r.config.interfaces < length bytes)
fewer bytes (Ok r) h = config_size bytes r.config r.passed h
fewer bytes (Err e) h = tt

-- ---- an examination

pub counted_ok : {E : Type 0} (bytes : List ℕ) (r : Result Examination E) → IfOk r (λ e. e.passed.items ≡ passed_lines bytes) → IfOk r (λ e. sum_by line_count e.passed.items ≡ passed (effects bytes))
counted_ok bytes (Ok e) h = count_all bytes e.passed.items h
counted_ok bytes (Err x) h = tt

pub fewer_ok : {E : Type 0} (bytes : List ℕ) (r : Result Examination E) → IfOk r (λ e. Says bytes e.reading) → IfOk r (λ e. IfOk e.reading (λ r. length r.config.interfaces < length bytes))
fewer_ok bytes (Ok e) h = fewer bytes e.reading h
fewer_ok bytes (Err x) h = tt

pub passed_ok : {E : Type 0} (bytes : List ℕ) (s : Survey) (r : Result Examination E) → IsSurvey bytes s → IfOk r (λ e. e.passed ≡ s.passed) → IfOk r (λ e. e.passed.items ≡ passed_lines bytes)
passed_ok bytes s (Ok e) h k = ap (λ v. v.items) k ∙ h.passed
passed_ok bytes s (Err x) h k = tt

pub says_ok : {E : Type 0} (bytes : List ℕ) (s : Survey) (r : Result Examination E) → IsSurvey bytes s → IfOk r (λ e. Judges s.refusal (parts s.draft) e.reading) → IfOk r (λ e. Says bytes e.reading)
says_ok bytes s (Ok e) h k = says bytes s e.reading h k
says_ok bytes s (Err x) h k = tt
