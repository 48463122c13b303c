-- What holds of the effect of each line, by its words and the effects before it, holds of all effects of a text.
use Rattle.std.proofs.Common.{ℕ, List, [], ◌∷◌, ◌++◌, sym, subst, append-nil, append_assoc}
use Rattle.std.specs.Prelude.{Option, Some, None, filter_map}
use Rattle.std.specs.Option.{option_or}
use Rattle.std.specs.List.{AllByRecursion, cons_option}
use Rattle.net_text.specs.declared.Line.{Line}
use Rattle.net_text.specs.Lines.{lines_of}
use Rattle.ios_lines.specs.declared.effect.Effect.{Effect}
use Rattle.ios_lines.specs.Lists.{last, latest}
use Rattle.ios_config.specs.Effects.{line_words}
use Rattle.ios_config.specs.Reads.{line_effect, effects_after, effects}
use Rattle.ios_print.proofs.Has.{Each}
use Rattle.ios_print.proofs.LineWords.{lines_are}

abbrev pub IfAny : {A : Type 0} → (A → Type 0) → Option A → Type 0
IfAny Q None = Unit {0}
IfAny Q (Some x) = Q x

or_last : {A : Type 0} (Q : A → Type 0) (o : Option A) (x : A) → IfAny Q o → Q x → IfAny Q (option_or o (Some x))
or_last Q None x h q = q
or_last Q (Some y) x h q = h

pub last_has : {A : Type 0} (Q : A → Type 0) (xs : List A) → AllByRecursion Q xs → IfAny Q (last xs)
last_has Q [] a = tt
last_has Q (x ∷ xs) a = or_last Q (last xs) x (last_has Q xs a.1) a.0

-- each effect is so, given those before it
module _ (P : List Effect → Effect → Type 0) where
  abbrev pub FineAll : List Effect → List Effect → Type 0
  FineAll before [] = Unit {0}
  FineAll before (e ∷ es) = P before e × FineAll (before ++ e ∷ []) es

  pub fine_more : (before es : List Effect) (e : Effect) → FineAll before es → P (before ++ es) e → FineAll before (es ++ e ∷ [])
  fine_more before [] e a p = (subst (λ b. P b e) (append-nil before) p, tt)
  fine_more before (d ∷ es) e a p = (a.0, fine_more (before ++ d ∷ []) es e a.1 (subst (λ b. P b e) (sym (append_assoc before (d ∷ []) es)) p))

  module _ (bytes : List ℕ) (each : (before : List Effect) (l : Line) → Each (line_words bytes l) → FineAll [] before → P before (line_effect bytes before l)) where
    fine_after : (before : List Effect) (ls : List Line) → AllByRecursion (λ l. Each (line_words bytes l)) ls → FineAll [] before → FineAll [] (effects_after bytes before ls)
    fine_after before [] w a = a
    fine_after before (l ∷ ls) w a = fine_after (before ++ line_effect bytes before l ∷ []) ls w.1 (fine_more [] before (line_effect bytes before l) a (each before l w.0 a))

    pub all_effects : FineAll [] (effects bytes)
    all_effects = fine_after [] (lines_of bytes) (lines_are bytes) tt

  -- what is found in effects is so, where each effect gives nothing else
  module _ {A : Type 0} (f : Effect → Option A) (Q : A → Type 0) (gives : (before : List Effect) (e : Effect) → P before e → IfAny Q (f e)) where
    pub all_found : (before es : List Effect) → FineAll before es → AllByRecursion Q (filter_map f es)
    all_found before [] a = tt
    all_found before (e ∷ es) a = go (f e) (gives before e a.0) (all_found (before ++ e ∷ []) es a.1)
      where
        go : (o : Option A) → IfAny Q o → AllByRecursion Q (filter_map f es) → AllByRecursion Q (cons_option o (filter_map f es))
        go None h r = r
        go (Some x) h r = (h, r)

    pub last_found : (before es : List Effect) → FineAll before es → IfAny Q (latest f es)
    last_found before es a = last_has Q (filter_map f es) (all_found before es a)
