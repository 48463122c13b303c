-- What the text of a change window says: files that replace configurations, one after the other; or why it says none.
use Rattle.std.specs.Prelude.{ℕ, ◌≡◌, ◌==◌, ◌≤◌, Bool, false, List, [], ◌∷◌, ◌++◌, length, map, nat_lt, option_to_list, Option, None, Some, Result, Ok, Err, codes, if◌then◌else◌}
use Rattle.std.specs.Str.{bytes_eq, is_utf8}
use Rattle.net_text.specs.declared.Line.{Line}
use Rattle.net_text.specs.Lines.{piece, lines_of}
use Rattle.rollout_steps.specs.declared.refusal.StepRefusal.TheVariants as refusal
use Rattle.rollout_steps.specs.declared.refusal.StepsFail.{StepsFail}
use Rattle.rollout_steps.specs.declared.refusal.StepsFail.TheVariants as fail
use Rattle.rollout_steps.specs.declared.reading.StepLine.{StepLine}
use Rattle.rollout_steps.specs.Refusals.{Word, refused, GivesFail}

-- a window has at most 1,024 steps
abbrev pub steps_limit : ℕ
steps_limit = 1024

-- ---- a line

-- what a line says: nothing, a step, or that it is refused
abbrev pub Effect : Type 0
Effect = Result (Option StepLine) StepsFail

-- the path is the line's last word
abbrev pub alone : ℕ → Word → List Word → Effect
alone n path [] = Ok (Some (record { line = n; path = path }))
alone n path (word ∷ words) = Err (refused refusal.BadWord n word)

-- the path of line n, which is UTF-8
unfoldable pub path_at : ℕ → List Word → Effect
path_at n [] = Err (refused refusal.MissingWord n [])
path_at n (path ∷ words) = if is_utf8 path then alone n path words else Err (refused refusal.BadWord n path)

abbrev pub begins_mark : Word → Bool
begins_mark [] = false
begins_mark (b ∷ bs) = b == 33

-- line n by its words: `change PATH`; a comment begins with `!` and says nothing
unfoldable pub effect_of : ℕ → List Word → Effect
effect_of n [] = Ok None
effect_of n (w ∷ words) =
    if begins_mark w then Ok None
    else (if bytes_eq w (codes "change") then path_at n words
    else Err (refused refusal.BadWord n w))

-- ---- the whole

-- each line's effect, in order
abbrev pub effects_in : List ℕ → List Line → List Effect
effects_in bytes lines = map (λ l. effect_of l.number (map (piece bytes) l.words)) lines

-- the steps in front of the first refused line
abbrev pub steps_before : List Effect → List StepLine
steps_before [] = []
steps_before (Ok step ∷ es) = option_to_list step ++ steps_before es
steps_before (Err e ∷ es) = []

-- the first refused line, if there is one
abbrev pub first_refusal : List Effect → Option StepsFail
first_refusal [] = None
first_refusal (Ok step ∷ es) = first_refusal es
first_refusal (Err e ∷ es) = Some e

abbrev pub unless : List StepLine → Option StepsFail → Result (List StepLine) StepsFail
unless steps None = Ok steps
unless steps (Some e) = Err e

-- more steps than a window may have, in front of the first refused line; else that line; else the steps of all lines
abbrev pub within : List StepLine → Option StepsFail → Result (List StepLine) StepsFail
within steps refusal = if nat_lt steps_limit (length steps) then Err fail.TooMany else unless steps refusal

-- the steps that the text says, or why it says none
abbrev pub steps_in : List Effect → Result (List StepLine) StepsFail
steps_in es = within (steps_before es) (first_refusal es)

abbrev pub steps_of : List ℕ → Result (List StepLine) StepsFail
steps_of bytes = steps_in (effects_in bytes (lines_of bytes))

-- a step more, if there is one, where the window has room for it; else there is one too many
abbrev pub Adds : {T : Type 0} → List StepLine → Option StepLine → List StepLine → Result T StepsFail → Type 0
Adds old step new (Ok _) = (new ≡ old ++ option_to_list step) × (length new ≤ steps_limit)
Adds old step new (Err e) = GivesFail e (within (old ++ option_to_list step) None)
