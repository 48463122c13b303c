-- What the text of variants says: their names, and below each the files that replace configurations in it; or why it says none.
use Rattle.std.specs.Prelude.{ℕ, ◌≡◌, ◌||◌, ◌≤◌, Bool, true, false, List, [], ◌∷◌, ◌++◌, length, map, nat_lt, option_to_list, Option, None, Some, Result, Ok, Err, codes, if◌then◌else◌}
use Rattle.std.specs.Str.{bytes_eq}
use Rattle.net_text.specs.declared.Line.{Line}
use Rattle.net_text.specs.Lines.{piece, lines_of}
use Rattle.rollout_steps.specs.declared.reading.StepLine.{StepLine}
use Rattle.rollout_steps.specs.declared.refusal.StepRefusal.TheVariants as refusal
use Rattle.rollout_steps.specs.declared.refusal.StepsFail.{StepsFail}
use Rattle.rollout_steps.specs.declared.refusal.StepsFail.TheVariants as fail
use Rattle.rollout_steps.specs.Reading.{effect_of}
use Rattle.rollout_steps.specs.Refusals.{Word, refused, GivesFail}
use Rattle.variant_lines.specs.declared.reading.VariantLine.{VariantLine}
use Rattle.variant_lines.specs.declared.reading.VariantLine.TheVariants as line

-- a text has at most 65,536 variants and changes together
abbrev pub lines_limit : ℕ
lines_limit = 65536

-- ---- a line

-- what a line says: nothing, a variant or a change, or that it is refused
abbrev pub Effect : Type 0
Effect = Result (Option VariantLine) StepsFail

-- the name is the line's last word
abbrev pub name_alone : ℕ → Word → List Word → Effect
name_alone n name [] = Ok (Some (line.Variant name))
name_alone n name (word ∷ words) = Err (refused refusal.BadWord n word)

-- the name of line n
unfoldable pub name_at : ℕ → List Word → Effect
name_at n [] = Err (refused refusal.MissingWord n [])
name_at n (name ∷ words) = name_alone n name words

-- a change is one of the variant that began last; above all variants it is refused
abbrev pub below : Bool → ℕ → Option StepLine → Effect
below began n None = Ok None
below true n (Some step) = Ok (Some (line.Change step))
below false n (Some step) = Err (refused refusal.BadWord n (codes "change"))

abbrev pub placed : Bool → ℕ → Result (Option StepLine) StepsFail → Effect
placed began n (Ok step) = below began n step
placed began n (Err e) = Err e

abbrev pub is_variant : List Word → Bool
is_variant [] = false
is_variant (w ∷ words) = bytes_eq w (codes "variant")

-- line n by its words: `variant NAME`; or a line as in the text of a change window
unfoldable pub effect_at : Bool → ℕ → List Word → Effect
effect_at began n [] = Ok None
effect_at began n (w ∷ words) = if bytes_eq w (codes "variant") then name_at n words else placed began n (effect_of n (w ∷ words))

-- ---- the whole

abbrev pub words_in : List ℕ → Line → List Word
words_in bytes l = map (piece bytes) l.words

-- each line's effect, in order
abbrev pub effects_in : Bool → List ℕ → List Line → List Effect
effects_in began bytes [] = []
effects_in began bytes (l ∷ ls) = effect_at began l.number (words_in bytes l) ∷ effects_in (began || is_variant (words_in bytes l)) bytes ls

-- what the lines in front of the first refused one say
abbrev pub said_before : List Effect → List VariantLine
said_before [] = []
said_before (Ok said ∷ es) = option_to_list said ++ said_before es
said_before (Err e ∷ es) = []

-- the first refused line, if there is one
abbrev pub first_refusal : List Effect → Option StepsFail
first_refusal [] = None
first_refusal (Ok said ∷ es) = first_refusal es
first_refusal (Err e ∷ es) = Some e

abbrev pub unless : List VariantLine → Option StepsFail → Result (List VariantLine) StepsFail
unless said None = Ok said
unless said (Some e) = Err e

-- more than a text may have, in front of the first refused line; else that line; else what all lines say
abbrev pub within : List VariantLine → Option StepsFail → Result (List VariantLine) StepsFail
within said refusal = if nat_lt lines_limit (length said) then Err fail.TooMany else unless said refusal

abbrev pub variants_in : List Effect → Result (List VariantLine) StepsFail
variants_in es = within (said_before es) (first_refusal es)

-- the variants that the text says with their changes, line by line, or why it says none
abbrev pub variants_of : List ℕ → Result (List VariantLine) StepsFail
variants_of bytes = variants_in (effects_in false bytes (lines_of bytes))

-- what a line says behind others, if it says anything, where the text has room for it; else there is one too many
abbrev pub Adds : {T : Type 0} → List VariantLine → Option VariantLine → List VariantLine → Result T StepsFail → Type 0
Adds old said new (Ok _) = (new ≡ old ++ option_to_list said) × (length new ≤ lines_limit)
Adds old said new (Err e) = GivesFail e (within (old ++ option_to_list said) None)
