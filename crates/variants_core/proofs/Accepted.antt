-- What may stop variants of which nothing is refused, too long, too many or absent.
use Rattle.std.proofs.Common.{◌≡◌, inl, inr, ℕ, ◌+◌, List, [], ◌∷◌, ◌++◌, length, refl, sym, subst, ◌∙◌}
use Rattle.std.specs.Prelude.{Option, Some, None, Result, Ok, Err, IfSome}
use Rattle.net_types.specs.declared.config.Loaded.{Loaded}
use Rattle.net_io.specs.Files.{Told, content}
use Rattle.rollout_steps.specs.declared.refusal.StepsFail.TheVariants as steps
use Rattle.variant_lines.specs.declared.reading.VariantLine.{VariantLine}
use Rattle.variant_lines.specs.declared.reading.VariantLine.TheVariants as line
use Rattle.variant_lines.specs.Reading.{variants_of}
use Rattle.job_core.specs.declared.report.Report.{Report}
use Rattle.job_core.specs.declared.stop.Stop.{Stop}
use Rattle.job_core.specs.declared.stop.Stop.TheVariants as stop
use Rattle.job_core.specs.declared.table.Wires.TheVariants as wires
use Rattle.job_core.specs.Accepted.{MayAlwaysStop}
use Rattle.job_core.specs.Steps.{Then, GivesBytes, GivesTable}
use Rattle.job_core.proofs.AcceptedLemmas.{table_may_stop, table_is, writing_may_stop}
use Rattle.job_inputs.specs.Folders.{GivesFolder}
use Rattle.job_inputs.proofs.FolderLemmas.{folder_may_stop, folder_is}
use Rattle.window_core.specs.declared.base.Base.{Base}
use Rattle.window_core.specs.Changes.{GivesChange}
use Rattle.window_core.specs.Job.{WithTable}
use Rattle.window_core.proofs.Accepted.{Given, IsMade, Single, file_given, given_stops, given_then, made, ok_err, ok_is, single_change, single_then}
use Rattle.variants_core.specs.declared.reading.Variant.{Variant}
use Rattle.variants_core.specs.Accepted.{AcceptedBase, AcceptedLines, AcceptedPaths, AcceptedVariants, IsAccepted, base_of}
use Rattle.variants_core.specs.Job.{Compares, Does, GivesBase, GivesLines, GivesVariants, LinesFail, Performs, SaysLines, Varies, VariesFrom, varied_network}
use Rattle.variants_core.specs.Report.{IsAnswer}
use Rattle.variants_core.specs.Taking.{IsValue, SoFar, Takes, TakesAll, begun, changed, nothing, variants_in}
use Rattle.variants_core.specs.Words.{Paths, paths_of}

-- ---- values that are made

value_stops : {A : Type 0} (a : A) (s : Stop) → IsValue a (Err s) → MayAlwaysStop s
value_stops a stop.NoMemory h = tt
value_stops a (stop.CannotRead p) h = tt
value_stops a (stop.NotFound p) h = h
value_stops a (stop.TooLong p) h = h
value_stops a (stop.TooManyFiles p) h = h
value_stops a (stop.HostnameTaken p q) h = h
value_stops a (stop.Refused p n k w) h = h

single_value : {A : Type 0} (a : A) → Single (IsValue a)
single_value a b h = record { once = λ x k. k ∙ sym h; stops = λ s k. value_stops a s k }

-- ---- lines

single_line : (t : Told) (path : List ℕ) (base : Base) (s : SoFar) (l : VariantLine) → Single (Takes t path base s l)
single_line t path base s (line.Variant name) = single_value (begun name s)
single_line t path base s (line.Change step) =
    single_then (GivesChange t path base s.changes s.total step) (λ change. IsValue (changed change s)) (single_change t path base s.changes s.total step) (λ change. single_value (changed change s))

single_lines : (t : Told) (path : List ℕ) (base : Base) (s : SoFar) (lines : List VariantLine) → Single (TakesAll t path base s lines)
single_lines t path base s [] variants h = record { once = λ b k. k ∙ sym h; stops = λ x k. value_stops (variants_in s) x k }
single_lines t path base s (l ∷ lines) variants h =
    let both = single_then (Takes t path base s l) (λ next. TakesAll t path base next lines) (single_line t path base s l) (λ next. single_lines t path base next lines) variants h in
    record { once = both.once; stops = both.stops }

text_stops : (path bytes : List ℕ) (lines : List VariantLine) (s : Stop) → variants_of bytes ≡ Ok lines → LinesFail path bytes s → MayAlwaysStop s
text_stops path bytes lines stop.NoMemory is h = tt
text_stops path bytes lines (stop.CannotRead p) is h = tt
text_stops path bytes lines (stop.NotFound p) is h = h
text_stops path bytes lines (stop.TooLong p) is h = h
text_stops path bytes lines (stop.TooManyFiles p) is h = ok_err (variants_of bytes) lines steps.TooMany is h.1
text_stops path bytes lines (stop.HostnameTaken p q) is h = h
text_stops path bytes lines (stop.Refused p m k w) is (same, kind, named, refused) = ok_err (variants_of bytes) lines (steps.Refused kind m w) is refused

lines_given : (t : Told) (path : List ℕ) (a : AcceptedLines t path) → Given (GivesLines t path) a.lines
lines_given t path a =
    given_then (GivesBytes (λ (bytes : List ℕ). bytes) path (content t path)) (SaysLines path) a.file.bytes a.lines (file_given t path a.file)
    (record { once = λ b h. ok_is (variants_of a.file.bytes) b a.lines h a.read; stops = λ s h. text_stops path a.file.bytes a.lines s a.read h })

-- ---- the network

module _ (t : Told) (p : Paths) where
  base_given : (a : AcceptedBase t p) → Given (GivesBase t p) (base_of a)
  base_given a =
      let devices = a.folder.devices in
      let table = a.table.links.table in
      given_then (GivesFolder (λ (ds : List Loaded). ds) t p.net) (WithTable t p.links) devices (base_of a)
      (record { once = folder_is t p.net a.folder; stops = folder_may_stop t p.net a.folder })
      (given_then (GivesTable t p.links wires.Both devices devices) (λ x. IsMade (record { devices = devices; table = x })) table (base_of a)
      (record { once = table_is t p.links wires.Both devices devices a.table; stops = table_may_stop t p.links wires.Both devices devices a.table })
      (made (base_of a)))

-- ---- the whole

varies_stops : (t : Told) (p : Paths) (a : AcceptedVariants t p) (s : Stop) → Varies t p (Err s) → MayAlwaysStop s
varies_stops t p a s h = given_stops (GivesBase t p) (VariesFrom t p) base s (base_given t p a.base) from h where
  base : Base
  base = base_of a.base

  from : VariesFrom t p base (Err s) → MayAlwaysStop s
  from k =
      given_stops (GivesVariants t p.variants base) (Compares base) a.variants s
      (given_then (GivesLines t p.variants) (TakesAll t p.variants base nothing) a.lines.lines a.variants (lines_given t p.variants a.lines) (single_lines t p.variants base nothing a.lines.lines a.variants a.taken))
      (λ written. writing_may_stop (IsAnswer (varied_network base a.variants) a.variants) s written)
      k

paths_may_stop : (o : Option Paths) (t : Told) (s : Stop) → AcceptedPaths o t → Performs o t (Err s) → MayAlwaysStop s
paths_may_stop None t s a d = absurd a
paths_may_stop (Some p) t s a d = varies_stops t p a s d

pub accepted_may_stop : (words : List (List ℕ)) (t : Told) (s : Stop) → IsAccepted words t → Does words t (Err s) → MayAlwaysStop s
accepted_may_stop words t s a d = paths_may_stop (paths_of words) t s a d

-- what is done for the paths that the words name is what they ask
pub does_paths : (words : List (List ℕ)) (told : Option Told) (p : Paths) (result : Result Report Stop) → paths_of words ≡ Some p → IfSome told (λ t. Varies t p result) → IfSome told (λ t. Does words t result)
does_paths words told p result asked d = subst (λ o. IfSome told (λ t. Performs o t result)) (sym asked) d

-- where the words are outside the usage nothing is accepted
pub none_accepted : (words : List (List ℕ)) → paths_of words ≡ None → (t : Told) → IsAccepted words t → ⊥
none_accepted words none t a = subst (λ o. AcceptedPaths o t) none a
