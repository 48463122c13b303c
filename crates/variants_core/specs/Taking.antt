-- The variants of a text, whose files are read and judged one after the other over what the files tell.
use Rattle.std.specs.Prelude.{◌≡◌, ℕ, ◌≤◌, ◌+◌, List, [], ◌∷◌, ◌++◌, Option, None, Some, Result, Ok, Err, length}
use Rattle.std.specs.List.{flat_map}
use Rattle.net_types.specs.declared.config.Loaded.{Loaded}
use Rattle.net_io.specs.Files.{Told}
use Rattle.net_load.specs.Limits.{folder_limit}
use Rattle.net_load.specs.Numbering.{folder_names}
use Rattle.variant_lines.specs.declared.reading.VariantLine.{VariantLine}
use Rattle.variant_lines.specs.declared.reading.VariantLine.TheVariants as line
use Rattle.job_core.specs.declared.stop.Stop.{Stop}
use Rattle.job_core.specs.declared.stop.Stop.TheVariants as stop
use Rattle.job_core.specs.Steps.{Then}
use Rattle.window_core.specs.declared.base.Base.{Base}
use Rattle.window_core.specs.declared.change.Change.{Change}
use Rattle.window_core.specs.Changes.{GivesChange}
use Rattle.window_core.specs.Window.{IsWindow}
use Rattle.variants_core.specs.declared.reading.Reading.{Reading}
use Rattle.variants_core.specs.declared.reading.Variant.{Variant}

-- this value, or that there was no memory for it
abbrev pub IsValue : {A : Type 0} → A → Result A Stop → Type 0
IsValue a (Ok x) = x ≡ a
IsValue a (Err stop.NoMemory) = Unit {0}
IsValue a (Err _) = ⊥

-- what is read so far: the variants that are whole, the name of the one that began last with its changes, and how many bytes all
-- changed files have together
pub record SoFar : Type 0 where
  pub done : List Variant
  pub name : Option (List ℕ)
  pub changes : List Loaded
  pub total : ℕ

abbrev pub nothing : SoFar
nothing = record { done = []; name = None; changes = []; total = 0 }

abbrev pub closed : List Variant → Option (List ℕ) → List Loaded → List Variant
closed done None changes = done
closed done (Some name) changes = done ++ record { name = name; changes = changes } ∷ []

-- the variants, with the one that began last
abbrev pub variants_in : SoFar → List Variant
variants_in s = closed s.done s.name s.changes

-- a variant begins: the network before all changes
abbrev pub begun : List ℕ → SoFar → SoFar
begun name s = record { done = variants_in s; name = Some name; changes = []; total = s.total }

abbrev pub changed : Change → SoFar → SoFar
changed change s = record { done = s.done; name = s.name; changes = s.changes ++ change.device ∷ []; total = change.total }

-- a line: a variant begins; or a change of it behind those before it is read, and judged in the network after it, as a step of a
-- change window
abbrev pub Takes : Told → List ℕ → Base → SoFar → VariantLine → Result SoFar Stop → Type 0
Takes t path base s (line.Variant name) = IsValue (begun name s)
Takes t path base s (line.Change step) = Then (GivesChange t path base s.changes s.total step) (λ change. IsValue (changed change s))

-- the lines one after the other; the first that is none stops the job
abbrev pub TakesAll : Told → List ℕ → Base → SoFar → List VariantLine → Result (List Variant) Stop → Type 0
TakesAll t path base s [] result = IsValue (variants_in s) result
TakesAll t path base s (l ∷ ls) result = Then (Takes t path base s l) (λ next r. TakesAll t path base next ls r) result

-- ---- what is kept while they are read

abbrev pub so_far : Reading → SoFar
so_far r = record { done = r.done; name = r.name; changes = r.window.changes; total = r.window.total }

-- a line more, or why there is none
abbrev pub Reads : (Result SoFar Stop → Type 0) → Result Reading Stop → Type 0
Reads Gives (Ok r) = Gives (Ok (so_far r))
Reads Gives (Err s) = Gives (Err s)

-- all changes of these variants
abbrev pub changes_of : List Variant → List Loaded
changes_of variants = flat_map (λ v. v.changes) variants

-- the network after the changes of the variant that began last, and no more names in all than their files have bytes
pub record IsReading (base : Base) (r : Reading) : Type 0 where
  pub window : IsWindow base r.window
  pub names : length (folder_names (changes_of r.done)) + length (folder_names r.window.changes) ≤ r.window.total
