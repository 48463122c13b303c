-- The lines of a text of variants, taken one after the other.
use Rattle.std.proofs.Common.{◌≡◌, inl, inr, ℕ, ◌+◌, ◌<◌, ◌≤◌, List, [], ◌∷◌, ◌++◌, length, drop, get_or, refl, sym, ap, subst, ◌∙◌, arith}
use Rattle.std.specs.Prelude.{Option, Some, None, Result, Ok, Err, IfSome}
use Rattle.std.proofs.lemmas.List.{append-nil, at_drop_more, drop_all, length-append}
use Rattle.std.proofs.lemmas.Grind.{flat_map-append}
use Rattle.net_types.specs.declared.config.Loaded.{Loaded}
use Rattle.net_io.specs.Files.{Told}
use Rattle.net_load.specs.Numbering.{config_names, folder_names}
use Rattle.rollout_steps.specs.declared.reading.StepLine.{StepLine}
use Rattle.variant_lines.specs.declared.reading.VariantLine.{VariantLine}
use Rattle.variant_lines.specs.declared.reading.VariantLine.TheVariants as line
use Rattle.job_core.specs.declared.stop.Stop.{Stop}
use Rattle.job_core.specs.declared.stop.Stop.TheVariants as stop
use Rattle.window_core.specs.declared.base.Base.{Base}
use Rattle.window_core.specs.declared.change.Change.{Change}
use Rattle.window_core.specs.declared.changes.Window.{Window}
use Rattle.window_core.specs.Changes.{GivesChange}
use Rattle.window_core.specs.Window.{Grows}
use Rattle.variants_core.specs.declared.reading.Reading.{Reading}
use Rattle.variants_core.specs.declared.reading.Variant.{Variant}
use Rattle.variants_core.specs.Taking.{Reads, SoFar, Takes, TakesAll, changed, changes_of, closed, nothing, so_far, variants_in}

-- a change is taken, or why not
pub change_taken : (path : List ℕ) (base : Base) (done : List Variant) (name : Option (List ℕ)) (window : Window) (step : StepLine) (told : Option Told) (after : Window)
    → IfSome told (λ t. Grows (GivesChange t path base window.changes window.total step) window.changes (Ok after))
    → IfSome told (λ t. Takes t path base (record { done = done; name = name; changes = window.changes; total = window.total }) (line.Change step) (Ok (record { done = done; name = name; changes = after.changes; total = after.total })))
change_taken path base done name window step None after h = tt
change_taken path base done name window step (Some t) after h = inr (h.0, h.1, (λ i. record { done = done; name = name; changes = h.2 i; total = h.3 i }))

pub change_stopped : (path : List ℕ) (base : Base) (s : SoFar) (step : StepLine) (told : Option Told) (e : Stop)
    → IfSome told (λ t. GivesChange t path base s.changes s.total step (Err e))
    → IfSome told (λ t. Takes t path base s (line.Change step) (Err e))
change_stopped path base s step None e h = tt
change_stopped path base s step (Some t) e h = inl (e, h, refl)

-- there may be no memory at any line
takes_no_memory : (t : Told) (path : List ℕ) (base : Base) (s : SoFar) (l : VariantLine) → Takes t path base s l (Err stop.NoMemory)
takes_no_memory t path base s (line.Variant name) = tt
takes_no_memory t path base s (line.Change step) = inl (stop.NoMemory, inl (stop.NoMemory, inl (stop.NoMemory, tt, refl), refl), refl)

no_memory_at : (t : Told) (path : List ℕ) (base : Base) (s : SoFar) (lines : List VariantLine) → TakesAll t path base s lines (Err stop.NoMemory)
no_memory_at t path base s [] = tt
no_memory_at t path base s (l ∷ lines) = inl (stop.NoMemory, takes_no_memory t path base s l, refl)

pub no_memory : (told : Option Told) (path : List ℕ) (base : Base) (lines : List VariantLine) → IfSome told (λ t. TakesAll t path base nothing lines (Err stop.NoMemory))
no_memory None path base lines = tt
no_memory (Some t) path base lines = no_memory_at t path base nothing lines

module _ (path : List ℕ) (base : Base) (lines : List VariantLine) where
  -- what the lines from here on give is what all of them give
  abbrev pub GoesOn : Option Told → SoFar → List VariantLine → Type 0
  GoesOn told s rest = IfSome told (λ t. (r : Result (List Variant) Stop) → TakesAll t path base s rest r → TakesAll t path base nothing lines r)

  pub begins : (told : Option Told) (s : SoFar) → s ≡ nothing → GoesOn told s (drop 0 lines)
  begins None s none = tt
  begins (Some t) s none = λ r h. subst (λ x. TakesAll t path base x lines r) none h

  dropped : (i : ℕ) (l : VariantLine) → i < length lines → l ≡ get_or lines i l → drop i lines ≡ l ∷ drop (i + 1) lines
  dropped i l h e = at_drop_more (λ ys. ys) lines i l h ∙ ap (λ z. z ∷ drop (i + 1) lines) (sym e)

  module _ (i : ℕ) (l : VariantLine) (h : i < length lines) (e : l ≡ get_or lines i l) (s : SoFar) where
    -- a line more
    pub grows : (told now : Option Told) (w : Reading) → now ≡ told → GoesOn told s (drop i lines) → IfSome now (λ t. Reads (Takes t path base s l) (Ok w)) → GoesOn told (so_far w) (drop (i + 1) lines)
    grows None now w same goes taken = tt
    grows (Some t) now w same goes taken = λ r rest. goes r (subst (λ ls. TakesAll t path base s ls r) (sym (dropped i l h e)) (inr (so_far w, given, rest))) where
      given : Takes t path base s l (Ok (so_far w))
      given = subst (λ (o : Option Told). IfSome o (λ u. Takes u path base s l (Ok (so_far w)))) same taken

    -- or none
    pub stops : (told now : Option Told) (x : Stop) → now ≡ told → GoesOn told s (drop i lines) → IfSome now (λ t. Reads (Takes t path base s l) (Err x)) → IfSome told (λ t. TakesAll t path base nothing lines (Err x))
    stops None now x same goes taken = tt
    stops (Some t) now x same goes taken =
        let given : Takes t path base s l (Err x) = subst (λ (o : Option Told). IfSome o (λ u. Takes u path base s l (Err x))) same taken in
        goes (Err x) (subst (λ ls. TakesAll t path base s ls (Err x)) (sym (dropped i l h e)) (inl (x, given, refl)))

  pub whole : (told : Option Told) (i : ℕ) (s : SoFar) (variants : List Variant) → length lines ≤ i → GoesOn told s (drop i lines) → variants ≡ variants_in s → IfSome told (λ t. TakesAll t path base nothing lines (Ok variants))
  whole None i s variants h goes is = tt
  whole (Some t) i s variants h goes is = goes (Ok variants) (subst (λ ls. TakesAll t path base s ls (Ok variants)) (sym (drop_all i lines h)) is)

-- ---- names

folder_names_append : (xs ys : List Loaded) → length (folder_names (xs ++ ys)) ≡ length (folder_names xs) + length (folder_names ys)
folder_names_append xs ys = ap (λ ns. length ns) (flat_map-append (λ (l : Loaded). config_names l.config) xs ys) ∙ length-append (folder_names xs) (folder_names ys)

-- the one that began last has no more names than its changes
pub closed_names : (done : List Variant) (name : Option (List ℕ)) (changes : List Loaded)
    → length (folder_names (changes_of (closed done name changes))) ≤ length (folder_names (changes_of done)) + length (folder_names changes)
closed_names done None changes = omega arith
closed_names done (Some name) changes =
    let v : Variant = record { name = name; changes = changes } in
    let all : changes_of (done ++ v ∷ []) ≡ changes_of done ++ changes = flat_map-append (λ (x : Variant). x.changes) done (v ∷ []) ∙ ap (λ ls. changes_of done ++ ls) (append-nil changes) in
    let e = ap (λ (ls : List Loaded). length (folder_names ls)) all ∙ folder_names_append (changes_of done) changes in
    omega (arith, e)
