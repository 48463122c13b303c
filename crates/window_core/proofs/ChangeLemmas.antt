-- The changes of a window one after the other.
use Rattle.std.proofs.Common.{◌≡◌, inl, inr, ℕ, ◌+◌, ◌<◌, ◌≤◌, List, [], ◌∷◌, ◌++◌, length, drop, get_or, refl, sym, ap, subst, ◌∙◌}
use Rattle.std.specs.Prelude.{Option, Some, None, Result, Ok, Err, IfSome}
use Rattle.std.proofs.lemmas.List.{at_drop_more, drop_all}
use Rattle.net_types.specs.declared.config.Loaded.{Loaded}
use Rattle.net_io.specs.Files.{Told}
use Rattle.rollout_steps.specs.declared.reading.StepLine.{StepLine}
use Rattle.job_core.specs.declared.stop.Stop.{Stop}
use Rattle.job_core.specs.declared.stop.Stop.TheVariants as stop
use Rattle.window_core.specs.declared.base.Base.{Base}
use Rattle.window_core.specs.declared.change.Change.{Change}
use Rattle.window_core.specs.declared.changes.Window.{Window}
use Rattle.window_core.specs.Changes.{GivesChange, GivesChanges, Judges, ReadsChange}
use Rattle.window_core.specs.Window.{Grows}

-- a change is read and judged, and grows the window
pub grows_go : (path : List ℕ) (base : Base) (before : List Loaded) (sum : ℕ) (step : StepLine) (told : Option Told) (change : Change) (r : Result Window Stop)
    → IfSome told (λ t. ReadsChange t path sum step (Ok change)) → Grows (Judges path base before step.line change) before r → IfSome told (λ t. Grows (GivesChange t path base before sum step) before r)
grows_go path base before sum step None change r h k = tt
grows_go path base before sum step (Some t) change (Ok w) h k = (k.0, inr (change, h, k.1), k.2, k.3)
grows_go path base before sum step (Some t) change (Err s) h k = inr (change, h, k)

-- there may be no memory at any step
no_memory_at : (t : Told) (path : List ℕ) (base : Base) (before : List Loaded) (sum : ℕ) (steps : List StepLine) → GivesChanges t path base before sum steps (Err stop.NoMemory)
no_memory_at t path base before sum [] = tt
no_memory_at t path base before sum (step ∷ steps) = inl (stop.NoMemory, inl (stop.NoMemory, inl (stop.NoMemory, tt, refl), refl), refl)

pub no_memory : (told : Option Told) (path : List ℕ) (base : Base) (steps : List StepLine) → IfSome told (λ t. GivesChanges t path base [] 0 steps (Err stop.NoMemory))
no_memory None path base steps = tt
no_memory (Some t) path base steps = no_memory_at t path base [] 0 steps

module _ (path : List ℕ) (base : Base) (steps : List StepLine) where
  -- what the steps from here on give is what all of them give
  abbrev pub GoesOn : Option Told → List Loaded → ℕ → List StepLine → Type 0
  GoesOn told changes sum rest = IfSome told (λ t. (r : Result (List Loaded) Stop) → GivesChanges t path base changes sum rest r → GivesChanges t path base [] 0 steps r)

  pub begins : (told : Option Told) (changes : List Loaded) (sum : ℕ) → changes ≡ [] → sum ≡ 0 → GoesOn told changes sum (drop 0 steps)
  begins None changes sum none zero = tt
  begins (Some t) changes sum none zero = λ r h. subst (λ k. GivesChanges t path base [] k steps r) zero (subst (λ cs. GivesChanges t path base cs sum steps r) none h)

  dropped : (i : ℕ) (step : StepLine) → i < length steps → step ≡ get_or steps i step → drop i steps ≡ step ∷ drop (i + 1) steps
  dropped i step l e = at_drop_more (λ ys. ys) steps i step l ∙ ap (λ z. z ∷ drop (i + 1) steps) (sym e)

  module _ (i : ℕ) (step : StepLine) (l : i < length steps) (e : step ≡ get_or steps i step) (changes : List Loaded) (sum : ℕ) where
    -- a step more
    pub grows : (told now : Option Told) (w : Window) → now ≡ told → GoesOn told changes sum (drop i steps) → IfSome now (λ t. Grows (GivesChange t path base changes sum step) changes (Ok w)) → GoesOn told w.changes w.total (drop (i + 1) steps)
    grows None now w same goes h = tt
    grows (Some t) now w same goes h = λ r rest. goes r (subst (λ ss. GivesChanges t path base changes sum ss r) (sym (dropped i step l e)) (next r rest)) where
      given : Grows (GivesChange t path base changes sum step) changes (Ok w)
      given = subst (λ (o : Option Told). IfSome o (λ u. Grows (GivesChange u path base changes sum step) changes (Ok w))) same h

      next : (r : Result (List Loaded) Stop) → GivesChanges t path base w.changes w.total (drop (i + 1) steps) r → GivesChanges t path base changes sum (step ∷ drop (i + 1) steps) r
      next r rest = inr (given.0, given.1, subst (λ k. GivesChanges t path base (changes ++ given.0.device ∷ []) k (drop (i + 1) steps) r) given.3 (subst (λ cs. GivesChanges t path base cs w.total (drop (i + 1) steps) r) given.2 rest))

    -- or none
    pub stops : (told now : Option Told) (s : Stop) → now ≡ told → GoesOn told changes sum (drop i steps) → IfSome now (λ t. Grows (GivesChange t path base changes sum step) changes (Err s)) → IfSome told (λ t. GivesChanges t path base [] 0 steps (Err s))
    stops None now s same goes h = tt
    stops (Some t) now s same goes h =
        let given : GivesChange t path base changes sum step (Err s) = subst (λ (o : Option Told). IfSome o (λ u. GivesChange u path base changes sum step (Err s))) same h in
        goes (Err s) (subst (λ ss. GivesChanges t path base changes sum ss (Err s)) (sym (dropped i step l e)) (inl (s, given, refl)))

  pub whole : (told : Option Told) (i : ℕ) (changes : List Loaded) (sum : ℕ) → length steps ≤ i → GoesOn told changes sum (drop i steps) → IfSome told (λ t. GivesChanges t path base [] 0 steps (Ok changes))
  whole None i changes sum l goes = tt
  whole (Some t) i changes sum l goes = goes (Ok changes) (subst (λ ss. GivesChanges t path base changes sum ss (Ok changes)) (sym (drop_all i steps l)) refl)
