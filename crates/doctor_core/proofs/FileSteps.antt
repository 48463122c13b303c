-- Files that are read one after the other.
use Rattle.std.proofs.Common.{◌≡◌, inl, inr, ℕ, ◌+◌, ◌<◌, ◌≤◌, List, [], ◌∷◌, ◌++◌, length, map, drop, get_or, refl, sym, ap, subst, ◌∙◌, arith}
use Rattle.std.specs.Prelude.{Option, Some, None, Result, Ok, Err, IfSome}
use Rattle.std.proofs.lemmas.List.{at_drop_more, drop_all}
use Rattle.std.proofs.lemmas.List.Sums.{sum_by_push}
use Rattle.net_io.specs.Files.{Told}
use Rattle.doctor_warnings.specs.declared.files.TextFile.{TextFile}
use Rattle.job_core.specs.declared.stop.Stop.{Stop}
use Rattle.job_core.specs.declared.stop.Stop.TheVariants as stop
use Rattle.doctor_core.specs.Folders.{GivesFile, GivesFrom, total}

-- what the names that are left give is what all names give
abbrev pub Goes : List ℕ → List (List ℕ) → List TextFile → List (List ℕ) → Told → Type 0
Goes folder names read left t = (r : Result (List TextFile) Stop) → GivesFrom t folder read left r → GivesFrom t folder [] names r

pub left_of : {A : Type 0} (view : A → List ℕ) (xs : List A) (i : ℕ) (x : A) (name : List ℕ) → i < length xs → x ≡ get_or xs i x → name ≡ view x
    → map view (drop i xs) ≡ name ∷ map view (drop (i + 1) xs)
left_of view xs i x name l e v =
    ap (map view) (at_drop_more (λ ys. ys) xs i x l ∙ ap (λ z. z ∷ drop (i + 1) xs) (sym e)) ∙ ap (λ n. n ∷ map view (drop (i + 1) xs)) (sym v)

module _ (folder : List ℕ) (names : List (List ℕ)) where
  pub start : (o : Option Told) (read : List TextFile) → read ≡ [] → IfSome o (Goes folder names read names)
  start None read e = tt
  start (Some t) read e = λ r h. subst (λ (fs : List TextFile). GivesFrom t folder fs names r) e h

  memory : (t : Told) (read : List TextFile) (left : List (List ℕ)) → GivesFrom t folder read left (Err stop.NoMemory)
  memory t read [] = tt
  memory t read (name ∷ left) = inl (stop.NoMemory, inl (stop.NoMemory, tt, refl), refl)

  -- want of memory may come at any file
  pub no_memory : (o : Option Told) (read : List TextFile) (left : List (List ℕ)) → IfSome o (Goes folder names read left) → IfSome o (λ t. GivesFrom t folder [] names (Err stop.NoMemory))
  no_memory None read left g = tt
  no_memory (Some t) read left g = g (Err stop.NoMemory) (memory t read left)

  pub stops : (o : Option Told) (read : List TextFile) (left rest : List (List ℕ)) (name : List ℕ) (s : Stop) → left ≡ name ∷ rest
      → IfSome o (Goes folder names read left) → IfSome o (λ t. GivesFile t folder name (total read) (Err s)) → IfSome o (λ t. GivesFrom t folder [] names (Err s))
  stops None read left rest name s e g h = tt
  stops (Some t) read left rest name s e g h = g (Err s) (subst (λ (ns : List (List ℕ)). GivesFrom t folder read ns (Err s)) (sym e) (inl (s, h, refl)))

  pub next : (o : Option Told) (read more : List TextFile) (left rest : List (List ℕ)) (name : List ℕ) (f : TextFile) → left ≡ name ∷ rest → more ≡ read ++ f ∷ []
      → IfSome o (Goes folder names read left) → IfSome o (λ t. GivesFile t folder name (total read) (Ok f)) → IfSome o (Goes folder names more rest)
  next None read more left rest name f e m g h = tt
  next (Some t) read more left rest name f e m g h =
      λ r k. g r (subst (λ (ns : List (List ℕ)). GivesFrom t folder read ns r) (sym e) (inr (f, h, subst (λ (fs : List TextFile). GivesFrom t folder fs rest r) m k)))

  pub whole : (o : Option Told) (read : List TextFile) (left : List (List ℕ)) → left ≡ [] → IfSome o (Goes folder names read left) → IfSome o (λ t. GivesFrom t folder [] names (Ok read))
  whole None read left e g = tt
  whole (Some t) read left e g = g (Ok read) (subst (λ (ns : List (List ℕ)). GivesFrom t folder read ns (Ok read)) (sym e) refl)

pub none_left : {A : Type 0} (view : A → List ℕ) (xs : List A) (i : ℕ) → length xs ≤ i → map view (drop i xs) ≡ []
none_left view xs i l = ap (map view) (drop_all i xs l)

pub total_more : (read more : List TextFile) (f : TextFile) → more ≡ read ++ f ∷ [] → total more ≡ total read + length f.bytes
total_more read more f e = ap total e ∙ omega (arith, sum_by_push (λ f. length f.bytes) read f)
