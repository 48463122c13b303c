-- Folders whose files are read once more.
use Rattle.std.proofs.Common.{◌≡◌, inl, inr, ℕ, ◌+◌, ◌<◌, ◌≤◌, zero, suc, List, [], ◌∷◌, ◌++◌, Option, Some, None, Result, Ok, Err, IfSome, take, length, get_or, unwrap_or, sym, ap, ◌∙◌, subst, arith, append-nil}
use Rattle.std.proofs.lemmas.List.{take_more, take_all}
use Rattle.std.proofs.lemmas.Grind.{flat_map-append}
use Rattle.net_io.specs.Files.{Told, content, path_in}
use Rattle.net_types.specs.declared.config.Loaded.{Loaded}
use Rattle.job_core.specs.declared.stop.Stop.{Stop}
use Rattle.job_core.specs.Steps.{UnreadFile}
use Rattle.job_inputs.specs.Folders.{GivesFolder}
use Rattle.audit_view.specs.declared.lists.FolderList.{FolderList}
use Rattle.audit_view.specs.Lists.{lists_in, lists_of, bytes_of}
use Rattle.audit_view.specs.Views.{FileStops, ReadsLists, GivesNet}

module _ {T : Type 0} (view : T → List FolderList) (net : List ℕ) where
  pub net_goes : (told : Option Told) (devices : List Loaded) (r : Result T Stop) → IfSome told (λ t. GivesFolder (λ (ds : List Loaded). ds) t net (Ok devices))
      → IfSome told (λ t. ReadsLists view t net devices r) → IfSome told (λ t. GivesNet view t net r)
  net_goes None devices r g h = tt
  net_goes (Some t) devices (Ok x) g h = (devices, g, h)
  net_goes (Some t) devices (Err s) g h = inr (devices, g, h)

  pub net_stops : (told : Option Told) (s : Stop) → IfSome told (λ t. GivesFolder {T = List Loaded} (λ ds. ds) t net (Err s)) → IfSome told (λ t. GivesNet view t net (Err s))
  net_stops None s g = tt
  net_stops (Some t) s g = inl g

-- the file at a place can't be read
stops_at : (t : Told) (net : List ℕ) (ds : List Loaded) (i : ℕ) (d : Loaded) (s : Stop) → i < length ds → d ≡ get_or ds i d
    → UnreadFile (path_in net d.file) (content t (path_in net d.file)) s → FileStops t net ds s
stops_at t net [] i d s k e h = absurd (omega (arith, k))
stops_at t net (x ∷ ds) zero d s k e h = inl (subst (λ (y : Loaded). UnreadFile (path_in net y.file) (content t (path_in net y.file)) s) e h)
stops_at t net (x ∷ ds) (suc i) d s k e h = inr (stops_at t net ds i d s (omega (arith, k)) e h)

pub file_stops : (told : Option Told) (net : List ℕ) (ds : List Loaded) (i : ℕ) (d : Loaded) (s : Stop) → i < length ds → d ≡ get_or ds i d
    → IfSome told (λ t. UnreadFile (path_in net d.file) (content t (path_in net d.file)) s) → IfSome told (λ t. FileStops t net ds s)
file_stops None net ds i d s k e h = tt
file_stops (Some t) net ds i d s k e h = stops_at t net ds i d s k e h

-- ---- the lists so far

abbrev pub AreRead : Option Told → List ℕ → List Loaded → ℕ → List FolderList → Type 0
AreRead told net ds i found = IfSome told (λ t. found ≡ lists_of t net (take i ds))

pub first_read : (told : Option Told) (net : List ℕ) (ds : List Loaded) (found : List FolderList) → found ≡ [] → AreRead told net ds 0 found
first_read None net ds found e = tt
first_read (Some t) net ds found e = e

pub next_read : (told : Option Told) (net : List ℕ) (ds : List Loaded) (i : ℕ) (d : Loaded) (bytes : List ℕ) (found now : List FolderList) → i < length ds → d ≡ get_or ds i d
    → IfSome told (λ t. (content t (path_in net d.file) ≡ Some bytes)) → now ≡ found ++ lists_in bytes d → AreRead told net ds i found → AreRead told net ds (i + 1) now
next_read None net ds i d bytes found now k e there n h = tt
next_read (Some t) net ds i d bytes found now k e there n h =
    let same : bytes_of t net d ≡ bytes = ap (λ o. unwrap_or o []) there in
    n ∙ ap (λ x. x ++ lists_in bytes d) h ∙ ap (λ b. lists_of t net (take i ds) ++ lists_in b d) (sym same)
    ∙ sym (ap (lists_of t net) (take_more ds i d k ∙ ap (λ x. take i ds ++ x ∷ []) (sym e))
    ∙ flat_map-append (λ x. lists_in (bytes_of t net x) x) (take i ds) (d ∷ [])
    ∙ ap (λ z. lists_of t net (take i ds) ++ z) (append-nil (lists_in (bytes_of t net d) d)))

pub all_read : (told : Option Told) (net : List ℕ) (ds : List Loaded) (i : ℕ) (found : List FolderList) → length ds ≤ i → AreRead told net ds i found → IfSome told (λ t. found ≡ lists_of t net ds)
all_read None net ds i found k h = tt
all_read (Some t) net ds i found k h = h ∙ ap (lists_of t net) (take_all i ds k)

-- what the bytes are, where they are told
pub told_bytes : (told : Option Told) (path : List ℕ) (view : List ℕ) → IfSome told (λ t. (content t path ≡ Some view) × (length view ≤ 16777216)) → IfSome told (λ t. content t path ≡ Some view)
told_bytes None path view h = tt
told_bytes (Some t) path view h = h.0
