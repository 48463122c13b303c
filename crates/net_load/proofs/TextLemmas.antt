-- The texts of the first of some names.
use Rattle.std.proofs.Common.{ℕ, ◌≡◌, ◌<◌, ◌+◌, inl, inr, List, [], ◌∷◌, ◌++◌, map, take, drop, refl, sym, ap, ◌∙◌, subst, append-nil, Vec, Global}
use Rattle.std.specs.Prelude.{Option, Some, None, IfSome, All, Ok, Err, length}
use Rattle.std.proofs.lemmas.List.{map-append, take-append-drop}
use Rattle.net_io.specs.Files.{Told}
use Rattle.topo_links.specs.Ends.{Word}
use Rattle.net_load.specs.declared.folder.LoadFail.{LoadFail}
use Rattle.net_load.specs.declared.texts.FileText.{FileText}
use Rattle.net_load.specs.declared.texts.Texts.{Texts}
use Rattle.net_load.specs.Limits.{folder_limit}
use Rattle.net_load.specs.Folder.{total, size_at}
use Rattle.net_load.specs.Texts.{AreTexts, GivesText, Holds, file_of}
use Rattle.net_load.proofs.Steps.{total_more, size_of_text}
use Rattle.net_load.proofs.ReadingLemmas.{all_more}

abbrev are_texts : Option Told → Word → List Word → Texts → Type 0
are_texts o folder names texts = IfSome o (λ t. AreTexts t folder names texts)

abbrev hold : Option Told → Word → List FileText → Type 0
hold o folder read = IfSome o (λ t. All (Holds t folder) read)

-- all names were read
pub all_read : (o : Option Told) (folder : Word) (names : List Word) (read : Vec FileText Global) → hold o folder read.items → names ≡ map file_of read.items → are_texts o folder names (record { read = read; stopped = None })
all_read None folder names read h split = tt
all_read (Some t) folder names read h split = record { hold = h; read = ([], split ∙ sym (append-nil (map file_of read.items)), inl refl) }

-- those that were read are too long together
pub too_long : (o : Option Told) (folder : Word) (names : List Word) (read : Vec FileText Global) (rest : List Word) (sum : ℕ) → hold o folder read.items → names ≡ map file_of read.items ++ rest
    → IfSome o (λ t. sum ≡ total t folder (map file_of read.items)) → folder_limit < sum → are_texts o folder names (record { read = read; stopped = None })
too_long None folder names read rest sum h split size long = tt
too_long (Some t) folder names read rest sum h split size long = record { hold = h; read = (rest, split, inr (subst (λ (n : ℕ). folder_limit < n) size long)) }

-- the next one has no text
pub stopped : (o p : Option Told) (folder : Word) (names : List Word) (read : Vec FileText Global) (name : Word) (rest : List Word) (e : LoadFail) → p ≡ o → hold o folder read.items
    → names ≡ map file_of read.items ++ name ∷ rest → IfSome p (λ t. GivesText t folder name (Err e)) → are_texts o folder names (record { read = read; stopped = Some e })
stopped None p folder names read name rest e same h split fails = tt
stopped (Some t) p folder names read name rest e same h split fails =
    record { hold = h; read = (name, rest, split, subst (λ (q : Option Told). IfSome q (λ t. GivesText t folder name (Err e))) same fails) }

-- the names up to one, and those from there on
pub parted : {A B : Type 0} (f : A → B) (xs : List A) (i : ℕ) (ys : List B) → ys ≡ map f (take i xs) → map f xs ≡ ys ++ map f (drop i xs)
parted f xs i ys e = ap (map f) (sym (take-append-drop i xs)) ∙ map-append f (take i xs) (drop i xs) ∙ ap (λ zs. zs ++ map f (drop i xs)) (sym e)

abbrev gives : Option Told → Word → Word → FileText → Type 0
gives o folder name text = IfSome o (λ t. GivesText t folder name (Ok text))

pub hold_more : (o p : Option Told) (folder : Word) (read : List FileText) (name : Word) (text : FileText) → p ≡ o → hold o folder read → gives p folder name text → hold o folder (read ++ text ∷ [])
hold_more None p folder read name text same h is = tt
hold_more (Some t) p folder read name text same h is =
    let this : gives (Some t) folder name text = subst (λ (q : Option Told). gives q folder name text) same is in
    all_more (Holds t folder) read text h this.1

pub size_more : (o p : Option Told) (folder : Word) (read : List FileText) (name : Word) (text : FileText) (sum : ℕ) → p ≡ o → gives p folder name text → IfSome o (λ t. sum ≡ total t folder (map file_of read))
    → IfSome o (λ t. sum + length text.bytes.items ≡ total t folder (map file_of (read ++ text ∷ [])))
size_more None p folder read name text sum same is size = tt
size_more (Some t) p folder read name text sum same is size =
    let this : gives (Some t) folder name text = subst (λ (q : Option Told). gives q folder name text) same is in
    ap (λ n. sum + n) (sym (size_of_text t folder text this.1)) ∙ ap (λ n. n + size_at t folder text.file) size ∙ sym (total_more t folder (map file_of read) text.file) ∙ ap (total t folder) (sym (map-append file_of read (text ∷ [])))
