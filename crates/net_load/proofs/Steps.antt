-- The files of a folder, one after the other.
use Rattle.std.proofs.Common.{◌≡◌, ◌⊎◌, ℕ, ◌+◌, ◌<◌, ◌≤◌, suc, Bool, true, false, ◌||◌, List, [], ◌∷◌, ◌++◌, length, map, take, drop, get_or, zero-add, refl, sym, ap, subst, ◌∙◌, arith, inl, inr, append_assoc, append-nil}
use Rattle.std.specs.Prelude.{Option, Some, None, IfSome, IsSomeAnd, unwrap_or, Result, Ok, Err}
use Rattle.std.specs.List.{AllZip, IsDistinct, AllByRecursion, list_any}
use Rattle.std.specs.Str.{bytes_eq}
use Rattle.std.specs.Cmp.Lexicographic.{nat_list_eq_equiv}
use Rattle.std.proofs.lemmas.Bool.{false≢true}
use Rattle.std.proofs.lemmas.List.{map-append, map_more, take-append-drop}
use Rattle.std.proofs.Math.Seq.{drop-cons}
use Rattle.std.proofs.lemmas.List.Sums.{sum_by-append}
use Rattle.net_types.specs.declared.config.Loaded.{Loaded}
use Rattle.net_io.specs.Limits.{file_limit}
use Rattle.net_io.specs.Files.{Told, content, has_folder, path_in}
use Rattle.ios_config.specs.Reads.{Reads}
use Rattle.topo_links.specs.Ends.{Word}
use Rattle.topo_links.specs.Check.{host_of}
use Rattle.net_load.specs.declared.folder.LoadFail.{LoadFail}
use Rattle.net_load.specs.declared.folder.LoadFail.TheVariants as fail
use Rattle.net_load.specs.declared.loader.Loader.{Loader}
use Rattle.net_load.specs.declared.texts.FileText.{FileText}
use Rattle.net_load.specs.declared.texts.Texts.{Texts}
use Rattle.net_load.specs.Folder.{IsRead, AreConfigNames, AreLoaded, Loads, LoadsNames, NoFolder, Stages, TooMany, file_at, total, size_at, BytesFail, ContentFails, FailsAt, UnlessMemory, UnlessFault}
use Rattle.net_load.specs.Loader.{IsLoader, AddsBytes, IsNoFault, NoBytes}
use Rattle.net_load.specs.Texts.{AreRead, AreTexts, GivesTexts, Holds, NoText, file_of}

-- the names up to one, that one, and those after it
pub split_at : {A B : Type 0} (f : A → B) (xs : List A) (i : ℕ) (x : A) (y : B) → i < length xs → x ≡ get_or xs i x → y ≡ f x → map f xs ≡ map f (take i xs) ++ y ∷ map f (drop (suc i) xs)
split_at f xs i x y h at e =
    ap (map f) (sym (take-append-drop i xs)) ∙ map-append f (take i xs) (drop i xs)
    ∙ ap (λ l. map f (take i xs) ++ l) (ap (map f) (drop-cons xs i x h) ∙ ap (λ z. z ∷ map f (drop (suc i) xs)) (ap f (sym at) ∙ sym e))

pub one_name : {A B : Type 0} (f : A → B) (xs : List A) (i : ℕ) (x : A) (y : B) → i < length xs → x ≡ get_or xs i x → y ≡ f x → map f (take (i + 1) xs) ≡ map f (take i xs) ++ y ∷ []
one_name f xs i x y h at e = map_more f xs i x h ∙ ap (λ z. map f (take i xs) ++ z ∷ []) (ap f (sym at) ∙ sym e)

zip_push : {A B : Type 0} (R : A → B → Type 0) (xs : List A) (ys : List B) (x : A) (y : B) → AllZip R xs ys → R x y → AllZip R (xs ++ x ∷ []) (ys ++ y ∷ [])
zip_push R [] [] x y h r = (r, tt)
zip_push R [] (z ∷ ys) x y h r = absurd h
zip_push R (z ∷ xs) [] x y h r = absurd h
zip_push R (w ∷ xs) (z ∷ ys) x y h r = (h.0, zip_push R xs ys x y h.1 r)

-- one more name, which isn't there yet
apart_push : (m n : Word) (xs : List Word) → bytes_eq n m ≡ false → AllByRecursion (λ y. bytes_eq m y ≡ false) xs → AllByRecursion (λ y. bytes_eq m y ≡ false) (xs ++ n ∷ [])
apart_push m n [] h all = (nat_list_eq_equiv.symm m n ∙ h, tt)
apart_push m n (x ∷ xs) h all = (all.0, apart_push m n xs h all.1)

first_false : (a b : Bool) → (a || b) ≡ false → a ≡ false
first_false true b h = h
first_false false b h = refl

rest_false : (a b : Bool) → (a || b) ≡ false → b ≡ false
rest_false true b h = absurd (false≢true (sym h))
rest_false false b h = h

distinct_push : (xs : List Word) (n : Word) → IsDistinct bytes_eq xs → list_any (bytes_eq n) xs ≡ false → IsDistinct bytes_eq (xs ++ n ∷ [])
unfolding IsDistinct
distinct_push [] n d h = (tt, tt)
distinct_push (x ∷ xs) n d h = (apart_push x n xs (first_false (bytes_eq n x) (list_any (bytes_eq n) xs) h) d.0, distinct_push xs n d.1 (rest_false (bytes_eq n x) (list_any (bytes_eq n) xs) h))

pub none_loaded : (t : Told) (folder : Word) → AreLoaded t folder [] []
unfolding IsDistinct
none_loaded t folder = record { each = tt; size = omega arith; hosts = tt }

pub total_more : (t : Told) (folder : Word) (names : List Word) (name : Word) → total t folder (names ++ name ∷ []) ≡ total t folder names + size_at t folder name
total_more t folder names name = sum_by-append (size_at t folder) names (name ∷ []) ∙ ap (λ n. total t folder names + n) (zero-add (size_at t folder name))

-- how many bytes the file of a text has
pub size_of_text : (t : Told) (folder : Word) (x : FileText) → Holds t folder x → size_at t folder x.file ≡ length x.bytes.items
size_of_text t folder x holds = ap (λ (o : Option (List ℕ)). length (unwrap_or o [])) holds

-- a text that is read is a file that is read
is_read : (t : Told) (folder : Word) (x : FileText) (old new : Loader) (l : Loaded) → Holds t folder x → AddsBytes x.file x.bytes.items old new l → IsRead t folder x.file l
is_read t folder x old new l holds a = record {
  file = a.file;
  read = subst (λ (o : Option (List ℕ)). IsSomeAnd o (λ bytes. Reads bytes l.config l.passed)) (sym holds) a.reads;
  size = subst (λ (n : ℕ). n ≤ file_limit) (sym (size_of_text t folder x holds)) a.fits.0;
}

-- one file more
pub more : (t : Told) (folder : Word) (names : List Word) (x : FileText) (old new : Loader) → AreLoaded t folder names old.loaded.items → old.total ≡ total t folder names
    → Holds t folder x → (l : Loaded) × AddsBytes x.file x.bytes.items old new l → IsLoader new → AreLoaded t folder (names ++ x.file ∷ []) new.loaded.items
more t folder names x old new done size holds step is =
    let l = step.0 in
    let a = step.1 in
    let bytes = size_of_text t folder x holds in
    let sum : new.total ≡ total t folder (names ++ x.file ∷ []) = a.adds.total ∙ ap (λ n. old.total + n) (sym bytes) ∙ ap (λ n. n + size_at t folder x.file) size ∙ sym (total_more t folder names x.file) in
    let within = is.size in
    subst (λ (ls : List Loaded). AreLoaded t folder (names ++ x.file ∷ []) ls) (sym a.adds.loaded) (record {
      each = zip_push (IsRead t folder) names old.loaded.items x.file l done.each (is_read t folder x old new l holds a);
      size = omega (arith, sum, within);
      hosts = subst (IsDistinct bytes_eq) (sym (map-append host_of old.loaded.items (l ∷ []))) (distinct_push (map host_of old.loaded.items) (host_of l) done.hosts a.adds.host);
    })

pub more_size : (t : Told) (folder : Word) (names : List Word) (x : FileText) (old new : Loader) → old.total ≡ total t folder names
    → Holds t folder x → (l : Loaded) × AddsBytes x.file x.bytes.items old new l → new.total ≡ total t folder (names ++ x.file ∷ [])
more_size t folder names x old new size holds step =
    step.1.adds.total ∙ ap (λ n. old.total + n) (sym (size_of_text t folder x holds)) ∙ ap (λ n. n + size_at t folder x.file) size ∙ sym (total_more t folder names x.file)

-- bytes that aren't taken are no fault
pub no_fault : (folder path : Word) (sum : ℕ) (loaded : List Loaded) (bytes : List ℕ) (e : LoadFail) → BytesFail folder path sum loaded bytes e → IsNoFault e
no_fault folder path sum loaded bytes (fail.Fault p) h = h
no_fault folder path sum loaded bytes _ h = tt

unless_fault : (e : LoadFail) (path : Word) {A : Type 0} → IsNoFault e → A → UnlessFault e path A
unless_fault (fail.Fault p) path calm h = absurd calm
unless_fault fail.NoMemory path calm h = h
unless_fault (fail.Absent p) path calm h = h
unless_fault (fail.TooLong p) path calm h = h
unless_fault (fail.TooManyFiles p) path calm h = h
unless_fault (fail.FolderTooLong p) path calm h = h
unless_fault (fail.Refused p r) path calm h = h
unless_fault (fail.HostnameTaken p q) path calm h = h

pub unless_map : (e : LoadFail) {A B : Type 0} → (A → B) → UnlessMemory e A → UnlessMemory e B
unless_map (fail.Fault p) f h = f h
unless_map fail.NoMemory f h = tt
unless_map (fail.Absent p) f h = f h
unless_map (fail.TooLong p) f h = f h
unless_map (fail.TooManyFiles p) f h = f h
unless_map (fail.FolderTooLong p) f h = f h
unless_map (fail.Refused p r) f h = f h
unless_map (fail.HostnameTaken p q) f h = f h

unless_claim : (e : LoadFail) {A : Type 0} → A → UnlessMemory e A
unless_claim (fail.Fault p) h = h
unless_claim fail.NoMemory h = tt
unless_claim (fail.Absent p) h = h
unless_claim (fail.TooLong p) h = h
unless_claim (fail.TooManyFiles p) h = h
unless_claim (fail.FolderTooLong p) h = h
unless_claim (fail.Refused p r) h = h
unless_claim (fail.HostnameTaken p q) h = h

-- the first text that isn't taken
pub stops : (t : Told) (folder : Word) (all before : List Word) (x : FileText) (after : List Word) (old : Loader) (e : LoadFail)
    → AreLoaded t folder before old.loaded.items → old.total ≡ total t folder before → all ≡ before ++ x.file ∷ after → Holds t folder x
    → BytesFail folder (path_in folder x.file) old.total old.loaded.items x.bytes.items e → UnlessMemory e (FailsAt t folder all e)
stops t folder all before x after old e done size split holds fails =
    let path = path_in folder x.file in
    let content_fails : ContentFails folder path (total t folder before) old.loaded.items (file_at t folder x.file) e =
    subst (λ (o : Option (List ℕ)). ContentFails folder path (total t folder before) old.loaded.items o e) (sym holds) (subst (λ (n : ℕ). BytesFail folder path n old.loaded.items x.bytes.items e) size fails) in
    unless_claim e (record {
      before = before;
      name = x.file;
      after = after;
      split = split;
      loaded = old.loaded.items;
      done = done;
      cause = unless_fault e path (no_fault folder path old.total old.loaded.items x.bytes.items e fails) content_fails;
    })

-- ---- all texts of a folder

no_content : (folder path : Word) (sum : ℕ) (loaded : List Loaded) (o : Option (List ℕ)) (e : LoadFail) → NoBytes path o e → ContentFails folder path sum loaded o e
no_content folder path sum loaded None e h = h
no_content folder path sum loaded (Some bytes) e h = subst (λ (x : LoadFail). BytesFail folder path sum loaded bytes x) (sym h.0) (refl, h.1)

fault_map : (e : LoadFail) (path : Word) {A B : Type 0} → (A → B) → UnlessFault e path A → UnlessFault e path B
fault_map (fail.Fault p) path f h = h
fault_map fail.NoMemory path f h = f h
fault_map (fail.Absent p) path f h = f h
fault_map (fail.TooLong p) path f h = f h
fault_map (fail.TooManyFiles p) path f h = f h
fault_map (fail.FolderTooLong p) path f h = f h
fault_map (fail.Refused p r) path f h = f h
fault_map (fail.HostnameTaken p q) path f h = f h

-- the first of some names that isn't loaded is the first of more names
fails_more : (t : Told) (folder : Word) (names rest all : List Word) (e : LoadFail) → all ≡ names ++ rest → UnlessMemory e (FailsAt t folder names e) → UnlessMemory e (FailsAt t folder all e)
fails_more t folder names rest all e split h = unless_map e (λ (f : FailsAt t folder names e). record {
  before = f.before;
  name = f.name;
  after = f.after ++ rest;
  split = split ∙ ap (λ ns. ns ++ rest) f.split ∙ append_assoc f.before (f.name ∷ f.after) rest;
  loaded = f.loaded;
  done = f.done;
  cause = f.cause;
}) h

rest_of : (t : Told) (folder : Word) (names read : List Word) (o : Option LoadFail) → AreRead t folder names read o → (rest : List Word) × (names ≡ read ++ rest)
rest_of t folder names read None h = (h.0, h.1)
rest_of t folder names read (Some e) h = (h.0 ∷ h.1, h.2)

-- a text that isn't taken
pub fails : (t : Told) (folder : Word) (names : List Word) (texts : Texts) (e : LoadFail) → AreTexts t folder names texts
    → UnlessMemory e (FailsAt t folder (map file_of texts.read.items) e) → UnlessMemory e (FailsAt t folder names e)
fails t folder names texts e are h =
    let rest = rest_of t folder names (map file_of texts.read.items) texts.stopped are.read in
    fails_more t folder (map file_of texts.read.items) rest.0 names e rest.1 h

-- all are taken, and there are no more
pub all_loaded : (t : Told) (folder : Word) (names read : List Word) (loaded : List Loaded) → AreRead t folder names read None → AreLoaded t folder read loaded → AreLoaded t folder names loaded
all_loaded t folder names read loaded (rest, split, inl none) done =
    let same : names ≡ read = split ∙ ap (λ ns. read ++ ns) none ∙ append-nil read in
    subst (λ (ns : List Word). AreLoaded t folder ns loaded) (sym same) done
all_loaded t folder names read loaded (rest, split, inr long) done = let within = done.size in absurd (omega arith)

-- all are taken, and the next one has no text
pub next_fails : (t : Told) (folder : Word) (names read : List Word) (loaded : List Loaded) (e : LoadFail) → AreRead t folder names read (Some e) → AreLoaded t folder read loaded → UnlessMemory e (FailsAt t folder names e)
next_fails t folder names read loaded e h done =
    let path = path_in folder h.0 in
    unless_map e (λ (f : NoText t folder h.0 e). record {
      before = read;
      name = h.0;
      after = h.1;
      split = h.2;
      loaded = loaded;
      done = done;
      cause = fault_map e path (no_content folder path (total t folder read) loaded (content t path) e) f;
    }) h.3

-- ---- a folder

abbrev gives_texts : Option Told → Word → Result Texts LoadFail → Type 0
gives_texts o folder r = IfSome o (λ t. GivesTexts t folder r)

abbrev loads : {T : Type 0} → (T → List Loaded) → Option Told → Word → Result T LoadFail → Type 0
loads view o folder r = IfSome o (λ t. Loads view t folder r)

unless_stages : (t : Told) (folder : Word) (e : LoadFail) → GivesTexts t folder (Err e) → UnlessMemory e (NoFolder t folder e ⊎ ((has_folder t folder ≡ true) × ((names : List Word) × AreConfigNames t folder names × Stages t folder names e)))
unless_stages t folder e h = unless_map e (λ (f : NoFolder t folder e ⊎ ((has_folder t folder ≡ true) × ((names : List Word) × AreConfigNames t folder names × TooMany folder names e))). elim f [
  | inl none ↦ inl none
  | inr many ↦ inr (many.0, (many.1.0, many.1.1, inl many.1.2))
]) h

-- a folder without texts isn't loaded, for the same cause
pub no_texts : {T : Type 0} (view : T → List Loaded) (o : Option Told) (folder : Word) (e : LoadFail) → gives_texts o folder (Err e) → loads view o folder (Err e)
no_texts view None folder e h = tt
no_texts view (Some t) folder e h = unless_stages t folder e h

-- a folder whose texts are loaded, or aren't
pub of_texts : {T : Type 0} (view : T → List Loaded) (o : Option Told) (folder : Word) (texts : Texts) (r : Result T LoadFail) → gives_texts o folder (Ok texts)
    → ((t : Told) (names : List Word) → AreTexts t folder names texts → LoadsNames view t folder names r) → loads view o folder r
of_texts view None folder texts r given load = tt
of_texts view (Some t) folder texts (Ok x) given load = (given.0, (given.1.0, given.1.1, given.1.2, load t given.1.0 given.1.3))
of_texts view (Some t) folder texts (Err e) given load =
    unless_map e (λ (f : FailsAt t folder given.1.0 e). inr (given.0, (given.1.0, given.1.1, inr (given.1.2, f)))) (load t given.1.0 given.1.3)
