-- A folder has one answer.
use Rattle.std.proofs.Common.{◌≡◌, inl, inr, ℕ, ◌+◌, ◌≤◌, true, false, List, [], ◌∷◌, ◌++◌, length, map, refl, sym, ap, subst, ◌∙◌, arith}
use Rattle.std.specs.Prelude.{Option, Some, None, Ok, Err, IsSomeAnd, unwrap_or, find}
use Rattle.std.specs.List.{AllZip, IsDistinct, AllByRecursion}
use Rattle.std.specs.Str.{bytes_eq}
use Rattle.std.specs.Cmp.Lexicographic.{nat_list_eq_equiv}
use Rattle.std.proofs.lemmas.List.Sums.{sum_by-append, sum_by-cons}
use Rattle.net_types.specs.declared.config.Config.{Config}
use Rattle.net_types.specs.declared.config.Loaded.{Loaded}
use Rattle.net_types.proofs.Ordered.{is_in_order}
use Rattle.net_io.specs.Limits.{file_limit}
use Rattle.net_io.specs.Files.{Told, has_folder, path_in}
use Rattle.ios_config.specs.Reads.{Reads}
use Rattle.topo_links.specs.Ends.{Word}
use Rattle.topo_links.specs.Names.{name_cmp}
use Rattle.topo_links.specs.Check.{host_of}
use Rattle.topo_links.proofs.NameOrder.{name_total, name_exact}
use Rattle.net_load.specs.Limits.{files_limit, folder_limit}
use Rattle.net_load.specs.declared.folder.LoadFail.{LoadFail}
use Rattle.net_load.specs.declared.folder.LoadFail.TheVariants as fail
use Rattle.net_load.specs.Folder.{AreConfigNames, IsRead, AreLoaded, file_at, size_at, total, Unless, UnlessMemory, UnlessFault, BytesFail, ContentFails, FailsAt, NoFolder, TooMany, Stages, Loads}

-- the names of a folder's configurations are one list
pub names_once : (t : Told) (folder : Word) (ns ms : List Word) → AreConfigNames t folder ns → AreConfigNames t folder ms → ns ≡ ms
names_once t folder ns ms a b =
    is_in_order name_cmp name_total name_exact ms ns a.order (λ q. (λ h. (b.all q).1 ((a.all q).0 h), λ h. (a.all q).1 ((b.all q).0 h)))
    ∙ sym (is_in_order name_cmp name_total name_exact ms ms b.order (λ q. (λ h. h, λ h. h)))

-- a text is read as one configuration
read_once : (o : Option (List ℕ)) (l m : Loaded) → IsSomeAnd o (λ bytes. Reads bytes l.config l.passed) → IsSomeAnd o (λ bytes. Reads bytes m.config m.passed) → (l.config ≡ m.config) × (l.passed ≡ m.passed)
read_once None l m r s = absurd r
read_once (Some bytes) l m r s = (r.config ∙ sym s.config, r.passed ∙ sym s.passed)

loaded : Word → Config → ℕ → Loaded
loaded file config passed = record { file = file; config = config; passed = passed }

file_once : (t : Told) (folder name : Word) (l m : Loaded) → IsRead t folder name l → IsRead t folder name m → l ≡ m
unfolding loaded
file_once t folder name l m a b =
    let same = read_once (file_at t folder name) l m a.read b.read in
    ap (λ f. loaded f l.config l.passed) (a.file ∙ sym b.file) ∙ ap (λ c. loaded m.file c l.passed) same.0 ∙ ap (λ n. loaded m.file m.config n) same.1

module _ {A B : Type 0} (R : A → B → Type 0) (once : (x : A) (y z : B) → R x y → R x z → y ≡ z) where
  zip_once : (xs : List A) (ys zs : List B) → AllZip R xs ys → AllZip R xs zs → ys ≡ zs
  zip_once [] [] [] h k = refl
  zip_once [] [] (z ∷ zs) h k = absurd k
  zip_once [] (y ∷ ys) zs h k = absurd h
  zip_once (x ∷ xs) [] zs h k = absurd h
  zip_once (x ∷ xs) (y ∷ ys) [] h k = absurd k
  zip_once (x ∷ xs) (y ∷ ys) (z ∷ zs) h k = ap (λ w. w ∷ ys) (once x y z h.0 k.0) ∙ ap (λ ws. z ∷ ws) (zip_once xs ys zs h.1 k.1)

  -- what stands beside the first names, beside the next one, and after it
  zip_split : (before : List A) (x : A) (after : List A) (zs ys : List B) → AllZip R before zs → AllZip R (before ++ x ∷ after) ys → (y : B) × (rest : List B) × (ys ≡ zs ++ y ∷ rest) × R x y
  zip_split [] x after [] [] h k = absurd k
  zip_split [] x after [] (y ∷ ys) h k = (y, ys, refl, k.0)
  zip_split [] x after (z ∷ zs) ys h k = absurd h
  zip_split (w ∷ before) x after [] ys h k = absurd h
  zip_split (w ∷ before) x after (z ∷ zs) [] h k = absurd k
  zip_split (w ∷ before) x after (z ∷ zs) (y ∷ ys) h k =
      let more = zip_split before x after zs ys h.1 k.1 in
      (more.0, more.1, ap (λ v. v ∷ ys) (once w y z k.0 h.0) ∙ ap (λ vs. z ∷ vs) more.2, more.3)

-- ---- what is loaded has no cause to stop

later : (P : Word → Type 0) (zs : List Loaded) (y : Loaded) (rest : List Loaded) → AllByRecursion P (map host_of (zs ++ y ∷ rest)) → P (host_of y)
later P [] y rest h = h.0
later P (z ∷ zs) y rest h = later P zs y rest h.1

none_taken : (zs : List Loaded) (y : Loaded) (rest : List Loaded) → IsDistinct bytes_eq (map host_of (zs ++ y ∷ rest)) → find (λ o. bytes_eq (host_of y) (host_of o)) zs ≡ None
unfolding IsDistinct
none_taken [] y rest d = refl
none_taken (z ∷ zs) y rest d =
    let other : bytes_eq (host_of y) (host_of z) ≡ false = nat_list_eq_equiv.symm (host_of y) (host_of z) ∙ later (λ n. bytes_eq (host_of z) n ≡ false) zs y rest d.0 in
    rw other (none_taken zs y rest d.1)

none_some : {A : Type 0} (o : Option A) (x : A) → o ≡ None → o ≡ Some x → ⊥
none_some o x a b = cc

no_bytes_fail : (folder path : Word) (sum : ℕ) (ls : List Loaded) (y : Loaded) (bytes : List ℕ) (e : LoadFail) → Reads bytes y.config y.passed → length bytes ≤ file_limit → sum + length bytes ≤ folder_limit → find (λ o. bytes_eq (host_of y) (host_of o)) ls ≡ None → BytesFail folder path sum ls bytes e → Unless e ⊥
no_bytes_fail folder path sum ls y bytes (fail.Fault p) r small fits free h = tt
no_bytes_fail folder path sum ls y bytes fail.NoMemory r small fits free h = tt
no_bytes_fail folder path sum ls y bytes (fail.Absent p) r small fits free h = h
no_bytes_fail folder path sum ls y bytes (fail.TooManyFiles p) r small fits free h = h
no_bytes_fail folder path sum ls y bytes (fail.TooLong p) r small fits free h = let long = h.1 in absurd (omega arith)
no_bytes_fail folder path sum ls y bytes (fail.FolderTooLong p) r small fits free h = let long = h.2 in absurd (omega arith)
no_bytes_fail folder path sum ls y bytes (fail.Refused p q) r small fits free h = none_some _ q r.accepted h.2
no_bytes_fail folder path sum ls y bytes (fail.HostnameTaken first second) r small fits free h =
    let l = h.2.0 in
    let same : l.config ≡ y.config = h.2.1.config ∙ sym r.config in
    let taken = h.2.2 in
    none_some _ taken.0 free (subst (λ (c : Config). find (λ o. bytes_eq c.hostname (host_of o)) ls ≡ Some taken.0) same taken.1)

no_content_fail : (folder path : Word) (sum : ℕ) (ls : List Loaded) (y : Loaded) (o : Option (List ℕ)) (e : LoadFail) → IsSomeAnd o (λ bytes. Reads bytes y.config y.passed) → length (unwrap_or o []) ≤ file_limit → sum + length (unwrap_or o []) ≤ folder_limit → find (λ o. bytes_eq (host_of y) (host_of o)) ls ≡ None → ContentFails folder path sum ls o e → Unless e ⊥
no_content_fail folder path sum ls y None e r small fits free h = absurd r
no_content_fail folder path sum ls y (Some bytes) e r small fits free h = no_bytes_fail folder path sum ls y bytes e r small fits free h

but_for_fault : (e : LoadFail) (path : Word) {A : Type 0} → (A → Unless e ⊥) → UnlessFault e path A → Unless e ⊥
but_for_fault (fail.Fault p) path f h = tt
but_for_fault fail.NoMemory path f h = tt
but_for_fault (fail.Absent p) path f h = f h
but_for_fault (fail.TooLong p) path f h = f h
but_for_fault (fail.TooManyFiles p) path f h = f h
but_for_fault (fail.FolderTooLong p) path f h = f h
but_for_fault (fail.Refused p r) path f h = f h
but_for_fault (fail.HostnameTaken p q) path f h = f h

no_fails_at : (t : Told) (folder : Word) (names : List Word) (xs : List Loaded) (e : LoadFail) → AreLoaded t folder names xs → FailsAt t folder names e → Unless e ⊥
no_fails_at t folder names xs e done f =
    let parts = zip_split (IsRead t folder) (file_once t folder) f.before f.name f.after f.loaded xs f.done.each (subst (λ (ns : List Word). AllZip (IsRead t folder) ns xs) f.split done.each) in
    let y = parts.0 in
    let distinct : IsDistinct bytes_eq (map host_of (f.loaded ++ y ∷ parts.1)) = subst (λ (ls : List Loaded). IsDistinct bytes_eq (map host_of ls)) parts.2 done.hosts in
    let sums : total t folder names ≡ total t folder f.before + (size_at t folder f.name + total t folder f.after) =
    ap (total t folder) f.split ∙ sum_by-append (size_at t folder) f.before (f.name ∷ f.after) ∙ ap (λ n. total t folder f.before + n) (sum_by-cons (size_at t folder) f.name f.after) in
    but_for_fault e (path_in folder f.name) (no_content_fail folder (path_in folder f.name) (total t folder f.before) f.loaded y (file_at t folder f.name) e parts.3.read parts.3.size (omega (arith, done.size, sums)) (none_taken f.loaded y parts.1 distinct)) f.cause

no_folder : (t : Told) (folder : Word) (e : LoadFail) → has_folder t folder ≡ true → NoFolder t folder e → Unless e ⊥
no_folder t folder (fail.Fault p) is h = tt
no_folder t folder fail.NoMemory is h = tt
no_folder t folder (fail.Absent p) is h = let no = h.1 in absurd (cc)
no_folder t folder (fail.TooLong p) is h = h
no_folder t folder (fail.TooManyFiles p) is h = h
no_folder t folder (fail.FolderTooLong p) is h = h
no_folder t folder (fail.Refused p r) is h = h
no_folder t folder (fail.HostnameTaken p q) is h = h

not_too_many : (folder : Word) (names : List Word) (e : LoadFail) → length names ≤ files_limit → TooMany folder names e → Unless e ⊥
not_too_many folder names (fail.Fault p) few h = tt
not_too_many folder names fail.NoMemory few h = tt
not_too_many folder names (fail.TooManyFiles p) few h = let many = h.1 in absurd (omega arith)
not_too_many folder names (fail.Absent p) few h = h
not_too_many folder names (fail.TooLong p) few h = h
not_too_many folder names (fail.FolderTooLong p) few h = h
not_too_many folder names (fail.Refused p r) few h = h
not_too_many folder names (fail.HostnameTaken p q) few h = h

unless_once : {A : Type 0} (e : LoadFail) → UnlessMemory e A → (A → Unless e ⊥) → Unless e ⊥
unless_once (fail.Fault p) h f = tt
unless_once fail.NoMemory h f = tt
unless_once (fail.Absent p) h f = f h
unless_once (fail.TooLong p) h f = f h
unless_once (fail.TooManyFiles p) h f = f h
unless_once (fail.FolderTooLong p) h f = f h
unless_once (fail.Refused p r) h f = f h
unless_once (fail.HostnameTaken p q) h f = f h

no_stage : (t : Told) (folder : Word) (names : List Word) (xs : List Loaded) (e : LoadFail) → length names ≤ files_limit → AreLoaded t folder names xs → Stages t folder names e → Unless e ⊥
no_stage t folder names xs e few done (inl many) = not_too_many folder names e few many
no_stage t folder names xs e few done (inr stage) = no_fails_at t folder names xs e done stage.1

pub loaded_is_free : (t : Told) (folder : Word) (xs : List Loaded) (e : LoadFail) → Loads (λ devices. devices) t folder (Ok xs) → Loads (λ devices. devices) t folder (Err e) → Unless e ⊥
loaded_is_free t folder xs e (there, (names, are, few, done)) h = unless_once e h (λ k. elim k [
  | inl none ↦ no_folder t folder e there none
  | inr some ↦ no_stage t folder names xs e few done (subst (λ (ns : List Word). Stages t folder ns e) (names_once t folder some.1.0 names some.1.1 are) some.1.2)
])

pub loads_once : (t : Told) (folder : Word) (xs ys : List Loaded) → Loads (λ devices. devices) t folder (Ok xs) → Loads (λ devices. devices) t folder (Ok ys) → xs ≡ ys
loads_once t folder xs ys (there, (names, are, few, done)) (there', (names', are', few', done')) =
    zip_once (IsRead t folder) (file_once t folder) names xs ys done.each (subst (λ (ns : List Word). AllZip (IsRead t folder) ns ys) (names_once t folder names' names are' are) done'.each)
