-- The names that are cut out of distinct paths are a folder's listing.
use Rattle.std.proofs.Common.{◌≡◌, ◌↔◌, ℕ, zero, suc, List, [], ◌∷◌, ◌++◌, true, false, cond, Option, Some, None, Result, Ok, Err, length, take, drop, refl, sym, ap, subst, ◌∙◌, arith, inl, inr, IsSome, map, option_map, ◌==◌, not}
use Rattle.std.specs.Prelude.{find, filter_map, Contains, option_and_then, OnOk, OnErr, nat_eq}
use Rattle.std.specs.List.{IsDistinct, AllByRecursion, cons_option, list_any, starts_with}
use Rattle.std.specs.Str.{bytes_eq}
use Rattle.std.proofs.lemmas.List.{take-append-drop}
use Rattle.std.proofs.lemmas.List.Elements.{Contains-append_cases}
use Rattle.std.proofs.lemmas.Grind.{common_steps}
use Rattle.std.proofs.lemmas.Map.Made.{AllPairs-from_IsDistinct}
use Rattle.std.proofs.lemmas.Slice.Eq.{bytes_eq-Decides}
use Rattle.net_io.specs.Files.{Told, is_name, path_in, slash, IsNameIn, IsListing}
use Rattle.net_io.specs.Names.{after_folder, after_slash, plain_name, name_in, names_in}
use Rattle.net_io.specs.Store.{with_file}

-- ---- one name

-- what stands after the folder is the rest of the path
after_folder-some : (folder path rest : List ℕ) → after_folder folder path ≡ Some rest → path ≡ folder ++ rest
after_folder-some folder path rest h =
    (elim (starts_with nat_eq path folder) as (λ b. starts_with nat_eq path folder ≡ b → cond b (Some (drop (length folder) path)) None ≡ Some rest → path ≡ folder ++ rest) [
      | true ↦ λ e g. (let same : folder ≡ take (length folder) path = (bytes_eq-Decides folder (take (length folder) path)).0 e in
          let left : drop (length folder) path ≡ rest = cc in
          cc (take-append-drop (length folder) path))
      | false ↦ λ e g. cc
    ]) refl h

after_folder-append : (folder rest : List ℕ) → after_folder folder (folder ++ rest) ≡ Some rest
after_folder-append folder rest =
    let front : folder ≡ take (length folder) (folder ++ rest) = grind (arith, common_steps) in
    let back : drop (length folder) (folder ++ rest) ≡ rest = grind (arith, common_steps) in
    let starts : starts_with nat_eq (folder ++ rest) folder ≡ true = (bytes_eq-Decides folder (take (length folder) (folder ++ rest))).1 front in
    ap (λ b. cond b (Some (drop (length folder) (folder ++ rest))) None) starts ∙ ap Some back

after_slash-some : (rest name : List ℕ) → after_slash rest ≡ Some name → rest ≡ slash ∷ name
after_slash-some [] name h = cc
after_slash-some (c ∷ cs) name h =
    (elim (c == slash) as (λ b. (c == slash) ≡ b → cond b (Some cs) None ≡ Some name → c ∷ cs ≡ slash ∷ name) [
      | true ↦ λ e g. (let same : c ≡ slash = grind (arith, common_steps) in let left : cs ≡ name = cc in cc)
      | false ↦ λ e g. cc
    ]) refl h

-- it is itself, and has no '/'
plain_name-some : (rest name : List ℕ) → plain_name rest ≡ Some name → (rest ≡ name) × (is_name name ≡ true)
plain_name-some rest name h =
    (elim (list_any (λ c. c == slash) rest) as (λ b. list_any (λ c. c == slash) rest ≡ b → cond b None (Some rest) ≡ Some name → (rest ≡ name) × (is_name name ≡ true)) [
      | true ↦ λ e g. cc
      | false ↦ λ e g. (let same : rest ≡ name = cc in (same, subst (λ xs. is_name xs ≡ true) same (ap not e)))
    ]) refl h

plain_name-of : (name : List ℕ) → is_name name ≡ true → plain_name name ≡ Some name
plain_name-of name h =
    (elim (list_any (λ c. c == slash) name) as (λ b. not b ≡ true → cond b None (Some name) ≡ Some name) [
      | true ↦ λ e. cc
      | false ↦ λ e. refl
    ]) h

-- the path of a name that was cut out
pub name_in-some : (folder path name : List ℕ) → name_in folder path ≡ Some name → (path ≡ path_in folder name) × (is_name name ≡ true)
name_in-some folder path name h =
    (elim (after_folder folder path) as (λ o. after_folder folder path ≡ o → option_and_then plain_name (option_and_then after_slash o) ≡ Some name → (path ≡ path_in folder name) × (is_name name ≡ true)) [
      | None ↦ λ e g. cc
      | Some rest ↦ λ e g. (elim (after_slash rest) as (λ o. after_slash rest ≡ o → option_and_then plain_name o ≡ Some name → (path ≡ path_in folder name) × (is_name name ≡ true)) [
        | None ↦ λ f k. cc
        | Some last ↦ λ f k. (let plain = plain_name-some last name k in
            (after_folder-some folder path rest e ∙ ap (λ xs. folder ++ xs) (after_slash-some rest last f ∙ ap (λ xs. slash ∷ xs) plain.0), plain.1))
      ]) refl g
    ]) refl h

-- the name of a path in the folder
pub name_in-path_in : (folder name : List ℕ) → is_name name ≡ true → name_in folder (path_in folder name) ≡ Some name
name_in-path_in folder name h =
    ap (λ o. option_and_then plain_name (option_and_then after_slash o)) (after_folder-append folder (slash ∷ name)) ∙ plain_name-of name h

-- ---- all names

here : {A : Type 0} (x : A) (xs : List A) → Contains (x ∷ xs) x
here x xs = (zero, omega arith, refl)

there : {A : Type 0} (x z : A) (xs : List A) → Contains xs z → Contains (x ∷ xs) z
there x z xs h = (suc h.0, omega (arith, h.1), h.2)

module _ {A B : Type 0} where
  in_filter_map : (f : A → Option B) (xs : List A) (y : B) → Contains (filter_map f xs) y → (x : A) × Contains xs x × (f x ≡ Some y)
  in_filter_map f [] y h = absurd (omega (arith, h.1))
  in_filter_map f (x ∷ xs) y h =
      (elim (f x) as (λ o. f x ≡ o → Contains (cons_option o (filter_map f xs)) y → (z : A) × Contains (x ∷ xs) z × (f z ≡ Some y)) [
        | None ↦ λ e g. let i = in_filter_map f xs y g in (i.0, there x i.0 xs i.1, i.2)
        | Some v ↦ λ e g. elim (Contains-append_cases (v ∷ []) (filter_map f xs) y g) [
          | inl c ↦ (x, here x xs, e ∙ ap Some (only v y c))
          | inr c ↦ let i = in_filter_map f xs y c in (i.0, there x i.0 xs i.1, i.2)
        ]
      ]) refl h
    where
      only : (v y : B) → Contains (v ∷ []) y → v ≡ y
      only v y (zero, l, e) = e
      only v y (suc k, l, e) = absurd (omega (arith, l))

  to_filter_map : (f : A → Option B) (xs : List A) (x : A) (y : B) → Contains xs x → f x ≡ Some y → Contains (filter_map f xs) y
  to_filter_map f [] x y h g = absurd (omega (arith, h.1))
  to_filter_map f (z ∷ xs) x y (zero, l, e) g =
      let same : f z ≡ Some y = ap f e ∙ g in
      subst (λ o. Contains (cons_option o (filter_map f xs)) y) (sym same) (here y (filter_map f xs))
  to_filter_map f (z ∷ xs) x y (suc k, l, e) g =
      let rest : Contains (filter_map f xs) y = to_filter_map f xs x y (k, omega (arith, l), e) g in
      elim (f z) as (λ o. Contains (cons_option o (filter_map f xs)) y) [
        | None ↦ rest
        | Some v ↦ there v y (filter_map f xs) rest
      ]

-- a path of the map has bytes
listed-content : (files : List (List ℕ × List ℕ)) (path : List ℕ) → Contains (map (λ file. file.0) files) path → IsSome (option_map (λ file. file.1) (find (λ file. bytes_eq file.0 path) files))
listed-content [] path h = absurd (omega (arith, h.1))
listed-content (file ∷ files) path (zero, l, e) = rw ((bytes_eq-Decides file.0 path).1 e) refl
listed-content (file ∷ files) path (suc k, l, e) =
    elim (bytes_eq file.0 path) as (λ b. IsSome (option_map (λ f. f.1) (cond b (Some file) (find (λ f. bytes_eq f.0 path) files)))) [
      | true ↦ refl
      | false ↦ listed-content files path (k, omega (arith, l), e)
    ]

content-listed : (files : List (List ℕ × List ℕ)) (path : List ℕ) → IsSome (option_map (λ file. file.1) (find (λ file. bytes_eq file.0 path) files)) → Contains (map (λ file. file.0) files) path
content-listed [] path h = cc
content-listed (file ∷ files) path h =
    (elim (bytes_eq file.0 path) as (λ b. bytes_eq file.0 path ≡ b → IsSome (option_map (λ f. f.1) (cond b (Some file) (find (λ f. bytes_eq f.0 path) files))) → Contains (file.0 ∷ map (λ f. f.0) files) path) [
      | true ↦ λ e g. (zero, omega arith, (bytes_eq-Decides file.0 path).0 e)
      | false ↦ λ e g. there file.0 path (map (λ f. f.0) files) (content-listed files path g)
    ]) refl h

-- the names that are cut out of the map's paths are exactly those of the folder
pub names_in-Contains : (t : Told) (folder name : List ℕ) → Contains (names_in t folder) name ↔ IsNameIn t folder name
names_in-Contains t folder name = (
  λ h. (let i = in_filter_map (name_in folder) (map (λ file. file.0) t.files) name h in
      let cut = name_in-some folder i.0 name i.2 in
      record { plain = cut.1; there = listed-content t.files (path_in folder name) (subst (λ path. Contains (map (λ file. file.0) t.files) path) cut.0 i.1) }),
  λ h. to_filter_map (name_in folder) (map (λ file. file.0) t.files) (path_in folder name) name
      (content-listed t.files (path_in folder name) h.there) (name_in-path_in folder name h.plain),
)

-- ---- once

-- names of different paths differ
names_apart : (folder p q n m : List ℕ) → name_in folder p ≡ Some n → name_in folder q ≡ Some m → bytes_eq p q ≡ false → bytes_eq n m ≡ false
names_apart folder p q n m e f d =
    (elim (bytes_eq n m) as (λ b. bytes_eq n m ≡ b → b ≡ false) [
      | true ↦ λ g. (let same : n ≡ m = (bytes_eq-Decides n m).0 g in
          let paths : p ≡ q = (name_in-some folder p n e).0 ∙ ap (path_in folder) same ∙ sym (name_in-some folder q m f).0 in
          let equal : bytes_eq p q ≡ true = (bytes_eq-Decides p q).1 paths in cc)
      | false ↦ λ g. refl
    ]) refl

all_apart : (folder p n : List ℕ) (ps : List (List ℕ)) → name_in folder p ≡ Some n → AllByRecursion (λ q. bytes_eq p q ≡ false) ps → AllByRecursion (λ m. bytes_eq n m ≡ false) (filter_map (name_in folder) ps)
all_apart folder p n [] e d = tt
all_apart folder p n (q ∷ ps) e d =
    (elim (name_in folder q) as (λ o. name_in folder q ≡ o → AllByRecursion (λ m. bytes_eq n m ≡ false) (cons_option o (filter_map (name_in folder) ps))) [
      | None ↦ λ f. all_apart folder p n ps e d.1
      | Some m ↦ λ f. (names_apart folder p q n m e f d.0, all_apart folder p n ps e d.1)
    ]) refl

names_distinct : (folder : List ℕ) (ps : List (List ℕ)) → IsDistinct bytes_eq ps → IsDistinct bytes_eq (filter_map (name_in folder) ps)
unfolding IsDistinct
names_distinct folder [] d = tt
names_distinct folder (p ∷ ps) d =
    (elim (name_in folder p) as (λ o. name_in folder p ≡ o → IsDistinct bytes_eq (cons_option o (filter_map (name_in folder) ps))) [
      | None ↦ λ e. names_distinct folder ps d.1
      | Some n ↦ λ e. (all_apart folder p n ps e d.0, names_distinct folder ps d.1)
    ]) refl

-- where no path is there twice, the names are a listing
pub names_in-IsListing : (t : Told) (folder : List ℕ) → IsDistinct bytes_eq (map (λ file. file.0) t.files) → IsListing t folder (names_in t folder)
names_in-IsListing t folder d = record {
  once = AllPairs-from_IsDistinct bytes_eq-Decides (names_in t folder) (names_distinct folder (map (λ file. file.0) t.files) d);
  all = names_in-Contains t folder;
}

-- so are names that were cut out of the entries of a map
pub entries-IsListing : (t : Told) (files : List (List ℕ × List ℕ)) (folder : List ℕ) (names : List (List ℕ)) → files ≡ t.files → names ≡ filter_map (name_in folder) (map (λ file. file.0) files) → IsDistinct bytes_eq (map (λ file. file.0) files) → IsListing t folder names
entries-IsListing t files folder names e n d =
    let cut : names ≡ names_in t folder = n ∙ ap (λ fs. filter_map (name_in folder) (map (λ file. file.0) fs)) e in
    let distinct = subst (λ (fs : List (List ℕ × List ℕ)). IsDistinct bytes_eq (map (λ file. file.0) fs)) e d in
    subst (λ (ns : List (List ℕ)). IsListing t folder ns) (sym cut) (names_in-IsListing t folder distinct)

-- ---- a file put

All-with_file : (P : List ℕ → Type 0) (path bytes : List ℕ) (files : List (List ℕ × List ℕ)) → P path → AllByRecursion P (map (λ file. file.0) files) → AllByRecursion P (map (λ file. file.0) (with_file path bytes files))
All-with_file P path bytes [] p h = (p, tt)
All-with_file P path bytes (file ∷ files) p h =
    elim (bytes_eq file.0 path) as (λ b. AllByRecursion P (map (λ f. f.0) (cond b ((path, bytes) ∷ files) (file ∷ with_file path bytes files)))) [
      | true ↦ (p, h.1)
      | false ↦ (h.0, All-with_file P path bytes files p h.1)
    ]

with_file-distinct : (path bytes : List ℕ) (files : List (List ℕ × List ℕ)) → IsDistinct bytes_eq (map (λ file. file.0) files) → IsDistinct bytes_eq (map (λ file. file.0) (with_file path bytes files))
unfolding IsDistinct
with_file-distinct path bytes [] d = (tt, tt)
with_file-distinct path bytes (file ∷ files) d =
    (elim (bytes_eq file.0 path) as (λ b. bytes_eq file.0 path ≡ b → IsDistinct bytes_eq (map (λ f. f.0) (cond b ((path, bytes) ∷ files) (file ∷ with_file path bytes files)))) [
      | true ↦ λ e. (subst (λ z. AllByRecursion (λ y. bytes_eq z y ≡ false) (map (λ f. f.0) files)) ((bytes_eq-Decides file.0 path).0 e) d.0, d.1)
      | false ↦ λ e. (All-with_file (λ y. bytes_eq file.0 y ≡ false) path bytes files e d.0, with_file-distinct path bytes files d.1)
    ]) refl

-- the paths stay distinct, whether the file was put or not
pub put_distinct : {E : Type 0} (r : Result (Unit {0}) E) (path bytes : List ℕ) (old new : List (List ℕ × List ℕ)) → OnOk r (new ≡ with_file path bytes old) → OnErr r (new ≡ old) → IsDistinct bytes_eq (map (λ file. file.0) old) → IsDistinct bytes_eq (map (λ file. file.0) new)
put_distinct (Ok _) path bytes old new put err d = rw put (with_file-distinct path bytes old d)
put_distinct (Err _) path bytes old new put err d = rw err d

pub no_paths : (paths : List (List ℕ)) → paths ≡ [] → IsDistinct bytes_eq paths
unfolding IsDistinct
no_paths paths e = rw e tt
