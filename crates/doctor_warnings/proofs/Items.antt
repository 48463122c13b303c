-- One item more of a list that is gone through.
use Rattle.std.proofs.Common.{◌≡◌, ℕ, ◌+◌, ◌<◌, List, [], ◌∷◌, ◌++◌, length, take, get_or, map, sym, ap, ◌∙◌}
use Rattle.std.specs.Prelude.{Option, filter_map, option_to_list}
use Rattle.std.specs.List.{flat_map}
use Rattle.std.proofs.lemmas.List.{flat_map_more, map-append, take_more}
use Rattle.ios_lines.proofs.Steps.{filter_map_more}
use Rattle.doctor_warnings.specs.declared.examined.Examined.{Examined}
use Rattle.doctor_warnings.specs.declared.files.TextFile.{TextFile}
use Rattle.doctor_warnings.specs.declared.warning.Warning.{Warning}

pub push_option : {A B : Type 0} (f : A → Option B) (xs : List A) (i : ℕ) (x : A) → i < length xs → x ≡ get_or xs i x
    → filter_map f (take i xs) ++ option_to_list (f x) ≡ filter_map f (take (i + 1) xs)
push_option f xs i x low is =
    sym (ap (filter_map f) (take_more xs i x low ∙ ap (λ y. take i xs ++ y ∷ []) (sym is)) ∙ filter_map_more f (take i xs) x)

pub files_more : (told : TextFile → List Warning) (before : List Warning) (files : List Examined) (i : ℕ) (e : Examined) → i < length files → e ≡ get_or files i e
    → (before ++ flat_map told (map (λ e. e.file) (take i files))) ++ told e.file ≡ before ++ flat_map told (map (λ e. e.file) (take (i + 1) files))
files_more told before files i e low is =
    let file = λ (x : Examined). x.file in
    flat_map_more told before (map file (take i files)) e.file
    ∙ ap (λ l. before ++ flat_map told l) (sym (ap (map file) (take_more files i e low ∙ ap (λ y. take i files ++ y ∷ []) (sym is)) ∙ map-append file (take i files) (e ∷ [])))
