-- One step more of the loops over lines and files.
use Rattle.std.proofs.Common.{◌≡◌, ℕ, suc, zero, ◌+◌, ◌-◌, ◌<◌, ◌≤◌, true, false, List, [], ◌∷◌, ◌++◌, length, take, drop, get_or, map, refl, sym, ap, ◌∙◌, arith, append_assoc}
use Rattle.std.specs.Prelude.{Bool, Option, Some, cond, find}
use Rattle.std.proofs.lemmas.List.{at_drop_more, map-append, take_all, take_more}
use Rattle.net_text.specs.Lines.{is_separator}
use Rattle.ios_config.specs.declared.passed.PassedLine.{PassedLine}
use Rattle.doctor_warnings.specs.declared.examined.Examined.{Examined}
use Rattle.doctor_warnings.specs.declared.files.TextFile.{TextFile}
use Rattle.doctor_warnings.specs.declared.told.ToldLine.{ToldLine}
use Rattle.doctor_warnings.specs.Lines.{end_of, start_behind, trimmed}
use Rattle.doctor_warnings.specs.Told.{told_from}
use Rattle.doctor_warnings.specs.declared.warning.Warning.{Warning}
use Rattle.doctor_warnings.specs.Warnings.{first_host, host_in, taken_behind, taken_by}
use Rattle.doctor_warnings.proofs.Trimmed.{cut, kept}

-- ---- a line whose end is cut off

last_of : (xs : List ℕ) → 1 ≤ length xs → xs ≡ take (length xs - 1) xs ++ get_or xs (length xs - 1) 0 ∷ []
last_of xs h = sym (take_all (length xs - 1 + 1) xs (omega (arith, h))) ∙ take_more xs (length xs - 1) 0 (omega (arith, h))

pub cut_more : (xs total : List ℕ) → 1 ≤ length xs → is_separator (get_or xs (length xs - 1) 0) ≡ true → trimmed xs ≡ total → trimmed (take (length xs - 1) xs) ≡ total
cut_more xs total h s t = sym (cut (take (length xs - 1) xs) (get_or xs (length xs - 1) 0) s) ∙ ap trimmed (sym (last_of xs h)) ∙ t

pub cut_ends : (xs total : List ℕ) → 1 ≤ length xs → is_separator (get_or xs (length xs - 1) 0) ≡ false → trimmed xs ≡ total → xs ≡ total
cut_ends xs total h s t = last_of xs h ∙ sym (kept (take (length xs - 1) xs) (get_or xs (length xs - 1) 0) s) ∙ ap trimmed (sym (last_of xs h)) ∙ t

-- ---- lines one after the other

less : (n : ℕ) → suc n - 1 ≡ n
less n = omega arith

pub start_more : (bytes : List ℕ) (left start total : ℕ) → 0 < left → start_behind bytes left start ≡ total → start_behind bytes (left - 1) (end_of bytes start + 1) ≡ total
start_more bytes zero start total h e = absurd (omega (arith, h))
start_more bytes (suc n) start total h e = ap (λ k. start_behind bytes k (end_of bytes start + 1)) (less n) ∙ e

pub told_more : (bytes : List ℕ) (p : PassedLine) (number start left : ℕ) (old new total : List ToldLine) → 0 < left
    → new ≡ old ++ record { number = number; mode = p.mode; under = p.under; start = start } ∷ []
    → old ++ told_from bytes p number start left ≡ total → new ++ told_from bytes p (number + 1) (end_of bytes start + 1) (left - 1) ≡ total
told_more bytes p number start zero old new total h m e = absurd (omega (arith, h))
told_more bytes p number start (suc n) old new total h m e =
    ap (λ k. new ++ told_from bytes p (number + 1) (end_of bytes start + 1) k) (less n)
    ∙ ap (λ ts. ts ++ told_from bytes p (number + 1) (end_of bytes start + 1) n) m
    ∙ append_assoc old (record { number = number; mode = p.mode; under = p.under; start = start } ∷ []) (told_from bytes p (number + 1) (end_of bytes start + 1) n)
    ∙ e

-- ---- the first file that passes a test

next_file : (files : List Examined) (i : ℕ) (e : Examined) → i < length files → e ≡ get_or files i e → map (λ e. e.file) (drop i files) ≡ e.file ∷ map (λ e. e.file) (drop (i + 1) files)
next_file files i e h q = ap (map (λ e. e.file)) (at_drop_more (λ ys. ys) files i e h ∙ ap (λ z. z ∷ drop (i + 1) files) (sym q))

module _ (p : TextFile → Bool) (files : List Examined) (i : ℕ) (e : Examined) (total : Option TextFile) (low : i < length files) (is : e ≡ get_or files i e) where
  pub found_here : p e.file ≡ true → find p (map (λ e. e.file) (drop i files)) ≡ total → Some e.file ≡ total
  found_here t s = sym (ap (λ b. cond b (Some e.file) (find p (map (λ e. e.file) (drop (i + 1) files)))) t) ∙ sym (ap (find p) (next_file files i e low is)) ∙ s

  pub found_later : p e.file ≡ false → find p (map (λ e. e.file) (drop i files)) ≡ total → find p (map (λ e. e.file) (drop (i + 1) files)) ≡ total
  found_later t s = sym (ap (λ b. cond b (Some e.file) (find p (map (λ e. e.file) (drop (i + 1) files)))) t) ∙ sym (ap (find p) (next_file files i e low is)) ∙ s

-- ---- the hostnames of files

taken_next : (folder : List ℕ) (before : List TextFile) (f : TextFile) (fs : List TextFile)
    → taken_by folder f (first_host before (host_in f)) ++ taken_behind folder (before ++ f ∷ []) fs ≡ taken_behind folder before (f ∷ fs)
taken_next folder before f fs = refl

pub taken_more : (folder : List ℕ) (files : List Examined) (i : ℕ) (e : Examined) (old new total : List Warning) → i < length files → e ≡ get_or files i e
    → new ≡ old ++ taken_by folder e.file (first_host (map (λ e. e.file) (take i files)) (host_in e.file))
    → old ++ taken_behind folder (map (λ e. e.file) (take i files)) (map (λ e. e.file) (drop i files)) ≡ total
    → new ++ taken_behind folder (map (λ e. e.file) (take (i + 1) files)) (map (λ e. e.file) (drop (i + 1) files)) ≡ total
taken_more folder files i e old new total low is more h =
    let file = λ (x : Examined). x.file in
    let before = map file (take i files) in
    let after = map file (drop (i + 1) files) in
    let told = taken_by folder e.file (first_host before (host_in e.file)) in
    let longer : map file (take (i + 1) files) ≡ before ++ e.file ∷ [] =
    ap (map file) (take_more files i e low ∙ ap (λ y. take i files ++ y ∷ []) (sym is)) ∙ map-append file (take i files) (e ∷ []) in
    ap (λ l. l ++ taken_behind folder (map file (take (i + 1) files)) after) more
    ∙ append_assoc old told (taken_behind folder (map file (take (i + 1) files)) after)
    ∙ ap (λ b. old ++ (told ++ taken_behind folder b after)) longer
    ∙ ap (λ l. old ++ l) (taken_next folder before e.file after)
    ∙ ap (λ l. old ++ taken_behind folder before l) (sym (next_file files i e low is))
    ∙ h
