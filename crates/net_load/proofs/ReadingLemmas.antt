-- What is known of texts, by their positions.
use Rattle.std.proofs.Common.{ℕ, zero, suc, ◌≡◌, ◌≢◌, ◌<◌, inl, inr, List, [], ◌∷◌, ◌++◌, All, length, get_or, slice_get, slice_set, Option, Some, refl, ap, sym, ◌∙◌, subst, arith}
use Rattle.std.specs.Prelude.{Result, None, IfSome}
use Rattle.std.proofs.lemmas.Bool.Decides.{eqb_tells}
use Rattle.std.proofs.lemmas.Option.{slice_get_within, get_or_from_slice_get}
use Rattle.std.proofs.lemmas.List.{length-append}
use Rattle.std.proofs.lemmas.List.Elements.{All-append}
use Rattle.ios_config.specs.declared.reader.Reading.{Reading}
use Rattle.net_load.specs.declared.folder.LoadFail.{LoadFail}
use Rattle.net_load.specs.declared.texts.FileText.{FileText}
use Rattle.net_load.specs.declared.readings.ReadAt.{ReadAt}
use Rattle.net_load.specs.Texts.{AreReadings, IsReadAt, ReadsText}

get_set_same : {A : Type 0} (xs : List A) (i : ℕ) (v : A) → i < length xs → slice_get (slice_set xs i v) i ≡ Some v
get_set_same [] i v l = absurd (omega arith)
get_set_same (x ∷ xs) zero v l = refl
get_set_same (x ∷ xs) (suc i) v l = get_set_same xs i v (omega arith)

get_set_other : {A : Type 0} (xs : List A) (i j : ℕ) (v : A) → i ≢ j → slice_get (slice_set xs i v) j ≡ slice_get xs j
get_set_other [] i j v n = refl
get_set_other (x ∷ xs) zero zero v n = absurd (n refl)
get_set_other (x ∷ xs) zero (suc j) v n = refl
get_set_other (x ∷ xs) (suc i) zero v n = refl
get_set_other (x ∷ xs) (suc i) (suc j) v n = get_set_other xs i j v (λ e. n (ap suc e))

same_reading : (r q : Result Reading LoadFail) → Some (Some r) ≡ Some (Some q) → r ≡ q
same_reading r q e = cc

pub same_text : (x y : FileText) → Some x ≡ Some y → x ≡ y
same_text x y e = cc

-- what the text at one position is read as is known, too
pub reading_more : (texts : List FileText) (known : List (Option (Result Reading LoadFail))) (r : ReadAt) → r.at < length known
    → IsReadAt texts r → AreReadings texts known → AreReadings texts (slice_set known r.at (Some r.reading))
reading_more texts known r within right before n x q there found =
    elim (eqb_tells r.at n) [
      | inl e ↦
          let here : slice_get (slice_set known r.at (Some r.reading)) n ≡ Some (Some r.reading) = sym (ap (slice_get (slice_set known r.at (Some r.reading))) e.1) ∙ get_set_same known r.at (Some r.reading) within in
          subst (λ (k : Result Reading LoadFail). ReadsText x k) (same_reading r.reading q (sym here ∙ found)) (right x (ap (slice_get texts) e.1 ∙ there))
      | inr e ↦ before n x q there (sym (get_set_other known r.at n (Some r.reading) e.1) ∙ found)
    ]

-- ---- all items of a list from which the last one is taken

last_of : {A : Type 0} (xs : List A) (x d : A) → get_or (xs ++ x ∷ []) (length xs) d ≡ x
last_of [] x d = refl
last_of (y ∷ xs) x d = last_of xs x d

before_last : {A : Type 0} (xs : List A) (x d : A) (k : ℕ) → k < length xs → get_or (xs ++ x ∷ []) k d ≡ get_or xs k d
before_last [] x d k l = absurd (omega arith)
before_last (y ∷ xs) x d zero l = refl
before_last (y ∷ xs) x d (suc k) l = before_last xs x d k (omega arith)

pub last_item : {A : Type 0} (P : A → Type 0) (all rest : List A) (x : A) → all ≡ rest ++ x ∷ [] → All P all → P x
last_item P all rest x e h =
    let a = subst (All P) e h in
    let l = length-append rest (x ∷ []) in
    subst P (last_of rest x x) (a (length rest) x (omega (arith, l)))

pub front_items : {A : Type 0} (P : A → Type 0) (all rest : List A) (x : A) → all ≡ rest ++ x ∷ [] → All P all → All P rest
front_items P all rest x e h k d within =
    let a = subst (All P) e h in
    let l = length-append rest (x ∷ []) in
    subst P (before_last rest x d k within) (a k d (omega (arith, l, within)))

pub all_more : {A : Type 0} (P : A → Type 0) (xs : List A) (x : A) → All P xs → P x → All P (xs ++ x ∷ [])
all_more P xs x all p = All-append P xs (x ∷ []) all one where
  one : All P (x ∷ [])
  one zero d l = p
  one (suc i) d l = absurd (omega arith)

pub if_some : {A : Type 0} (P : A → Type 0) (o : Option A) → ((x : A) → o ≡ Some x → P x) → IfSome o P
if_some P None h = tt
if_some P (Some x) h = h x refl

not_some : (r : Result Reading LoadFail) → Some r ≡ None → ⊥
not_some r e = cc

-- where nothing is known, all that is known is right
pub none_known : (texts : List FileText) (known : List (Option (Result Reading LoadFail))) → All (λ o. o ≡ None) known → AreReadings texts known
none_known texts known none n x r there found =
    let within = slice_get_within known n (Some r) found in
    let here = get_or_from_slice_get known n (Some r) None found in
    absurd (not_some r (sym here ∙ none n None within))
