-- Entries that came without an error, one more of them with its name, and how they end.
use Rattle.std.proofs.Common.{◌≡◌, ℕ, List, [], ◌∷◌, ◌++◌, Option, Some, None, Ok, Err, map, refl, sym, subst}
use Rattle.std.specs.Prelude.{Result, IfErr, IsErrAnd}
use Rattle.std.specs.Iterator.{Yields, YieldsThen, Drains}
use Rattle.std.proofs.lemmas.List.{map-append}

pub came-more : {X E : Type 0} (yielded : List (Result X E)) (entries : List X) (item : Result X E) (entry : X) → yielded ≡ map Ok entries → item ≡ Ok entry → yielded ++ item ∷ [] ≡ map Ok (entries ++ entry ∷ [])
came-more {X} {E} yielded entries item entry came is = rw (map-append {A = X} {B = Result X E} (λ x. Ok x) entries (entry ∷ []), came, is) refl

pub named-more : {X N : Type 0} (name : X → List ℕ) (bytes : N → List ℕ) (names all : List N) (text : N) (entries : List X) (entry : X) → map bytes names ≡ map name entries → all ≡ names ++ text ∷ [] → bytes text ≡ name entry → map bytes all ≡ map name (entries ++ entry ∷ [])
named-more name bytes names all text entries entry known more is = rw (more, map-append bytes names (text ∷ []), map-append name entries (entry ∷ []), known, is) refl

pub drains : {S X E : Type 0} (steps : S → Option (Result X E) → S → Type 0) (from began till left : S) (yielded : List (Result X E)) (entries : List X) → began ≡ from → yielded ≡ map Ok entries → Yields steps began yielded till → steps till None left → Drains steps from (map Ok entries)
drains steps from began till left yielded entries same came ran last = (left, (till, subst (λ xs. Yields steps from xs till) came (subst (λ s. Yields steps s yielded till) same ran), last))

pub stops : {S X E : Type 0} (steps : S → Option (Result X E) → S → Type 0) (from began till left : S) (yielded : List (Result X E)) (entries : List X) (item : Result X E) (error : E) → began ≡ from → yielded ≡ map Ok entries → Yields steps began yielded till → item ≡ Err error → steps till (Some item) left → YieldsThen steps from (map Ok entries) (Some (Err error)) left
stops steps from began till left yielded entries item error same came ran is step = (till, subst (λ xs. Yields steps from xs till) came (subst (λ s. Yields steps s yielded till) same ran), subst (λ r. steps till (Some r) left) is step)

pub if-err : {T E : Type 0} (P : E → Type 0) (result : Result T E) (error : E) → IsErrAnd result (λ e. e ≡ error) → P error → IfErr result P
if-err P (Ok _) error is p = absurd is
if-err P (Err e) error is p = subst P (sym is) p
