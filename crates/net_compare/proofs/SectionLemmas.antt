-- Sections put together one by one.
use Rattle.std.proofs.Common.{ℕ, zero, suc, ◌≡◌, ◌+◌, ◌<◌, List, [], ◌∷◌, ◌++◌, Some, length, take, drop, get_or, slice_get, refl, sym, ap, subst, ◌∙◌, add-one}
use Rattle.std.specs.List.{AllZip}
use Rattle.net_types.specs.declared.network.Place.{Place}
use Rattle.net_types.specs.declared.network.Row.{Row}
use Rattle.net_types.specs.World.{World}
use Rattle.net_types.specs.Report.{IsSection, affected}
use Rattle.pair_rows.specs.Pairs.{AreRowsWithPairs}
use Rattle.std.proofs.lemmas.List.{take_more}

zip_push : {X Y : Type 0} (R : X → Y → Type 0) (xs : List X) (ys : List Y) (x : X) (y : Y) → AllZip R xs ys → R x y → AllZip R (xs ++ x ∷ []) (ys ++ y ∷ [])
zip_push R [] [] x y a r = (r, tt)
zip_push R [] (v ∷ ys) x y a r = absurd a
zip_push R (u ∷ xs) [] x y a r = absurd a
zip_push R (u ∷ xs) (v ∷ ys) x y a r = (a.0, zip_push R xs ys x y a.1 r)

pub zip_more : {X Y : Type 0} (R : X → Y → Type 0) (xs : List X) (ys : List Y) (i : ℕ) (d : X) (y : Y) → i < length xs → AllZip R (take i xs) ys → R (get_or xs i d) y → AllZip R (take (i + 1) xs) (ys ++ y ∷ [])
zip_more R xs ys i d y l a r = rw (take_more xs i d l) (zip_push R (take i xs) ys (get_or xs i d) y a r)

-- what is first behind the place stands at it
drop_next : {X : Type 0} (xs : List X) (i : ℕ) (x : X) (ys : List X) → drop i xs ≡ x ∷ ys → (slice_get xs i ≡ Some x) × (drop (suc i) xs ≡ ys)
drop_next [] zero x ys e = absurd cc
drop_next [] (suc i) x ys e = absurd cc
drop_next (z ∷ xs) zero x ys e = (let same : z ≡ x = cc in ap Some same, (let rest : xs ≡ ys = cc in rest))
drop_next (z ∷ xs) (suc i) x ys e = drop_next xs i x ys e

pub next_there : {X : Type 0} (xs : List X) (i : ℕ) (x : X) (ys : List X) → drop i xs ≡ x ∷ ys → slice_get xs i ≡ Some x
next_there xs i x ys e = (drop_next xs i x ys e).0

pub next_rest : {X : Type 0} (xs : List X) (i : ℕ) (x : X) (ys : List X) → drop i xs ≡ x ∷ ys → ys ≡ drop (i + 1) xs
next_rest xs i x ys e = sym (drop_next xs i x ys e).1 ∙ ap (λ (n : ℕ). drop n xs) (sym (add-one i))

-- canonical rows with their pairs of labels are a section
pub is_section : (old new : World) (t : ℕ) (p : Place) (given rows : List Row) → rows ≡ given → AreRowsWithPairs (affected old new t p) given → IsSection old new t p (record { place = p; rows = rows })
is_section old new t p given rows same a =
    let own : AreRowsWithPairs (affected old new t p) rows = subst (AreRowsWithPairs (affected old new t p)) (sym same) a in
    record { place = refl; rows = own.cubes; labels = own.pairs }
