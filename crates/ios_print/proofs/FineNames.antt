-- What is kept of lists that are fine throughout; and each name stands behind others.
use Rattle.std.proofs.Common.{◌≡◌, ℕ, Bool, true, false, List, [], ◌∷◌, ◌++◌, map, refl, sym, subst, append-nil, append_assoc}
use Rattle.std.specs.Prelude.{Option, Some, None, filter_map, fold}
use Rattle.std.specs.List.{AllByRecursion, cons_option}
use Rattle.ios_lines.specs.Words.{Word, Words}
use Rattle.ios_lines.specs.Lists.{last, place_of, put_name, add_name, keep_if, written_of, changes_of, names_of}
use Rattle.std.specs.Str.{bytes_eq}
use Rattle.ios_print.proofs.EffectsFine.{IfAny, last_has}

module _ {A B : Type 0} (f : A → Option B) (P : A → Type 0) (Q : B → Type 0) (gives : (x : A) → P x → IfAny Q (f x)) where
  cons_all : (o : Option B) (ys : List B) → IfAny Q o → AllByRecursion Q ys → AllByRecursion Q (cons_option o ys)
  cons_all None ys h r = r
  cons_all (Some y) ys h r = (h, r)

  pub all_kept : (xs : List A) → AllByRecursion P xs → AllByRecursion Q (filter_map f xs)
  all_kept [] a = tt
  all_kept (x ∷ xs) a = cons_all (f x) (filter_map f xs) (gives x a.0) (all_kept xs a.1)

  pub last_kept : (xs : List A) → AllByRecursion P xs → IfAny Q (last (filter_map f xs))
  last_kept xs a = last_has Q (filter_map f xs) (all_kept xs a)

pub all_more : {A : Type 0} (P : A → Type 0) (xs : List A) (y : A) → AllByRecursion P xs → P y → AllByRecursion P (xs ++ y ∷ [])
all_more P [] y a p = (p, tt)
all_more P (x ∷ xs) y a p = (a.0, all_more P xs y a.1 p)

-- what was written of a name is so, where all that was written is
module _ {C : Type 0} (N : Word → Type 0) (P : C → Type 0) where
  abbrev pub IsWritten : Word × C → Type 0
  IsWritten w = N w.0 × P w.1

  if_kept : (b : Bool) (c : C) → P c → IfAny P (keep_if b c)
  if_kept true c p = p
  if_kept false c p = tt

  pub changes_fine : (n : Word) (ws : List (Word × C)) → AllByRecursion IsWritten ws → AllByRecursion P (changes_of n ws)
  changes_fine n ws a = all_kept (written_of n) IsWritten P (λ w k. if_kept (bytes_eq w.0 n) w.1 k.1) ws a

  put_fine : (o : Option ℕ) (ms : Words) (n : Word) → AllByRecursion N ms → N n → AllByRecursion N (put_name o ms n)
  put_fine None ms n a k = all_more N ms n a k
  put_fine (Some i) ms n a k = a

  add_fine : (ws : List (Word × C)) (ms : Words) → AllByRecursion IsWritten ws → AllByRecursion N ms → AllByRecursion N (fold add_name ms (map (λ w. w.0) ws))
  add_fine [] ms a b = b
  add_fine (w ∷ ws) ms a b = add_fine ws (add_name ms w.0) a.1 (put_fine (place_of w.0 ms) ms w.0 b a.0.0)

  pub names_fine : (ws : List (Word × C)) → AllByRecursion IsWritten ws → AllByRecursion N (names_of ws)
  names_fine ws a = add_fine ws [] a tt

-- names that stand behind others are none of these, and each once
abbrev pub Behind : Words → Words → Type 0
Behind before [] = Unit {0}
Behind before (m ∷ ms) = (place_of m before ≡ None) × Behind (before ++ m ∷ []) ms

behind_more : (before ms : Words) (n : Word) → Behind before ms → place_of n (before ++ ms) ≡ None → Behind before (ms ++ n ∷ [])
behind_more before [] n b h = (subst (λ ns. place_of n ns ≡ None) (append-nil before) h, tt)
behind_more before (m ∷ ms) n b h = (b.0, behind_more (before ++ m ∷ []) ms n b.1 (subst (λ ns. place_of n ns ≡ None) (sym (append_assoc before (m ∷ []) ms)) h))

add_behind : (ms : Words) (n : Word) → Behind [] ms → Behind [] (add_name ms n)
add_behind ms n b = (elim (place_of n ms) as (λ o. place_of n ms ≡ o → Behind [] (put_name o ms n)) [ None ↦ λ h. behind_more [] ms n b h | Some i ↦ λ h. b ]) refl

all_behind : (ms new : Words) → Behind [] ms → Behind [] (fold add_name ms new)
all_behind ms [] b = b
all_behind ms (n ∷ new) b = all_behind (add_name ms n) new (add_behind ms n b)

pub names_behind : {C : Type 0} (ws : List (Word × C)) → Behind [] (names_of ws)
names_behind ws = all_behind [] (map (λ w. w.0) ws) tt
