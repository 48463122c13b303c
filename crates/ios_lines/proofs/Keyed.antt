-- Where names stand, and what one more thing that is written changes of each name's value.
use Rattle.std.proofs.Common.{◌≡◌, ℕ, ◌+◌, ◌<◌, ◌≤◌, zero, suc, Bool, true, false, cond, List, [], ◌∷◌, ◌++◌, map, refl, sym, ap, subst, ◌∙◌, arith, append-nil}
use Rattle.std.specs.Prelude.{Option, Some, None, nat_lt, fold, slice_set, slice_index_or}
use Rattle.std.specs.Str.{bytes_eq}
use Rattle.std.proofs.lemmas.Bool.{lt-ltb, le-ltb, ltb-true, ltb-false}
use Rattle.std.proofs.lemmas.Slice.Eq.{bytes_eq-Decides}
use Rattle.ios_lines.specs.Words.{Word, Words}
use Rattle.ios_lines.specs.Lists.{place_of, place_after, put_name, add_name, names_of, written_of, changes_of, values_of, put_value}
use Rattle.ios_lines.proofs.Steps.{filter_map_more, fold_more, map_more}

pub later : (e l : ℕ) → place_after false (cond (nat_lt e l) (Some e) None) ≡ cond (nat_lt (1 + e) (suc l)) (Some (1 + e)) None
later e l = (elim (nat_lt e l) as (λ b. nat_lt e l ≡ b → place_after false (cond b (Some e) None) ≡ cond (nat_lt (1 + e) (suc l)) (Some (1 + e)) None) [
  | true ↦ λ h. let small : 1 + e < suc l = omega (arith, ltb-true e l h) in let one : suc e ≡ 1 + e = omega arith in rw (lt-ltb (1 + e) (suc l) small) (ap Some one)
  | false ↦ λ h. let great : suc l ≤ 1 + e = omega (arith, ltb-false e l h) in rw (le-ltb (1 + e) (suc l) great) refl
]) refl

-- the test of bytes is equality
pub same_is : (n m : Word) → bytes_eq n m ≡ true → n ≡ m
same_is n m h = (bytes_eq-Decides n m).0 h

pub itself : (n : Word) → bytes_eq n n ≡ true
itself n = (bytes_eq-Decides n n).1 refl

pub other_way : (n m : Word) → bytes_eq n m ≡ false → bytes_eq m n ≡ false
other_way n m h = (elim (bytes_eq m n) as (λ b. bytes_eq m n ≡ b → b ≡ false) [
  | true ↦ λ e. let back = (bytes_eq-Decides n m).1 (sym (same_is m n e)) in absurd (cc)
  | false ↦ λ e. refl
]) refl

-- each name once
abbrev pub Once : Words → Type 0
Once [] = Unit {0}
Once (m ∷ ms) = (place_of m ms ≡ None) × Once ms

-- a name that stands nowhere is none of them
pub none_first : (n m : Word) (ms : Words) → place_of n (m ∷ ms) ≡ None → (bytes_eq n m ≡ false) × (place_of n ms ≡ None)
none_first n m ms h = go (bytes_eq n m) (place_of n ms) refl refl h
  where
    go : (b : Bool) (o : Option ℕ) → bytes_eq n m ≡ b → place_of n ms ≡ o → place_after b o ≡ None → (bytes_eq n m ≡ false) × (place_of n ms ≡ None)
    go true o e f g = absurd (cc)
    go false None e f g = (e, f)
    go false (Some i) e f g = absurd (cc)

nowhere : (n m : Word) (ms : Words) → bytes_eq n m ≡ false → place_of n ms ≡ None → place_of n (m ∷ ms) ≡ None
nowhere n m ms h g = rw (h, g) refl

more_nowhere : (n m : Word) (ms : Words) → place_of n ms ≡ None → bytes_eq n m ≡ false → place_of n (ms ++ m ∷ []) ≡ None
more_nowhere n m [] h g = nowhere n m [] g refl
more_nowhere n m (x ∷ ms) h g = let p = none_first n x ms h in nowhere n x (ms ++ m ∷ []) p.0 (more_nowhere n m ms p.1 g)

once_more : (ms : Words) (m : Word) → place_of m ms ≡ None → Once ms → Once (ms ++ m ∷ [])
once_more [] m h o = (refl, tt)
once_more (x ∷ ms) m h o = let p = none_first m x ms h in (more_nowhere x m ms o.0 (other_way m x p.0), once_more ms m p.1 o.1)

add_once : (ms : Words) (m : Word) → Once ms → Once (add_name ms m)
add_once ms m o = (elim (place_of m ms) as (λ p. place_of m ms ≡ p → Once (put_name p ms m)) [ None ↦ λ h. once_more ms m h o | Some i ↦ λ h. o ]) refl

all_once : (ms new : Words) → Once ms → Once (fold add_name ms new)
all_once ms [] o = o
all_once ms (n ∷ new) o = all_once (add_name ms n) new (add_once ms n o)

pub names_once : {C : Type 0} (ws : List (Word × C)) → Once (names_of ws)
names_once ws = all_once [] (map (λ w. w.0) ws) tt

-- a name that isn't added is not there
absent_end : (n m : Word) (ms : Words) → place_of n (ms ++ m ∷ []) ≡ None → (place_of n ms ≡ None) × (bytes_eq n m ≡ false)
absent_end n m [] h = (refl, (none_first n m [] h).0)
absent_end n m (x ∷ ms) h = let p = none_first n x (ms ++ m ∷ []) h in let q = absent_end n m ms p.1 in (rw (p.0, q.0) refl, q.1)

absent_add : (n m : Word) (ms : Words) → place_of n (add_name ms m) ≡ None → (place_of n ms ≡ None) × (bytes_eq n m ≡ false)
absent_add n m ms h = go (place_of m ms) refl h
  where
    go : (o : Option ℕ) → place_of m ms ≡ o → place_of n (put_name o ms m) ≡ None → (place_of n ms ≡ None) × (bytes_eq n m ≡ false)
    go None e k = absent_end n m ms k
    go (Some i) e k = (
      k,
      (elim (bytes_eq n m) as (λ b. bytes_eq n m ≡ b → b ≡ false) [
        | true ↦ λ t. let z = subst (λ x. place_of x ms ≡ None) (same_is n m t) k in absurd (cc)
        | false ↦ λ t. refl
      ]) refl,
    )

-- nothing is written of a name that isn't there
nothing_written : {C : Type 0} (n : Word) (ws : List (Word × C)) (ms : Words) → place_of n (fold add_name ms (map (λ w. w.0) ws)) ≡ None → (place_of n ms ≡ None) × (changes_of n ws ≡ [])
nothing_written n [] ms h = (h, refl)
nothing_written n (w ∷ ws) ms h =
    let p = nothing_written n ws (add_name ms w.0) h in
    let q = absent_add n w.0 ms p.0 in
    (q.0, rw (other_way n w.0 q.1) p.1)

no_changes : {C : Type 0} (n : Word) (ws : List (Word × C)) → place_of n (names_of ws) ≡ None → changes_of n ws ≡ []
no_changes n ws h = (nothing_written n ws [] h).1

-- the values of the names, where just that of n changes
module _ {V : Type 0} (f g : Word → V) (n : Word) where
  abbrev pub Others : Type 0
  Others = (m : Word) → bytes_eq n m ≡ false → g m ≡ f m

  unchanged : (ms : Words) → Others → place_of n ms ≡ None → map g ms ≡ map f ms
  unchanged [] others h = refl
  unchanged (m ∷ ms) others h = let p = none_first n m ms h in let a = others m p.0 in let b = unchanged ms others p.1 in cc

  changed : (step : V → V) (d : V) → Others → g n ≡ step (f n) → (ms : Words) (i : ℕ) → Once ms → place_of n ms ≡ Some i
      → map g ms ≡ slice_set (map f ms) i (step (slice_index_or (map f ms) i d))
  changed step d others h [] i o e = absurd (cc)
  changed step d others h (m ∷ ms) i o e = go (bytes_eq n m) (place_of n ms) refl refl i e (λ j. changed step d others h ms j o.1)
    where
      go : (b : Bool) (p : Option ℕ) → bytes_eq n m ≡ b → place_of n ms ≡ p → (i : ℕ) → place_after b p ≡ Some i
          → ((j : ℕ) → place_of n ms ≡ Some j → map g ms ≡ slice_set (map f ms) j (step (slice_index_or (map f ms) j d)))
          → map g (m ∷ ms) ≡ slice_set (map f (m ∷ ms)) i (step (slice_index_or (map f (m ∷ ms)) i d))
      go true p e q zero r ih =
          let z : n ≡ m = same_is n m e in
          let a : g m ≡ step (f m) = subst (λ x. g x ≡ step (f x)) z h in
          let b = unchanged ms others (subst (λ x. place_of x ms ≡ None) (sym z) o.0) in
          cc
      go true p e q (suc i) r ih = absurd (cc)
      go false None e q i r ih = absurd (cc)
      go false (Some j) e q zero r ih = absurd (cc)
      go false (Some j) e q (suc i) r ih =
          let a = others m e in
          let b = ih i (cc) in
          cc

module _ {C : Type 0} where
  pub names_more : (ws : List (Word × C)) (w : Word × C) → names_of (ws ++ w ∷ []) ≡ add_name (names_of ws) w.0
  names_more ws w = ap (fold add_name []) (map_more (λ (x : Word × C). x.0) ws w) ∙ fold_more add_name [] (map (λ x. x.0) ws) w.0

  own_changes : (ws : List (Word × C)) (n : Word) (c : C) → changes_of n (ws ++ (n, c) ∷ []) ≡ changes_of n ws ++ c ∷ []
  own_changes ws n c = filter_map_more (written_of n) ws (n, c) ∙ rw (itself n) refl

  other_changes : (ws : List (Word × C)) (n : Word) (c : C) (m : Word) → bytes_eq n m ≡ false → changes_of m (ws ++ (n, c) ∷ []) ≡ changes_of m ws
  other_changes ws n c m h = filter_map_more (written_of m) ws (n, c) ∙ rw h (append-nil (changes_of m ws))

-- one more change changes the value of its name
module _ {C V : Type 0} (by : Word → List C → V) (step : V → C → V) (steps : (n : Word) (cs : List C) (c : C) → by n (cs ++ c ∷ []) ≡ step (by n cs) c) where
  pub values_more : (ws : List (Word × C)) (n : Word) (c : C) → values_of by (ws ++ (n, c) ∷ []) ≡ put_value step (λ m. by m []) (place_of n (names_of ws)) (values_of by ws) n c
  values_more ws n c = ap (map (λ m. by m (changes_of m (ws ++ (n, c) ∷ [])))) (names_more ws (n, c)) ∙ go (place_of n (names_of ws)) refl
    where
      others : (m : Word) → bytes_eq n m ≡ false → by m (changes_of m (ws ++ (n, c) ∷ [])) ≡ by m (changes_of m ws)
      others m h = ap (by m) (other_changes ws n c m h)

      own : by n (changes_of n (ws ++ (n, c) ∷ [])) ≡ step (by n (changes_of n ws)) c
      own = ap (by n) (own_changes ws n c) ∙ steps n (changes_of n ws) c

      go : (o : Option ℕ) → place_of n (names_of ws) ≡ o → map (λ m. by m (changes_of m (ws ++ (n, c) ∷ []))) (put_name o (names_of ws) n) ≡ put_value step (λ m. by m []) o (values_of by ws) n c
      go None e =
          let a = map_more (λ m. by m (changes_of m (ws ++ (n, c) ∷ []))) (names_of ws) n in
          let b = unchanged (λ m. by m (changes_of m ws)) (λ m. by m (changes_of m (ws ++ (n, c) ∷ []))) n (names_of ws) others e in
          let k = ap (λ cs. step (by n cs) c) (no_changes n ws e) in
          let o = own in
          cc
      go (Some i) e = changed (λ m. by m (changes_of m ws)) (λ m. by m (changes_of m (ws ++ (n, c) ∷ []))) n (λ v. step v c) (by [] []) others own (names_of ws) i (names_once ws) e
