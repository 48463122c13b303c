-- The first of each name.
use Rattle.std.proofs.Common.{◌≡◌, ℕ, ◌+◌, ◌<◌, Bool, true, false, cond, eqb, not, List, [], ◌∷◌, ◌++◌, length, take, get_or, refl, sym, ap, subst, ◌∙◌, arith}
use Rattle.std.specs.Prelude.{Option, Some, None, find, is_some, nat_lt, position}
use Rattle.std.specs.Option.{option_or}
use Rattle.std.specs.HashMap.{UpdatesBy}
use Rattle.std.specs.List.{position_or_len}
use Rattle.std.specs.Str.{bytes_eq}
use Rattle.std.proofs.lemmas.Bool.{lt-ltb, le-ltb, ltb-true, ltb-false, eq-eqb, ne_eqb}
use Rattle.std.proofs.lemmas.List.{length_push, length-take-le, take_more}
use Rattle.std.proofs.lemmas.List.Folds.{find-append, position_or_len_push}
use Rattle.std.proofs.lemmas.List.Sums.{prefix_len-le-length}
use Rattle.std.proofs.lemmas.Map.Text.{hash_map_updates_str}
use Rattle.std.proofs.lemmas.Slice.Eq.{bytes_eq-Decides}
use Rattle.indexmap.specs.IndexMap.{IndexMap}
use denote.Ref.{Bor}
use Rattle.net_types.specs.Routes.{same_text}
use Rattle.ask_query.specs.Devices.{stands_under}
use Rattle.ask_query.specs.Refusals.{Word}

nothing_after : {A : Type 0} (o : Option A) → o ≡ option_or o None
nothing_after None = refl
nothing_after (Some x) = refl

module _ {V S : Type 0} (m : IndexMap (Bor Word) V S) (k : Word) (v : V) where
  abbrev one_more : Word → Option V
  one_more w = option_or (stands_under m w) (cond (same_text k w) (Some v) None)

  -- something stands under the name already
  pub first_kept : is_some (stands_under m k) ≡ true → (w : Word) → stands_under m w ≡ one_more w
  first_kept there w = go (same_text k w) refl
    where
      some : (o : Option V) → is_some o ≡ true → (x : Option V) → o ≡ option_or o x
      some None h x = absurd cc
      some (Some y) h x = refl

      go : (b : Bool) → same_text k w ≡ b → stands_under m w ≡ one_more w
      go true e =
          let same : k ≡ w = (bytes_eq-Decides k w).0 e in
          some (stands_under m w) (subst (λ y. is_some (stands_under m y) ≡ true) same there) (cond (same_text k w) (Some v) None)
      go false e = nothing_after (stands_under m w) ∙ ap (λ b. option_or (stands_under m w) (cond b (Some v) None)) (sym e)

  -- nothing does, and this is put there
  pub first_added : (n : IndexMap (Bor Word) V S) → UpdatesBy (λ x y. bytes_eq x.now y.now) (λ x. bytes_eq k x.now) m n (Some v) → is_some (stands_under m k) ≡ false → (w : Word) → stands_under n w ≡ one_more w
  first_added n updates absent w = hash_map_updates_str k m n (Some v) updates w ∙ go (same_text k w) refl
    where
      none : (o : Option V) → is_some o ≡ false → o ≡ None
      none None h = refl
      none (Some y) h = absurd cc

      go : (b : Bool) → same_text k w ≡ b → cond b (Some v) (stands_under m w) ≡ one_more w
      go true e =
          let same : k ≡ w = (bytes_eq-Decides k w).0 e in
          let nothing : stands_under m w ≡ None = none (stands_under m w) (subst (λ y. is_some (stands_under m y) ≡ false) same absent) in
          rw (nothing, e) refl
      go false e = nothing_after (stands_under m w) ∙ ap (λ b. option_or (stands_under m w) (cond b (Some v) None)) (sym e)

module _ {T : Type 0} (p : T → Bool) where
  -- one more item in which to find
  pub find_take : (xs : List T) (i : ℕ) (x : T) (b : Bool) (o : Option T) → i < length xs → x ≡ get_or xs i x → b ≡ p x → o ≡ find p (take i xs)
      → option_or o (cond b (Some x) None) ≡ find p (take (i + 1) xs)
  find_take xs i x b o l e test so_far =
      ap (λ y. option_or y (cond b (Some x) None)) so_far
      ∙ ap (λ t. option_or (find p (take i xs)) (cond t (Some x) None)) test
      ∙ sym (find-append p (take i xs) (x ∷ []))
      ∙ ap (λ y. find p (take i xs ++ y ∷ [])) e
      ∙ ap (find p) (sym (take_more xs i x l))

  -- one more item with a position
  position_push : (xs : List T) (x : T) → position p (xs ++ x ∷ []) ≡ option_or (position p xs) (cond (p x) (Some (length xs)) None)
  position_push xs x = rw (position_or_len_push p xs x, length_push xs x) (go (nat_lt (position_or_len p xs) (length xs)) refl)
    where
      last : (b : Bool) → cond (nat_lt (length xs + cond b 0 1) (length xs + 1)) (Some (length xs + cond b 0 1)) None ≡ cond b (Some (length xs)) None
      last true = rw (lt-ltb (length xs + 0) (length xs + 1) (omega arith)) (ap Some (omega arith))
      last false = rw (le-ltb (length xs + 1) (length xs + 1) (omega arith)) refl

      go : (b : Bool) → nat_lt (position_or_len p xs) (length xs) ≡ b
          → cond (nat_lt (cond (eqb (position_or_len p xs) (length xs)) (length xs + cond (p x) 0 1) (position_or_len p xs)) (length xs + 1)) (Some (cond (eqb (position_or_len p xs) (length xs)) (length xs + cond (p x) 0 1) (position_or_len p xs))) None
          ≡ option_or (cond b (Some (position_or_len p xs)) None) (cond (p x) (Some (length xs)) None)
      go true h =
          let l : position_or_len p xs < length xs = ltb-true (position_or_len p xs) (length xs) h in
          rw (ne_eqb (position_or_len p xs) (length xs) (λ e. omega (arith, e)), lt-ltb (position_or_len p xs) (length xs + 1) (omega arith)) refl
      go false h =
          let l = ltb-false (position_or_len p xs) (length xs) h in
          let most = prefix_len-le-length (λ y. not (p y)) xs in
          rw (eq-eqb (position_or_len p xs) (length xs) (omega (arith, l, most))) (last (p x))

  pub position_take : (xs : List T) (i : ℕ) (x : T) (b : Bool) (o : Option ℕ) → i < length xs → x ≡ get_or xs i x → b ≡ p x → o ≡ position p (take i xs)
      → option_or o (cond b (Some i) None) ≡ position p (take (i + 1) xs)
  position_take xs i x b o l e test so_far =
      ap (λ y. option_or y (cond b (Some i) None)) so_far
      ∙ ap (λ t. option_or (position p (take i xs)) (cond t (Some i) None)) test
      ∙ ap (λ n. option_or (position p (take i xs)) (cond (p x) (Some n) None)) (sym (length-take-le i xs (omega (arith, l))))
      ∙ sym (position_push (take i xs) x)
      ∙ ap (λ y. position p (take i xs ++ y ∷ [])) e
      ∙ ap (position p) (sym (take_more xs i x l))
