-- Where two traces part, and that their texts are the parts.
use Rattle.std.proofs.Common.{◌≡◌, ℕ, zero, suc, ◌+◌, ◌≤◌, Bool, true, false, cond, List, [], ◌∷◌, ◌++◌, length, take, drop, Some, slice_get, refl, sym, ap, ◌∙◌, append_assoc, subst, ◌<◌, get_or, min, inl, inr, add-one, drop-cons, arith}
use Rattle.std.specs.Prelude.{◌⊎◌}
use Rattle.std.proofs.lemmas.Bool.{cases_lt}
use Rattle.std.proofs.Math.ListN.{drop_of_length-le}
use Rattle.std.specs.Prelude.{codes}
use Rattle.std.specs.Str.{bytes_eq}
use Rattle.net_types.specs.declared.network.Names.{Names}
use Rattle.report_text.specs.ReportText.{label_text}
use Rattle.report_text.proofs.Joined.{same_bytes, bytes_same}
use Rattle.walk_trace.specs.declared.types.Trace.{Trace}
use Rattle.walk_trace.specs.declared.types.TraceState.{TraceState}
use Rattle.walk_trace.specs.TraceText.{state_text, states_text, trace_text}
use Rattle.trace_sides.specs.Sides.{shared_from, shared, first_text, rest_text, AreWhole, PartAt}

module _ (names : Names) where
  -- the first n states and the others are all
  parts : (n k : ℕ) (xs : List TraceState) → states_text names k (take n xs) ++ states_text names (n + k) (drop n xs) ≡ states_text names k xs
  parts zero k xs = ap (λ m. states_text names m xs) (omega arith)
  parts (suc n) k [] = refl
  parts (suc n) k (x ∷ xs) =
      let moved : suc n + k ≡ n + (k + 1) = omega arith in
      append_assoc (state_text names k x) (states_text names (k + 1) (take n xs)) (states_text names (suc n + k) (drop n xs))
      ∙ ap (λ t. state_text names k x ++ t) (ap (λ m. states_text names (k + 1) (take n xs) ++ states_text names m (drop n xs)) moved ∙ parts n (k + 1) xs)

  -- the states that both begin with read the same
  alike : (k : ℕ) (xs ys : List TraceState) → states_text names k (take (shared_from names k xs ys) xs) ≡ states_text names k (take (shared_from names k xs ys) ys)
  alike k [] [] = refl
  alike k [] (y ∷ ys) = refl
  alike k (x ∷ xs) [] = refl
  alike k (x ∷ xs) (y ∷ ys) = go (bytes_eq (state_text names k x) (state_text names k y)) refl (alike (k + 1) xs ys)
    where
      go : (t : Bool) → bytes_eq (state_text names k x) (state_text names k y) ≡ t
          → states_text names (k + 1) (take (shared_from names (k + 1) xs ys) xs) ≡ states_text names (k + 1) (take (shared_from names (k + 1) xs ys) ys)
          → states_text names k (take (cond t (suc (shared_from names (k + 1) xs ys)) 0) (x ∷ xs)) ≡ states_text names k (take (cond t (suc (shared_from names (k + 1) xs ys)) 0) (y ∷ ys))
      go true e rest = ap (λ t. t ++ states_text names (k + 1) (take (shared_from names (k + 1) xs ys) xs)) (bytes_same (state_text names k x) (state_text names k y) e) ∙ ap (λ t. state_text names k y ++ t) rest
      go false e rest = refl

  -- the next ones don't
  apart : (k : ℕ) (xs ys : List TraceState) (x y : TraceState) → slice_get xs (shared_from names k xs ys) ≡ Some x → slice_get ys (shared_from names k xs ys) ≡ Some y
      → state_text names (shared_from names k xs ys + k) x ≡ state_text names (shared_from names k xs ys + k) y → ⊥
  apart k [] ys x y e f h = cc
  apart k (a ∷ xs) [] x y e f h = cc
  apart k (a ∷ xs) (b ∷ ys) x y e f h = go (bytes_eq (state_text names k a) (state_text names k b)) refl (apart (k + 1) xs ys x y) e f h
    where
      go : (t : Bool) → bytes_eq (state_text names k a) (state_text names k b) ≡ t
          → (slice_get xs (shared_from names (k + 1) xs ys) ≡ Some x → slice_get ys (shared_from names (k + 1) xs ys) ≡ Some y
          → state_text names (shared_from names (k + 1) xs ys + (k + 1)) x ≡ state_text names (shared_from names (k + 1) xs ys + (k + 1)) y → ⊥)
          → slice_get (a ∷ xs) (cond t (suc (shared_from names (k + 1) xs ys)) 0) ≡ Some x → slice_get (b ∷ ys) (cond t (suc (shared_from names (k + 1) xs ys)) 0) ≡ Some y
          → state_text names (cond t (suc (shared_from names (k + 1) xs ys)) 0 + k) x ≡ state_text names (cond t (suc (shared_from names (k + 1) xs ys)) 0 + k) y → ⊥
      go true t rest e f h =
          let moved : suc (shared_from names (k + 1) xs ys) + k ≡ (shared_from names (k + 1) xs ys) + (k + 1) = omega arith in
          rest e f (subst (λ m. state_text names m x ≡ state_text names m y) moved h)
      go false t rest e f h =
          let none : 0 + k ≡ k = omega arith in
          let one : a ≡ x = cc in
          let other : b ≡ y = cc in
          let same : state_text names k a ≡ state_text names k b = rw (one, other) (subst (λ m. state_text names m x ≡ state_text names m y) none h) in
          let clash : true ≡ false = sym (same_bytes (state_text names k a)) ∙ ap (bytes_eq (state_text names k a)) same ∙ t in
          cc

-- ---- one state after the other

module _ (names : Names) where
  turn : (i : ℕ) (xs ys : List TraceState) (x y : TraceState) (t : Bool) → i < length xs → i < length ys → x ≡ get_or xs i x → y ≡ get_or ys i y
      → t ≡ bytes_eq (state_text names (i + 1) x) (state_text names (i + 1) y)
      → shared_from names (i + 1) (drop i xs) (drop i ys) ≡ cond t (suc (shared_from names (i + 1 + 1) (drop (i + 1) xs) (drop (i + 1) ys))) 0
  turn i xs ys x y t h k e f g =
      let p : drop i xs ≡ x ∷ drop (i + 1) xs = rw (add-one, e) (drop-cons xs i x h) in
      let q : drop i ys ≡ y ∷ drop (i + 1) ys = rw (add-one, f) (drop-cons ys i y k) in
      rw (p, q, g) refl

  -- where the next ones are alike
  pub one_more : (i : ℕ) (xs ys : List TraceState) (x y : TraceState) (t : Bool) → i < length xs → i < length ys → x ≡ get_or xs i x → y ≡ get_or ys i y
      → t ≡ bytes_eq (state_text names (i + 1) x) (state_text names (i + 1) y) → t ≡ true
      → shared_from names 1 xs ys ≡ i + shared_from names (i + 1) (drop i xs) (drop i ys)
      → shared_from names 1 xs ys ≡ i + 1 + shared_from names (i + 1 + 1) (drop (i + 1) xs) (drop (i + 1) ys)
  one_more i xs ys x y t h k e f g same all =
      let step = turn i xs ys x y t h k e f g in
      let next : cond t (suc (shared_from names (i + 1 + 1) (drop (i + 1) xs) (drop (i + 1) ys))) 0 ≡ suc (shared_from names (i + 1 + 1) (drop (i + 1) xs) (drop (i + 1) ys)) = rw same refl in
      omega (arith, step, next, all)

  -- where they aren't
  pub no_more : (i : ℕ) (xs ys : List TraceState) (x y : TraceState) (t : Bool) → i < length xs → i < length ys → x ≡ get_or xs i x → y ≡ get_or ys i y
      → t ≡ bytes_eq (state_text names (i + 1) x) (state_text names (i + 1) y) → t ≡ false
      → shared_from names 1 xs ys ≡ i + shared_from names (i + 1) (drop i xs) (drop i ys)
      → i ≡ shared_from names 1 xs ys
  no_more i xs ys x y t h k e f g other all =
      let step = turn i xs ys x y t h k e f g in
      let none : cond t (suc (shared_from names (i + 1 + 1) (drop (i + 1) xs) (drop (i + 1) ys))) 0 ≡ 0 = rw other refl in
      omega (arith, step, none, all)

  nothing_left : (k : ℕ) (xs : List TraceState) → shared_from names k xs [] ≡ 0
  nothing_left k [] = refl
  nothing_left k (x ∷ xs) = refl

  -- where one of them has no more
  pub at_end : (n : ℕ) (xs ys : List TraceState) → n ≡ min (length xs) (length ys)
      → shared_from names 1 xs ys ≡ n + shared_from names (n + 1) (drop n xs) (drop n ys) → n ≡ shared_from names 1 xs ys
  at_end n xs ys e all = go (cases_lt (length xs) (length ys))
    where
      go : (length xs < length ys) ⊎ (length ys ≤ length xs) → n ≡ shared_from names 1 xs ys
      go (inl h) =
          let none : shared_from names (n + 1) (drop n xs) (drop n ys) ≡ 0 = ap (λ zs. shared_from names (n + 1) zs (drop n ys)) (drop_of_length-le xs (omega (arith, e, h))) in
          omega (arith, none, all)
      go (inr h) =
          let none : shared_from names (n + 1) (drop n xs) (drop n ys) ≡ 0 = ap (shared_from names (n + 1) (drop n xs)) (drop_of_length-le ys (omega (arith, e, h))) ∙ nothing_left (n + 1) (drop n xs) in
          omega (arith, none, all)

-- a text in two parts, behind which three more stand
ended : (f s all a b c : List ℕ) → f ++ s ≡ all → f ++ (((s ++ a) ++ b) ++ c) ≡ ((all ++ a) ++ b) ++ c
ended f s all a b c e =
    sym (append_assoc f ((s ++ a) ++ b) c)
    ∙ ap (λ t. t ++ c) (sym (append_assoc f (s ++ a) b) ∙ ap (λ t. t ++ b) (sym (append_assoc f s a) ∙ ap (λ t. t ++ a) e))

module _ (names : Names) (old new : Trace) where
  pub whole : AreWhole names (shared names old new) old new
  unfolding shared first_text rest_text trace_text
  whole =
      let n = shared_from names 1 old.states new.states in
      record {
        old_trace =
            ended (states_text names 1 (take n old.states)) (states_text names (n + 1) (drop n old.states)) (states_text names 1 old.states) (codes "outcome ") (label_text names old.outcome) (codes "\n")
            (parts names n 1 old.states);
        new_trace =
            ended (states_text names 1 (take n old.states)) (states_text names (n + 1) (drop n new.states)) (states_text names 1 new.states) (codes "outcome ") (label_text names new.outcome) (codes "\n")
            (ap (λ t. t ++ states_text names (n + 1) (drop n new.states)) (alike names 1 old.states new.states) ∙ parts names n 1 new.states);
      }

  pub part : PartAt names (shared names old new) old new
  unfolding shared
  part = record { apart = apart names 1 old.states new.states }
