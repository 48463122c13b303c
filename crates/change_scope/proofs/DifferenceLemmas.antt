-- Sets that have the headers to which two functions give different values.
use Rattle.std.proofs.Common.{ℕ, ◌≡◌, ◌<◌, ◌+◌, ◌⊎◌, inl, inr, cond, List, [], ◌∷◌, length, get_or, slice_get, Option, Some, None, IsSome, refl, ap, sym, ◌∙◌, subst, arith}
use Rattle.std.specs.Option.{option_or}
use Rattle.std.proofs.lemmas.Bool.Decides.{eqb_tells}
use Rattle.std.proofs.lemmas.Option.{slice_get-get_or}
use Rattle.hdr_bits.specs.HeaderBits.{number}
use Rattle.cube_diagram.specs.Combined.{difference}
use Rattle.cube_diagram.specs.Entries.{first_value}
use Rattle.cube_diagram.specs.Functions.{Functions, IsByDestination, Keeps, count_of, value_at}
use Rattle.hdr_bits.specs.declared.header.Header.{Header}
use Rattle.set_walk.specs.Sets.{InSet}
use Rattle.net_forms.specs.declared.forms.SeatForm.{SeatForm}
use Rattle.change_scope.proofs.NamedLemmas.{destinations_closed, pair_next}
use Rattle.change_scope.specs.Differences.{AgreeBeyond, AreBelow, HasAll, IsBelow, SeatsAgree, SeatsAgreeBelow}
use Rattle.change_scope.specs.Translated.{ByDestination}

or_first : (x y : Option ℕ) → IsSome x → IsSome (option_or x y)
or_first None y e = absurd cc
or_first (Some u) y e = refl

or_second : (x y : Option ℕ) → IsSome y → IsSome (option_or x (option_or y None))
or_second None None e = absurd cc
or_second None (Some u) e = refl
or_second (Some u) y e = refl

is_one : (x : Option ℕ) → x ≡ Some 1 → IsSome x
is_one x e = subst (λ o. IsSome o) (sym e) refl

in_either : (x y : Option ℕ) → IsSome (option_or x (option_or y None)) → IsSome x ⊎ IsSome y
in_either None None s = absurd cc
in_either None (Some u) s = inr refl
in_either (Some u) y s = inl refl

same_value : (x y : Option ℕ) → (IsSome (difference x y) → ⊥) → x ≡ y
same_value None None n = refl
same_value None (Some v) n = absurd (n refl)
same_value (Some u) None n = absurd (n refl)
same_value (Some u) (Some v) n =
    elim (eqb_tells u v) [
      | inl p ↦ ap Some p.1
      | inr p ↦ absurd (n (subst (λ b. IsSome {T = ℕ} (cond b None (Some 1))) (sym p.0) refl))
    ]

-- ---- the set with all headers to the destinations of another one
module _ (f g k t : Functions) (set d e r : ℕ) (kept : Keeps f k) (l : set < count_of f) (told : IsByDestination (value_at g d) (value_at k e)) (union : (h : ℕ) → value_at t r h ≡ first_value (value_at k) (set ∷ e ∷ []) h) where
  had : (h : Header) → InSet f set h → InSet k set h
  had h x = subst (λ o. IsSome o) (sym (kept.value set l (number h))) x

  pub with_all : HasAll f set t r
  with_all h x = subst (λ o. IsSome o) (sym (union (number h))) (or_first (value_at k set (number h)) (option_or (value_at k e (number h)) None) (had h x))

  reached : (h : Header) → InSet k e h → InSet t r h
  reached h x = subst (λ o. IsSome o) (sym (union (number h))) (or_second (value_at k set (number h)) (value_at k e (number h)) x)

  pub with_difference : (a b : ℕ) → ((h : ℕ) → value_at g d h ≡ difference (value_at f a h) (value_at f b h)) → AgreeBeyond f a b t r
  with_difference a b p h out =
      same_value (value_at f a (number h)) (value_at f b (number h)) (λ s. out (reached h (is_one (value_at k e (number h)) (told.has (number h) (number h) refl (subst (λ o. IsSome o) (sym (p (number h))) s)))))

  pub with_destinations : ByDestination f set → ByDestination t r
  with_destinations by h x v u same i =
      elim (in_either (value_at k set (number h)) (value_at k e (number h)) (subst (λ o. IsSome o) (union (number h)) i)) [
        | inl s ↦ with_all x (by h x v u same (subst (λ o. IsSome o) (kept.value set l (number h)) s))
        | inr s ↦ reached x (destinations_closed (value_at g d) (value_at k e) told h x v u same s)
      ]

pub agree_more : (f g k : Functions) (a b s t : ℕ) → HasAll g s k t → AgreeBeyond f a b g s → AgreeBeyond f a b k t
agree_more f g k a b s t m e h out = e h (λ x. out (m h x))

pub agree_before : (f g k : Functions) (a b t : ℕ) → Keeps f g → a < count_of f → b < count_of f → AgreeBeyond g a b k t → AgreeBeyond f a b k t
agree_before f g k a b t kept l m e h out = sym (kept.value a l (number h)) ∙ (e h out ∙ kept.value b m (number h))

pub seats_more : (f g k : Functions) (x y : SeatForm) (s t : ℕ) → HasAll g s k t → SeatsAgree f x y g s → SeatsAgree f x y k t
seats_more f g k x y s t m a = record { input = agree_more f g k x.input y.input s t m a.input; output = agree_more f g k x.output y.output s t m a.output }

pub all_same : (f : Functions) (set : ℕ) → HasAll f set f set
all_same f set h x = x

pub all_then : (f g k : Functions) (a b c : ℕ) → HasAll f a g b → HasAll g b k c → HasAll f a k c
all_then f g k a b c m n h x = n h (m h x)

pub agree_same : (f : Functions) (a b set : ℕ) → a ≡ b → AgreeBeyond f a b f set
agree_same f a b set e h out = ap (λ n. value_at f n (number h)) e

pub kept_below : (f g : Functions) (n : ℕ) → Keeps f g → n < count_of f → n < count_of g
kept_below f g n k l = let c = k.count in omega (arith, c, l)

pub keeps_same : (f : Functions) → Keeps f f
keeps_same f = record { count = omega arith; value = λ i l h. refl }

pub keeps_then : (f g k : Functions) → Keeps f g → Keeps g k → Keeps f k
keeps_then f g k a b =
    let m = a.count in
    let n = b.count in
    record { count = omega (arith, m, n); value = λ i l h. b.value i (omega (arith, l, m)) h ∙ a.value i l h }

pub seat_kept : (f g : Functions) (x : SeatForm) → Keeps f g → IsBelow f x → IsBelow g x
seat_kept f g x k b = record { input = kept_below f g x.input k b.input; output = kept_below f g x.output k b.output }

pub below_kept : (f g : Functions) (xs : List SeatForm) → Keeps f g → AreBelow f xs → AreBelow g xs
below_kept f g xs k a i x e = seat_kept f g x k (a i x e)

pub seats_none : (f g : Functions) (xs ys : List SeatForm) (set : ℕ) → SeatsAgreeBelow f xs ys 0 g set
seats_none f g xs ys set i l = absurd (omega (arith, l))

-- one more position
pub seats_next : (f g k : Functions) (xs ys : List SeatForm) (n : ℕ) (x y : SeatForm) (s t : ℕ) → Keeps f g → AreBelow f xs → AreBelow f ys → slice_get xs n ≡ Some x → slice_get ys n ≡ Some y → HasAll g s k t → SeatsAgreeBelow f xs ys n g s → SeatsAgree g x y k t → SeatsAgreeBelow f xs ys (n + 1) k t
seats_next f g k xs ys n x y s t kept p q e o m a b i l u v c d =
    pair_next (λ u v. SeatsAgree f u v k t) xs ys n x y e o (λ i l u v c d. seats_more f g k u v s t m (a i l u v c d)) (one (p n x e) (q n y o)) i l u v c d
  where
    one : IsBelow f x → IsBelow f y → SeatsAgree f x y k t
    one lx ly = record { input = agree_before f g k x.input y.input t kept lx.input ly.input b.input; output = agree_before f g k x.output y.output t kept lx.output ly.output b.output }

-- read by their index
pub seats_at_next : (f g k : Functions) (xs ys : List SeatForm) (n : ℕ) (d e : SeatForm) (s t : ℕ) → Keeps f g → AreBelow f xs → AreBelow f ys → length ys ≡ length xs → n < length xs → HasAll g s k t → SeatsAgreeBelow f xs ys n g s → SeatsAgree g (get_or xs n d) (get_or ys n e) k t → SeatsAgreeBelow f xs ys (n + 1) k t
seats_at_next f g k xs ys n d e s t kept p q c l m a b =
    seats_next f g k xs ys n (get_or xs n d) (get_or ys n e) s t kept p q (slice_get-get_or xs n d l) (slice_get-get_or ys n e (omega (arith, c, l))) m a b

pub seats_before : (f g k : Functions) (xs ys : List SeatForm) (n t : ℕ) → Keeps f g → AreBelow f xs → AreBelow f ys → SeatsAgreeBelow g xs ys n k t → SeatsAgreeBelow f xs ys n k t
seats_before f g k xs ys n t kept p q a i l x y c d =
    let s = a i l x y c d in
    let lx = p i x c in
    let ly = q i y d in
    record { input = agree_before f g k x.input y.input t kept lx.input ly.input s.input; output = agree_before f g k x.output y.output t kept lx.output ly.output s.output }
