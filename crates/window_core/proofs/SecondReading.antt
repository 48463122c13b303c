-- A text asks questions on a network whichever names are numbered with it, or is refused alike.
use Rattle.std.proofs.Common.{◌≡◌, ℕ, List, [], ◌∷◌, true, false, map, refl, sym, ap, subst, ◌∙◌}
use Rattle.std.specs.Prelude.{Bool, Option, Some, None, Result, Ok, Err, cond, find, is_some, option_map, option_and_then, position, slice_get}
use Rattle.std.proofs.lemmas.Option.{slice_get-map}
use Rattle.net_text.specs.declared.Line.{Line}
use Rattle.net_text.specs.Lines.{piece, lines_of}
use Rattle.net_types.specs.declared.config.Interface.{Interface}
use Rattle.net_types.specs.declared.config.Loaded.{Loaded}
use Rattle.net_types.specs.declared.network.Place.{Place}
use Rattle.net_types.specs.declared.question.QuestionKind.{QuestionKind}
use Rattle.net_types.specs.declared.question.QuestionKind.TheVariants as kind
use Rattle.net_types.specs.Routes.{same_text}
use Rattle.net_types.specs.World.{Seat}
use Rattle.net_load.specs.Numbering.{device_of, network_of, number_of}
use Rattle.ask_query.specs.declared.refusal.QuestionFail.{QuestionFail}
use Rattle.ask_query.specs.Devices.{is_called}
use Rattle.ask_query.specs.Refusals.{Word, ◌>>=◌}
use Rattle.ask_query.specs.Reading.{Said, begins_mark, device_called, filter_from, interface_at, kind_of, no_field, place_at, place_called, question_at, question_of, questions_in, questions_of, second_at, second_place, to_at, with_device, with_interface, with_kind}

-- both are refused alike, or both are read, with values that belong together
abbrev pub Alike : {A B : Type 0} → (A → B → Type 0) → Result A QuestionFail → Result B QuestionFail → Type 0
Alike R (Ok x) (Ok y) = R x y
Alike R (Err e) (Err f) = e ≡ f
Alike R (Ok x) (Err f) = ⊥
Alike R (Err e) (Ok y) = ⊥

alike_then : {A B C D : Type 0} (R : A → B → Type 0) (S : C → D → Type 0) (p : Result A QuestionFail) (q : Result B QuestionFail) (f : A → Result C QuestionFail) (g : B → Result D QuestionFail)
    → Alike R p q → ((x : A) (y : B) → R x y → Alike S (f x) (g y)) → Alike S (p >>= f) (q >>= g)
alike_then R S (Ok x) (Ok y) f g h k = k x y h
alike_then R S (Err e) (Err d) f g h k = h
alike_then R S (Ok x) (Err d) f g h k = absurd h
alike_then R S (Err e) (Ok y) f g h k = absurd h

abbrev Always : {A B : Type 0} → A → B → Type 0
Always x y = Unit {0}

-- the same words are left
abbrev SameRest : {A B : Type 0} → A × List Word → B × List Word → Type 0
SameRest x y = x.1 ≡ y.1

itself : {A : Type 0} (p : Result A QuestionFail) → Alike (λ x y. x ≡ y) p p
itself (Ok x) = refl
itself (Err e) = refl

find_mapped : {A B : Type 0} (f : A → B) (p : B → Bool) (xs : List A) → find p (map f xs) ≡ option_map f (find (λ x. p (f x)) xs)
find_mapped f p [] = refl
find_mapped f p (x ∷ xs) = elim (p (f x)) as (λ b. cond b (Some (f x)) (find p (map f xs)) ≡ option_map f (cond b (Some x) (find (λ y. p (f y)) xs))) [ true ↦ refl | false ↦ find_mapped f p xs ]

module _ (ns ms : List Word) where
  -- ---- places

  abbrev seat_of : List Word → Loaded → Interface → ℕ → Seat
  seat_of names l f n = record { place = record { device = number_of names l.config.hostname; interface = n }; device = device_of names l; interface = f }

  abbrev with_number : List Word → Loaded → Option ℕ → Option Interface → Option Seat
  with_number names l number o = option_and_then (λ f. option_map (seat_of names l f) number) o

  abbrev place_of_seat : Option Seat → Option Place
  place_of_seat o = option_map (λ (s : Seat). s.place) o

  -- an interface is there or not
  seat_there : (l : Loaded) (o : Option Interface)
      → is_some (place_of_seat (with_number ns l (option_map (λ (i : Interface). number_of ns i.name) o) o)) ≡ is_some (place_of_seat (with_number ms l (option_map (λ (i : Interface). number_of ms i.name) o) o))
  seat_there l None = refl
  seat_there l (Some f) = refl

  abbrev numbers_of : List Word → Loaded → List ℕ
  numbers_of names l = map (λ (i : Interface). number_of names i.name) l.config.interfaces

  abbrev seat_at_position : List Word → Loaded → ℕ → Option Seat
  seat_at_position names l i = with_number names l (slice_get (numbers_of names l) i) (slice_get l.config.interfaces i)

  position_there : (l : Loaded) (o : Option ℕ) → is_some (place_of_seat (option_and_then (seat_at_position ns l) o)) ≡ is_some (place_of_seat (option_and_then (seat_at_position ms l) o))
  position_there l None = refl
  position_there l (Some i) =
      ap (λ k. is_some (place_of_seat (with_number ns l k (slice_get l.config.interfaces i)))) (slice_get-map (λ (j : Interface). number_of ns j.name) l.config.interfaces i)
      ∙ seat_there l (slice_get l.config.interfaces i)
      ∙ sym (ap (λ k. is_some (place_of_seat (with_number ms l k (slice_get l.config.interfaces i)))) (slice_get-map (λ (j : Interface). number_of ms j.name) l.config.interfaces i))

  place_there : (l : Loaded) (w : Word) → is_some (place_called (device_of ns l) w) ≡ is_some (place_called (device_of ms l) w)
  place_there l w = position_there l (position (λ (i : Interface). same_text i.name w) l.config.interfaces)

  with_either : (n : ℕ) (w : Word) (words : List Word) (o p : Option Place) → is_some o ≡ is_some p → Alike SameRest (with_interface n w words o) (with_interface n w words p)
  with_either n w words None None e = refl
  with_either n w words (Some a) (Some b) e = refl
  with_either n w words None (Some b) e = absurd cc
  with_either n w words (Some a) None e = absurd cc

  interfaces_alike : (l : Loaded) (n : ℕ) (words : List Word) → Alike SameRest (interface_at (device_of ns l) n words) (interface_at (device_of ms l) n words)
  unfolding interface_at
  interfaces_alike l n [] = refl
  interfaces_alike l n (w ∷ words) = with_either n w words (place_called (device_of ns l) w) (place_called (device_of ms l) w) (place_there l w)

  module _ (ls : List Loaded) where
    devices_alike : (n : ℕ) (w : Word) (words : List Word) (o : Option Loaded) → Alike SameRest (with_device n w words (option_map (device_of ns) o)) (with_device n w words (option_map (device_of ms) o))
    devices_alike n w words None = refl
    devices_alike n w words (Some l) = interfaces_alike l n words

    places_alike : (n : ℕ) (words : List Word) → Alike SameRest (place_at (network_of ns ls) n words) (place_at (network_of ms ls) n words)
    unfolding place_at
    places_alike n [] = refl
    places_alike n (w ∷ words) =
        subst (λ o. Alike SameRest (with_device n w words o) (with_device n w words (device_called (network_of ms ls) w))) (sym (find_mapped (device_of ns) (is_called w) ls))
        (subst (λ o. Alike SameRest (with_device n w words (option_map (device_of ns) (find (λ (l : Loaded). same_text l.config.hostname w) ls))) (with_device n w words o)) (sym (find_mapped (device_of ms) (is_called w) ls))
        (devices_alike n w words (find (λ (l : Loaded). same_text l.config.hostname w) ls)))

    -- ---- questions

    second_places_alike : (n : ℕ) (words : List Word) → Alike SameRest (second_place (network_of ns ls) n words) (second_place (network_of ms ls) n words)
    unfolding second_place
    second_places_alike n words =
        alike_then (λ x y. x ≡ y) SameRest (to_at n words) (to_at n words) _ _ (itself (to_at n words))
        (λ x y e. subst (λ z. Alike SameRest (place_at (network_of ns ls) n x >>= λ p. Ok (Some p.0, p.1)) (place_at (network_of ms ls) n z >>= λ p. Ok (Some p.0, p.1))) e
        (alike_then SameRest SameRest (place_at (network_of ns ls) n x) (place_at (network_of ms ls) n x) _ _ (places_alike n x) (λ p q r. r)))

    seconds_alike : (k : QuestionKind) (n : ℕ) (words : List Word) → Alike SameRest (second_at (network_of ns ls) k n words) (second_at (network_of ms ls) k n words)
    unfolding second_at
    seconds_alike kind.Reach n words = second_places_alike n words
    seconds_alike kind.Isolate n words = second_places_alike n words
    seconds_alike kind.NoLoop n words = refl

    filters_alike : {A B : Type 0} (n : ℕ) (words others : List Word) (f : ℕ × ℕ → Result A QuestionFail) (g : ℕ × ℕ → Result B QuestionFail) → words ≡ others
        → ((m : ℕ × ℕ) → Alike Always (f m) (g m)) → Alike Always (filter_from n no_field words >>= f) (filter_from n no_field others >>= g)
    filters_alike n words others f g e h =
        subst (λ z. Alike Always (filter_from n no_field words >>= f) (filter_from n no_field z >>= g)) e
        (alike_then (λ x y. x ≡ y) Always (filter_from n no_field words) (filter_from n no_field words) f g (itself (filter_from n no_field words)) (λ x y r. subst (λ z. Alike Always (f x) (g z)) r (h x)))

    questions_of_alike : (k : QuestionKind) (n : ℕ) (words : List Word) → Alike Always (question_of (network_of ns ls) k n words) (question_of (network_of ms ls) k n words)
    unfolding question_of
    questions_of_alike k n words =
        alike_then SameRest Always (place_at (network_of ns ls) n words) (place_at (network_of ms ls) n words) _ _ (places_alike n words)
        (λ p q r. alike_then SameRest Always (second_at (network_of ns ls) k n p.1) (second_at (network_of ms ls) k n q.1) _ _
        (subst (λ z. Alike SameRest (second_at (network_of ns ls) k n p.1) (second_at (network_of ms ls) k n z)) r (seconds_alike k n p.1))
        (λ s t e. filters_alike n s.1 t.1 _ _ e (λ m. tt)))

    kinds_alike : (n : ℕ) (w : Word) (words : List Word) (o : Option QuestionKind) → Alike Always (with_kind (network_of ns ls) n w words o) (with_kind (network_of ms ls) n w words o)
    kinds_alike n w words None = refl
    kinds_alike n w words (Some k) =
        alike_then Always Always (question_of (network_of ns ls) k n words) (question_of (network_of ms ls) k n words) _ _ (questions_of_alike k n words) (λ x y e. tt)

    line_alike : (n : ℕ) (words : List Word) → Alike Always (question_at (network_of ns ls) n words) (question_at (network_of ms ls) n words)
    unfolding question_at
    line_alike n [] = tt
    line_alike n (w ∷ words) =
        elim (begins_mark w) as (λ b. Alike Always (cond b (Ok None) (with_kind (network_of ns ls) n w words (kind_of w))) (cond b (Ok None) (with_kind (network_of ms ls) n w words (kind_of w)))) [ true ↦ tt | false ↦ kinds_alike n w words (kind_of w) ]

    lines_alike : (bytes : List ℕ) (lines : List Line) → Alike Always (questions_in (network_of ns ls) bytes lines) (questions_in (network_of ms ls) bytes lines)
    unfolding questions_in
    lines_alike bytes [] = tt
    lines_alike bytes (l ∷ lines) =
        alike_then Always Always (question_at (network_of ns ls) l.number (map (piece bytes) l.words)) (question_at (network_of ms ls) l.number (map (piece bytes) l.words)) _ _ (line_alike l.number (map (piece bytes) l.words))
        (λ x y e. alike_then Always Always (questions_in (network_of ns ls) bytes lines) (questions_in (network_of ms ls) bytes lines) _ _ (lines_alike bytes lines) (λ p q d. tt))

    pub texts_alike : (bytes : List ℕ) → Alike Always (questions_of (network_of ns ls) bytes) (questions_of (network_of ms ls) bytes)
    texts_alike bytes = lines_alike bytes (lines_of bytes)

-- what is read of one is read of the other
pub read_alike : (p q : Result (List Said) QuestionFail) (xs : List Said) → Alike Always p q → p ≡ Ok xs → (ys : List Said) × (q ≡ Ok ys)
read_alike (Ok x) (Ok y) xs h e = (y, refl)
read_alike (Ok x) (Err f) xs h e = absurd h
read_alike (Err d) (Ok y) xs h e = absurd h
read_alike (Err d) (Err f) xs h e = absurd cc

pub refused_alike : (p q : Result (List Said) QuestionFail) (e : QuestionFail) → Alike Always p q → p ≡ Err e → q ≡ Err e
refused_alike (Ok x) (Ok y) e h r = absurd cc
refused_alike (Ok x) (Err f) e h r = absurd h
refused_alike (Err d) (Ok y) e h r = absurd h
refused_alike (Err d) (Err f) e h r = cc

pub turned : (p q : Result (List Said) QuestionFail) → Alike Always p q → Alike Always q p
turned (Ok x) (Ok y) h = tt
turned (Ok x) (Err f) h = absurd h
turned (Err d) (Ok y) h = absurd h
turned (Err d) (Err f) h = sym h
