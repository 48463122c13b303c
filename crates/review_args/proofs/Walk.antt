-- The words one by one.
use Rattle.std.proofs.Common.{◌≡◌, ℕ, ◌+◌, suc, Bool, true, false, ◌||◌, List, [], ◌∷◌, ◌++◌, append-nil, Option, Some, None, refl, sym, ap, ◌∙◌, append_assoc, arith}
use Rattle.std.specs.Prelude.{filter_map, option_to_list}
use Rattle.std.specs.List.{before_first, after_first, position_or_len, list_any}
use Rattle.review_args.specs.Numbers.{Word}
use Rattle.review_args.specs.Words.{is_end, with_previous, pairs, is_name, positional, positional_in, values, value_in, has_stray, is_stray, ends_in_name}

one_more : (n : ℕ) → 1 + n ≡ suc n
one_more n = omega arith

two_more : (n : ℕ) → (1 + n) + 1 ≡ suc (n + 1)
two_more n = omega arith

before_more : {X : Type 0} (p : X → Bool) (x : X) (xs : List X) → p x ≡ false → before_first p (x ∷ xs) ≡ x ∷ before_first p xs
before_more p x xs e = rw (e, one_more (position_or_len p xs))

after_more : {X : Type 0} (p : X → Bool) (x : X) (xs : List X) → p x ≡ false → after_first p (x ∷ xs) ≡ after_first p xs
after_more p x xs e = rw (e, two_more (position_or_len p xs))

found_more : {X Y : Type 0} (f : X → Option Y) (x : X) (xs : List X) (o : Option Y) → f x ≡ o → filter_map f (x ∷ xs) ≡ option_to_list o ++ filter_map f xs
found_more f x xs None e = rw e refl
found_more f x xs (Some y) e = rw e refl

values_cons : (name p w : Word) (ws : List Word) → is_end w ≡ false → values name p (w ∷ ws) ≡ option_to_list (value_in name (p, w)) ++ values name w ws
values_cons name p w ws e =
    ap (λ words. filter_map (value_in name) (with_previous p words)) (before_more is_end w ws e)
    ∙ found_more (value_in name) (p, w) (pairs w ws) _ refl

positional_cons : (p w : Word) (ws : List Word) → is_end w ≡ false → positional p (w ∷ ws) ≡ option_to_list (positional_in (p, w)) ++ positional w ws
positional_cons p w ws e =
    ap (λ words. filter_map positional_in (with_previous p words) ++ after_first is_end (w ∷ ws)) (before_more is_end w ws e)
    ∙ ap (λ words. filter_map positional_in ((p, w) ∷ pairs w ws) ++ words) (after_more is_end w ws e)
    ∙ ap (λ words. words ++ after_first is_end ws) (found_more positional_in (p, w) (pairs w ws) _ refl)
    ∙ append_assoc (option_to_list (positional_in (p, w))) (filter_map positional_in (pairs w ws)) (after_first is_end ws)

stray_cons : (p w : Word) (ws : List Word) → is_end w ≡ false → has_stray p (w ∷ ws) ≡ ((is_stray (p, w) || list_any is_stray (pairs w ws)) || ends_in_name w (before_first is_end ws))
stray_cons p w ws e = ap (λ words. list_any is_stray (with_previous p words) || ends_in_name p words) (before_more is_end w ws e)

joined : (s b l n : Bool) → ((s || b) || (l || n)) ≡ (s || ((b || l) || n))
joined true b l n = refl
joined false true l n = refl
joined false false l n = refl

pub values_more : (name p w q : Word) (ws rest xs more all : List Word) → q ≡ w → rest ≡ w ∷ ws → is_end w ≡ false → more ≡ xs ++ option_to_list (value_in name (p, w)) → xs ++ values name p rest ≡ all → more ++ values name q ws ≡ all
values_more name p w q ws rest xs more all s r e m h =
    ap (λ word. more ++ values name word ws) s
    ∙ ap (λ words. words ++ values name w ws) m
    ∙ append_assoc xs (option_to_list (value_in name (p, w))) (values name w ws)
    ∙ ap (λ words. xs ++ words) (sym (ap (values name p) r ∙ values_cons name p w ws e))
    ∙ h

pub positional_more : (p w q : Word) (ws rest xs more all : List Word) → q ≡ w → rest ≡ w ∷ ws → is_end w ≡ false → more ≡ xs ++ option_to_list (positional_in (p, w)) → xs ++ positional p rest ≡ all → more ++ positional q ws ≡ all
positional_more p w q ws rest xs more all s r e m h =
    ap (λ word. more ++ positional word ws) s
    ∙ ap (λ words. words ++ positional w ws) m
    ∙ append_assoc xs (option_to_list (positional_in (p, w))) (positional w ws)
    ∙ ap (λ words. xs ++ words) (sym (ap (positional p) r ∙ positional_cons p w ws e))
    ∙ h

pub stray_more : (p w q : Word) (ws rest : List Word) (s t all : Bool) → q ≡ w → rest ≡ w ∷ ws → is_end w ≡ false → t ≡ (s || is_stray (p, w)) → (s || has_stray p rest) ≡ all → (t || has_stray q ws) ≡ all
stray_more p w q ws rest s t all same r e m h =
    ap (λ word. t || has_stray word ws) same
    ∙ ap (λ b. b || has_stray w ws) m
    ∙ joined s (is_stray (p, w)) (list_any is_stray (pairs w ws)) (ends_in_name w (before_first is_end ws))
    ∙ ap (λ b. s || b) (sym (ap (has_stray p) r ∙ stray_cons p w ws e))
    ∙ h

-- where no word is left before the first `--`
pub values_end : (name p : Word) (rest xs all : List Word) → before_first is_end rest ≡ [] → xs ++ values name p rest ≡ all → xs ≡ all
values_end name p rest xs all e h = sym (append-nil xs) ∙ ap (λ words. xs ++ filter_map (value_in name) (with_previous p words)) (sym e) ∙ h

pub positional_end : (p : Word) (rest last xs more all : List Word) → before_first is_end rest ≡ [] → after_first is_end rest ≡ last → more ≡ xs ++ last → xs ++ positional p rest ≡ all → more ≡ all
positional_end p rest last xs more all e l m h =
    m
    ∙ ap (λ words. xs ++ words) (sym l ∙ ap (λ words. filter_map positional_in (with_previous p words) ++ after_first is_end rest) (sym e))
    ∙ h

pub stray_end : (p : Word) (rest : List Word) (s all : Bool) → before_first is_end rest ≡ [] → (s || has_stray p rest) ≡ all → (s || is_name p) ≡ all
stray_end p rest s all e h = ap (λ words. s || (list_any is_stray (with_previous p words) || ends_in_name p words)) (sym e) ∙ h
