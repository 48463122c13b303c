-- What is answered by parts.
use Rattle.std.proofs.Common.{◌≡◌, ℕ, ◌||◌, List, [], ◌∷◌, Option, Some, Result, map, refl, ap, subst, sym, Bor}
use Rattle.std.specs.Prelude.{option_and_then}
use Rattle.std.specs.List.{list_any}
use Rattle.review_args.specs.Numbers.{Word}
use Rattle.review_args.specs.Requests.{Answers, without, is_empty}
use Rattle.review_args.specs.declared.request.Request.{Request}
use Rattle.review_args.specs.declared.request.WordsFail.{WordsFail}

pub with_number : (o : Option ℕ) (n : ℕ) (f : ℕ → Option Request) (r : Result Request WordsFail) → Some n ≡ o → Answers (f n) r → Answers (option_and_then f o) r
with_number o n f r e h = subst (λ (x : Option ℕ). Answers (option_and_then f x) r) e h

pub without_option : (ws : List Word) (o : Option Request) (r : Result Request WordsFail) → ws ≡ [] → Answers o r → Answers (without ws o) r
without_option ws o r e h = subst (λ (x : List Word). Answers (without x o) r) (sym e) h

pub any_empty : (ws : List (Bor (List ℕ))) → list_any (λ w. is_empty w.now) ws ≡ list_any is_empty (map (λ w. w.now) ws)
any_empty [] = refl
any_empty (w ∷ ws) = ap (λ b. is_empty w.now || b) (any_empty ws)
