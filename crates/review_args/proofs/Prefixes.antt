-- What follows the beginning of a word.
use Rattle.std.proofs.Common.{◌≡◌, ℕ, List, ◌++◌, Option, Some, None, true, false, cond, length, drop, refl, ap, subst, ◌∙◌, nat_eq, Bor, option_copied}
use Rattle.std.specs.Option.{MatchOption}
use Rattle.std.specs.List.{starts_with}
use Rattle.std.specs.Str.Pattern.{FindsTextPrefix, StripsPrefix}
use Rattle.std.proofs.lemmas.Str.Pattern.{starts_text}
use Rattle.review_args.specs.Words.{after}

pub after_is : (r : Option (Bor (List ℕ))) (n s : List ℕ) → MatchOption r (FindsTextPrefix n s None) (λ x. StripsPrefix (FindsTextPrefix n) s x.now) → option_copied r ≡ after n s
after_is None n s h = ap (λ b. cond b (Some (drop (length n) s)) None) (starts_text false n s h)
after_is (Some x) n s h =
    let starts : true ≡ starts_with nat_eq s n = starts_text true n s (length n, (refl, subst (λ (k : ℕ). s ≡ n ++ drop k s) h.1.0 h.1.1, h.1.2), h.1.2) in
    ap Some (h.2 ∙ ap (λ k. drop k s) h.1.0) ∙ ap (λ b. cond b (Some (drop (length n) s)) None) starts
