-- Names cut out of paths.
use Rattle.std.proofs.Common.{◌≡◌, ◌≢◌, ℕ, List, [], ◌∷◌, ◌++◌, Option, Some, None, true, false, cond, length, drop, refl, sym, ap, subst, ◌∙◌, ◌==◌, nat_eq, arith, Bor, option_copied}
use Rattle.std.specs.Option.{MatchOption}
use Rattle.std.specs.List.{starts_with}
use Rattle.std.specs.Str.Pattern.{FindsTextPrefix, StripsPrefix}
use Rattle.std.proofs.lemmas.Str.Pattern.{starts_text}
use Rattle.std.proofs.lemmas.Bool.Decides.{nat_tests}
use Rattle.net_io.specs.Names.{after_folder, after_slash}

pub prefix_is : (r : Option (Bor (List ℕ))) (n s : List ℕ) → MatchOption r (FindsTextPrefix n s None) (λ x. StripsPrefix (FindsTextPrefix n) s x.now) → option_copied r ≡ after_folder n s
prefix_is None n s h = ap (λ b. cond b (Some (drop (length n) s)) None) (starts_text false n s h)
prefix_is (Some x) n s h =
    let starts : true ≡ starts_with nat_eq s n = starts_text true n s (length n, (refl, subst (λ (k : ℕ). s ≡ n ++ drop k s) h.1.0 h.1.1, h.1.2), h.1.2) in
    ap Some (h.2 ∙ ap (λ k. drop k s) h.1.0) ∙ ap (λ b. cond b (Some (drop (length n) s)) None) starts

slash_of : (bs : List ℕ) → ((rest : List ℕ) → bs ≢ 47 ∷ rest) → None ≡ after_slash bs
slash_of [] h = refl
slash_of (c ∷ cs) h = elim (c == 47) as (λ b. (c == 47) ≡ b → None ≡ cond b (Some cs) None) [
  | true ↦ λ e. (let same : c ≡ 47 = grind (arith, nat_tests) in absurd (h cs (ap (λ z. z ∷ cs) same)))
  | false ↦ λ e. refl
] refl

pub slash_is : (r : Option (Bor (List ℕ))) (bs : List ℕ) → MatchOption r ((rest : List ℕ) → bs ≢ 47 ∷ rest) (λ x. bs ≡ 47 ∷ x.now) → option_copied r ≡ after_slash bs
slash_is None bs h = slash_of bs h
slash_is (Some x) bs h = sym (ap after_slash h)
