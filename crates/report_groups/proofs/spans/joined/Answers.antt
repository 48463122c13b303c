use Rattle.std.proofs.Common.{◌≡◌, ℕ, sym, ap, ◌∙◌, Vec, Global, Result, Ok, Err, List}
use Rattle.std.specs.Prelude.{IfOk}
use Rattle.std.specs.List.{list_any}
use Rattle.std.proofs.lemmas.List.Sorted.{list_any-IsPermutation}
use Rattle.report_groups.specs.declared.types.Span.{Span}
use Rattle.report_groups.specs.Values.{covers}
use Rattle.report_groups.proofs.spans.joined.Goals as goal

pub returns : goal.returns
returns c =
    let moved = λ (v : ℕ). list_any-IsPermutation (covers v) c.args.spans.items c.sort_by_key.new.self.items c.in_ok-sort_by_key.ensures.permutation in
    by c.deref.result.now c.args.spans.items c.merged.result (λ v. ap (list_any (covers v)) c.deref.ensures.value ∙ sym (moved v)) c.merged.ensures
  where
    by : {E : Type 0} (xs ys : List Span) (r : Result (Vec Span Global) E) → ((v : ℕ) → list_any (covers v) xs ≡ list_any (covers v) ys) → IfOk r (λ joined. (v : ℕ) → list_any (covers v) joined.items ≡ list_any (covers v) xs) → IfOk r (λ joined. (v : ℕ) → list_any (covers v) joined.items ≡ list_any (covers v) ys)
    by xs ys (Ok x) h e = λ v. e v ∙ h v
    by xs ys (Err x) h e = e
