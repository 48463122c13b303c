use Rattle.std.proofs.Common.{List, ℕ, [], ◌∷◌, ◌++◌, take, subst, ap, ◌∙◌, arith}
use Rattle.std.proofs.lemmas.List.{take_all}
use Rattle.text_tallies.specs.Tallies.{AreSeen}
use Rattle.place_checks.proofs.Firsts.{push_map}
use Rattle.doctor_warnings.specs.Texts.{limit_words}
use Rattle.doctor_warnings.proofs.Counts.{mapped_short, rows_are}
use Rattle.doctor_warnings.proofs.text.limit_tallies.Goals as goal

pub loop-limit-preserved : goal.loop-limit-preserved
loop-limit-preserved c =
    let xs = c.args.limits.now in
    let i = c.loop-limit.limit-index in
    let ks = limit_words (take i xs) in
    subst (λ (l : List (List ℕ)). AreSeen l c.add.new.self)
    (ap (λ k. ks ++ k ∷ []) c.as_bytes.ensures ∙ push_map [] xs i c.limit-item.result (omega arith) c.limit-item.is (λ l. l.words))
    (c.in_ok-add.ensures ks (mapped_short (λ l. l.words) xs i (omega arith) (omega arith)) c.loop-limit.invariant)

pub returns : goal.returns
returns c =
    let xs = c.args.limits.now in
    rows_are c.into_rows.result (limit_words xs) c.loop-limit.tallies c.into_rows.ensures
    (subst (λ (l : List (List ℕ)). AreSeen l c.loop-limit.tallies) (ap limit_words (take_all c.loop-limit.limit-index xs (omega arith))) c.loop-limit.invariant)
