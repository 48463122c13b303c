use Rattle.std.proofs.Common.{List, ℕ, [], ◌∷◌, ◌++◌, take, subst, ap, ◌∙◌, arith}
use Rattle.std.proofs.lemmas.List.{take_all}
use Rattle.text_tallies.specs.Tallies.{AreSeen}
use Rattle.place_checks.proofs.Firsts.{push_map}
use Rattle.doctor_warnings.specs.Texts.{line_words}
use Rattle.doctor_warnings.proofs.Counts.{mapped_short, rows_are}
use Rattle.doctor_warnings.proofs.text.line_tallies.Goals as goal

pub loop-line-preserved : goal.loop-line-preserved
loop-line-preserved c =
    let xs = c.args.lines.now in
    let i = c.loop-line.line-index in
    let ks = line_words (take i xs) in
    subst (λ (l : List (List ℕ)). AreSeen l c.add.new.self)
    (ap (λ k. ks ++ k ∷ []) c.as_bytes.ensures ∙ push_map [] xs i c.line-item.result (omega arith) c.line-item.is (λ l. l.words))
    (c.in_ok-add.ensures ks (mapped_short (λ l. l.words) xs i (omega arith) (omega arith)) c.loop-line.invariant)

pub returns : goal.returns
returns c =
    let xs = c.args.lines.now in
    rows_are c.into_rows.result (line_words xs) c.loop-line.tallies c.into_rows.ensures
    (subst (λ (l : List (List ℕ)). AreSeen l c.loop-line.tallies) (ap line_words (take_all c.loop-line.line-index xs (omega arith))) c.loop-line.invariant)
