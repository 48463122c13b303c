use Rattle.std.proofs.Common.{List, ℕ, [], ◌∷◌, ◌++◌, get_or, map, take, subst, ap, ◌∙◌, arith}
use Rattle.std.proofs.lemmas.List.{get_or_default}
use Rattle.text_tallies.specs.Tallies.{AreSeen}
use Rattle.doctor_warnings.specs.Told.{key}
use Rattle.doctor_warnings.proofs.Beside.{keys_more, no_line}
use Rattle.doctor_warnings.proofs.Counts.{mapped_short}
use Rattle.doctor_warnings.proofs.passing.tallies_of.Goals as goal

pub loop-line-preserved : goal.loop-line-preserved
loop-line-preserved c =
    let bytes = c.args.bytes.now in
    let told = c.args.told.now in
    let i = c.loop-line.line-index in
    let line = get_or told i no_line in
    let ks = map (key bytes) (take i told) in
    subst (λ (l : List (List ℕ)). AreSeen l c.add.new.self)
    (ap (λ k. ks ++ k ∷ []) (c.as_bytes.ensures ∙ c.in_ok-key.ensures) ∙ keys_more bytes told i line (omega arith) (get_or_default told i no_line line (omega arith)))
    (c.in_ok-add.ensures ks (mapped_short (key bytes) told i (omega arith) (omega arith)) c.loop-line.invariant)
