use Rattle.std.proofs.Common.{map, inl, inr, arith}
use Rattle.std.proofs.lemmas.List.{length-map}
use Rattle.why_core.specs.Cases.{case_in}
use Rattle.why_core.proofs.CaseLemmas.{all_explained, first_explained}
use Rattle.why_core.proofs.cases.explained.Goals as goal
use Rattle.why_core.proofs.cases.explained.Goals.{then-all-via-then-all, then-all-via-else-all+then-cases-le100}

pub returns-then-all : goal.returns-then-all
returns-then-all c =
    let size = length-map c.args.cases.now case_in in
    elim c.then-all.branch [
      | then-all-via-then-all w ↦ all_explained c.args.all (map case_in c.args.cases.now) (inl w.if-all.true)
      | then-all-via-else-all+then-cases-le100 w ↦ all_explained c.args.all (map case_in c.args.cases.now) (inr (omega (arith, size)))
    ]

pub returns : goal.returns
returns c = first_explained c.args.all c.args.cases.now c.split_at.result.0.now c.if-all.false c.split_at.ensures.front
