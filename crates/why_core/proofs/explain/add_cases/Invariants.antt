use Rattle.std.proofs.Common.{◌≡◌, ◌++◌, map, take, true}
use Rattle.std.specs.List.{list_all}
use Rattle.why_core.specs.Cases.{case_in, ground_of, is_right}
use Rattle.why_core.specs.Shown.{case_shown}
use Rattle.why_core.proofs.explain.add_cases.Given as goal

abbrev pub invariant-loop-case : goal.invariant-loop-case
invariant-loop-case l = record {
  same : ground_of l.basis ≡ ground_of l.initial.basis;
  told : map (λ text. text.items) l.told.items ≡ map (λ text. text.items) l.initial.told.items ++ map (case_shown l.format (ground_of l.initial.basis)) (map case_in (take l.case-index l.cases));
  right : list_all (is_right (ground_of l.initial.basis)) (map case_in (take l.case-index l.cases)) ≡ true;
}
