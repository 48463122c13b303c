use Rattle.std.proofs.Common.{◌<◌, take}
use Rattle.cube_diagram.specs.Functions.{Keeps, count_of}
use Rattle.ask_query.specs.Breaking.{HaveFilters}
use Rattle.ask_query.proofs.answers.filtered.Given as goal

abbrev pub invariant-loop-question : goal.invariant-loop-question
invariant-loop-question l = record {
  kept : Keeps l.fn.table l.table;
  below : l.all < count_of l.table;
  filters : HaveFilters l.table l.all (take l.question-index l.questions);
}
