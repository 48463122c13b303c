use Rattle.std.proofs.Common.{take}
use Rattle.std.specs.List.{AllZip}
use Rattle.indexmap.specs.IndexMap.{get}
use Rattle.cube_diagram.specs.Functions.{Keeps}
use Rattle.net_types.specs.World.{same_place}
use Rattle.net_view.specs.Borrowed.{world_of}
use Rattle.ask_query.specs.Breaking.{AreWalks}
use Rattle.ask_query.specs.Slots.{AnswersNumber}
use Rattle.ask_query.proofs.answers.answers_within.Given as goal

abbrev pub invariant-loop-number : goal.invariant-loop-number
invariant-loop-number l = record {
  kept : Keeps l.fn.table l.table;
  walks : AreWalks (world_of l.asked.net.now.world) l.asked.ttl l.table l.asked.domain (get same_place l.walks);
  answers : AllZip (AnswersNumber (world_of l.asked.net.now.world) l.asked.ttl l.asked.questions.now) (take l.number-index l.numbers) l.answers.items;
}
