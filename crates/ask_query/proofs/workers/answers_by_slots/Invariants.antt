use Rattle.net_view.specs.Borrowed.{world_of}
use Rattle.ask_query.proofs.workers.answers_by_slots.Given as goal

abbrev pub ghosts-answers_in_twins-K-Asking : goal.ghosts-answers_in_twins-K-Asking
ghosts-answers_in_twins-K-Asking g a = record {
  world = world_of a.asked.now.net.now.world;
  ttl = a.asked.now.ttl;
  questions = a.asked.now.questions.now;
  slots = a.asked.now.slots.now;
}

abbrev pub ghosts-answers_in_twins-K-Base : goal.ghosts-answers_in_twins-K-Base
ghosts-answers_in_twins-K-Base g a = record { base = a.table }
