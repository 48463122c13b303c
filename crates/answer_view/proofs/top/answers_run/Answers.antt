use Rattle.std.proofs.Common.{map, string_bytes}
use Rattle.job_core.proofs.EndingLemmas.{ends}
use Rattle.view_words.specs.Usage.{usage_text}
use Rattle.answer_view.specs.Views.{Does, IsAccepted}
use Rattle.answer_view.proofs.Asks.{accepted_may_stop}
use Rattle.answer_view.proofs.top.answers_run.Goals as goal

pub returns-clause-ends : goal.returns-clause-ends
returns-clause-ends g c =
    let words = map string_bytes c.args.words.now in
    ends (Does words) (IsAccepted words) usage_text c.finish.result
    (record { told = g.F.Files.told c.args.files.now; faults_before = g.F.Files.faults c.args.files.now; faults_now = g.F.Files.faults c.perform-done.new.files })
    (record { before = g.O.Sink.taken c.args.out.now; now = g.O.Sink.taken c.finish.new.out; faults_before = g.O.Sink.faults c.args.out.now; faults_now = g.O.Sink.faults c.finish.new.out })
    (record { before = g.E.Sink.taken c.args.err.now; now = g.E.Sink.taken c.finish.new.err; faults_before = g.E.Sink.faults c.args.err.now; faults_now = g.E.Sink.faults c.finish.new.err })
    c.perform-done.result c.perform-done.ensures.does c.perform-done.ensures.cause (accepted_may_stop words) c.finish.ensures
