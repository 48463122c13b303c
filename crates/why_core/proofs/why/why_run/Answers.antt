use Rattle.std.proofs.Common.{map, string_bytes}
use Rattle.job_core.proofs.EndingLemmas.{ends}
use Rattle.view_words.specs.Usage.{usage_text}
use Rattle.why_core.specs.Why.{Does, IsAccepted}
use Rattle.why_core.proofs.Accepted.{accepted_why}
use Rattle.why_core.proofs.Steps.{does_why}
use Rattle.why_core.specs.Words.{why_in}
use Rattle.why_core.proofs.why.why_run.Goals as goal

pub returns-clause-ends : goal.returns-clause-ends
returns-clause-ends g c =
    let words = map string_bytes c.args.words.now in
    let told = g.F.Files.told c.args.files.now in
    ends (Does words) (IsAccepted words) usage_text c.finish.result
    (record { told = told; faults_before = g.F.Files.faults c.args.files.now; faults_now = g.F.Files.faults c.explain-done.new.files })
    (record { before = g.O.Sink.taken c.args.out.now; now = g.O.Sink.taken c.finish.new.out; faults_before = g.O.Sink.faults c.args.out.now; faults_now = g.O.Sink.faults c.finish.new.out })
    (record { before = g.E.Sink.taken c.args.err.now; now = g.E.Sink.taken c.finish.new.err; faults_before = g.E.Sink.faults c.args.err.now; faults_now = g.E.Sink.faults c.finish.new.err })
    c.explain-done.result (does_why words told (why_in c.in-Some.asked) c.explain-done.result c.in-Some.ensures c.explain-done.ensures.explains) c.explain-done.ensures.cause (accepted_why words) c.finish.ensures
