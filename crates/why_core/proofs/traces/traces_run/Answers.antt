use Rattle.std.proofs.Common.{map, string_bytes}
use Rattle.job_core.proofs.EndingLemmas.{ends}
use Rattle.view_words.specs.Usage.{usage_text}
use Rattle.why_core.specs.Traces.{Does, IsAccepted}
use Rattle.why_core.proofs.Accepted.{accepted_traces}
use Rattle.why_core.proofs.Steps.{does_traces}
use Rattle.why_core.specs.Words.{traces_in}
use Rattle.why_core.proofs.traces.traces_run.Goals as goal

pub returns-clause-ends : goal.returns-clause-ends
returns-clause-ends g c =
    let words = map string_bytes c.args.words.now in
    let told = g.F.Files.told c.args.files.now in
    ends (Does words) (IsAccepted words) usage_text c.finish.result
    (record { told = told; faults_before = g.F.Files.faults c.args.files.now; faults_now = g.F.Files.faults c.follow-done.new.files })
    (record { before = g.O.Sink.taken c.args.out.now; now = g.O.Sink.taken c.finish.new.out; faults_before = g.O.Sink.faults c.args.out.now; faults_now = g.O.Sink.faults c.finish.new.out })
    (record { before = g.E.Sink.taken c.args.err.now; now = g.E.Sink.taken c.finish.new.err; faults_before = g.E.Sink.faults c.args.err.now; faults_now = g.E.Sink.faults c.finish.new.err })
    c.follow-done.result (does_traces words told (traces_in c.in-Ok-Some.asked) c.follow-done.result (rw c.in-Ok-Some.field-0-is at c.in-Ok-Some.ensures) c.follow-done.ensures.follows) c.follow-done.ensures.cause (accepted_traces words) c.finish.ensures
