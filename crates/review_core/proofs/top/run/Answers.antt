use Rattle.std.proofs.Common.{◌≡◌, Some, map, string_bytes, ap}
use Rattle.std.specs.Prelude.{option_map}
use Rattle.job_core.proofs.EndingLemmas.{ends, names_last}
use Rattle.review_args.specs.declared.request.Request.{Request}
use Rattle.review_args.specs.Requests.{job_of}
use Rattle.review_core.specs.Accepted.{IsAccepted}
use Rattle.review_core.specs.Lines.{usage_text}
use Rattle.review_core.specs.Job.{Does}
use Rattle.review_core.proofs.Accepted.{accepted_may_stop, does_job}
use Rattle.review_core.proofs.top.run.Goals as goal

pub returns-clause-ends : goal.returns-clause-ends
returns-clause-ends g c =
    let words = map string_bytes c.args.words.now in
    let told = g.F.Files.told c.args.files.now in
    let done = c.perform-done.result in
    let asked : job_of words ≡ Some c.in-Ok.request.job = ap (option_map (λ (r : Request). r.job)) c.in-Ok.ensures.request in
    ends (Does words) (IsAccepted words) usage_text c.finish.result
    (record { told = told; faults_before = g.F.Files.faults c.args.files.now; faults_now = g.F.Files.faults c.perform-done.new.files })
    (record { before = g.O.Sink.taken c.args.out.now; now = g.O.Sink.taken c.finish.new.out; faults_before = g.O.Sink.faults c.args.out.now; faults_now = g.O.Sink.faults c.finish.new.out })
    (record { before = g.E.Sink.taken c.args.err.now; now = g.E.Sink.taken c.finish.new.err; faults_before = g.E.Sink.faults c.args.err.now; faults_now = g.E.Sink.faults c.finish.new.err })
    done (does_job words told c.in-Ok.request.job done asked c.perform-done.ensures.job) c.perform-done.ensures.cause (accepted_may_stop words) c.finish.ensures

pub returns-clause-cannot_read : goal.returns-clause-cannot_read
returns-clause-cannot_read g c four =
    names_last c.perform-done.result c.finish.result (g.F.Files.last c.perform-done.new.files)
    (record { before = g.O.Sink.taken c.args.out.now; now = g.O.Sink.taken c.finish.new.out; faults_before = g.O.Sink.faults c.args.out.now; faults_now = g.O.Sink.faults c.finish.new.out })
    (record { before = g.E.Sink.taken c.args.err.now; now = g.E.Sink.taken c.finish.new.err; faults_before = g.E.Sink.faults c.args.err.now; faults_now = g.E.Sink.faults c.finish.new.err })
    c.perform-done.ensures.last c.finish.ensures four
