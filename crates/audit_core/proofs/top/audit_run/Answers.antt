use Rattle.std.proofs.Common.{◌≡◌, Some, map, string_bytes, ap, sym, ◌∙◌}
use Rattle.std.specs.Option.{option_copied}
use Rattle.job_core.proofs.EndingLemmas.{ends, names_last}
use Rattle.rollout_words.specs.Usage.{usage_text}
use Rattle.audit_core.specs.Words.{net_of}
use Rattle.audit_core.specs.Audits.{Does, IsAccepted}
use Rattle.audit_core.proofs.Endings.{does_net, accepted_may_stop}
use Rattle.audit_core.proofs.top.audit_run.Goals as goal

pub returns-clause-ends : goal.returns-clause-ends
returns-clause-ends g c =
    let words = map string_bytes c.args.words.now in
    let told = g.F.Files.told c.args.files.now in
    let done = c.audit_network-done.result in
    let asked : net_of words ≡ Some c.in-Some.net.now = sym c.net_of.ensures ∙ ap option_copied c.in-Some.is in
    ends (Does words) (IsAccepted words) usage_text c.finish.result
    (record { told = told; faults_before = g.F.Files.faults c.args.files.now; faults_now = g.F.Files.faults c.audit_network-done.new.files })
    (record { before = g.O.Sink.taken c.args.out.now; now = g.O.Sink.taken c.finish.new.out; faults_before = g.O.Sink.faults c.args.out.now; faults_now = g.O.Sink.faults c.finish.new.out })
    (record { before = g.E.Sink.taken c.args.err.now; now = g.E.Sink.taken c.finish.new.err; faults_before = g.E.Sink.faults c.args.err.now; faults_now = g.E.Sink.faults c.finish.new.err })
    done (does_net words told c.in-Some.net.now done asked c.audit_network-done.ensures.job) c.audit_network-done.ensures.cause (accepted_may_stop words) c.finish.ensures

pub returns-clause-cannot_read : goal.returns-clause-cannot_read
returns-clause-cannot_read g c four =
    names_last c.audit_network-done.result c.finish.result (g.F.Files.last c.audit_network-done.new.files)
    (record { before = g.O.Sink.taken c.args.out.now; now = g.O.Sink.taken c.finish.new.out; faults_before = g.O.Sink.faults c.args.out.now; faults_now = g.O.Sink.faults c.finish.new.out })
    (record { before = g.E.Sink.taken c.args.err.now; now = g.E.Sink.taken c.finish.new.err; faults_before = g.E.Sink.faults c.args.err.now; faults_now = g.E.Sink.faults c.finish.new.err })
    c.audit_network-done.ensures.last c.finish.ensures four
