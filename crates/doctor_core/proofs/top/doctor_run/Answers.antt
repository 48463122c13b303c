use Rattle.std.proofs.Common.{◌≡◌, Some, None, map, string_bytes, ap, sym, ◌∙◌}
use Rattle.std.specs.Prelude.{option_map}
use Rattle.job_core.proofs.EndingLemmas.{ends, names_last}
use Rattle.doctor_core.specs.Accepted.{IsAccepted}
use Rattle.doctor_core.specs.Job.{Does}
use Rattle.doctor_core.specs.Usage.{usage_text}
use Rattle.doctor_core.specs.Words.{paths, paths_of, text_of}
use Rattle.doctor_core.proofs.Accepted.{accepted_may_stop, does_paths, does_text, none_is, read_cause, read_last}
use Rattle.doctor_core.proofs.top.doctor_run.Goals as goal

pub returns-in-Some-clause-ends : goal.returns-in-Some-clause-ends
returns-in-Some-clause-ends g c =
    let words = map string_bytes c.args.words.now in
    let told = g.F.Files.told c.args.files.now in
    let faults = g.F.Files.faults c.args.files.now in
    let done = c.told-done.result in
    let text = c.in-Some.text.now in
    let asked : text_of words ≡ Some text = sym c.text_of.ensures ∙ ap (option_map (λ t. t.now)) c.in-Some.is in
    ends (Does words) (IsAccepted words) usage_text c.finish.result
    (record { told = told; faults_before = faults; faults_now = faults })
    (record { before = g.O.Sink.taken c.args.out.now; now = g.O.Sink.taken c.finish.new.out; faults_before = g.O.Sink.faults c.args.out.now; faults_now = g.O.Sink.faults c.finish.new.out })
    (record { before = g.E.Sink.taken c.args.err.now; now = g.E.Sink.taken c.finish.new.err; faults_before = g.E.Sink.faults c.args.err.now; faults_now = g.E.Sink.faults c.finish.new.err })
    done (does_text words told text done asked c.told-done.ensures.told) (read_cause faults done c.told-done.ensures.read) (accepted_may_stop words) c.finish.ensures

pub returns-clause-ends : goal.returns-clause-ends
returns-clause-ends g c =
    let words = map string_bytes c.args.words.now in
    let told = g.F.Files.told c.args.files.now in
    let done = c.look-done.result in
    let p = paths c.in-Some-asked_in.asked in
    let none : text_of words ≡ None = sym c.text_of.ensures ∙ ap (option_map (λ t. t.now)) (none_is c.text_of.result c.in_default.not-Some) in
    let asked : paths_of words ≡ Some p = sym c.asked_in.ensures ∙ ap (option_map paths) c.in-Some-asked_in.is in
    ends (Does words) (IsAccepted words) usage_text c.finish-2.result
    (record { told = told; faults_before = g.F.Files.faults c.args.files.now; faults_now = g.F.Files.faults c.look-done.new.files })
    (record { before = g.O.Sink.taken c.args.out.now; now = g.O.Sink.taken c.finish-2.new.out; faults_before = g.O.Sink.faults c.args.out.now; faults_now = g.O.Sink.faults c.finish-2.new.out })
    (record { before = g.E.Sink.taken c.args.err.now; now = g.E.Sink.taken c.finish-2.new.err; faults_before = g.E.Sink.faults c.args.err.now; faults_now = g.E.Sink.faults c.finish-2.new.err })
    done (does_paths words told p done none asked c.look-done.ensures.job) c.look-done.ensures.cause (accepted_may_stop words) c.finish-2.ensures

pub returns-clause-cannot_read : goal.returns-clause-cannot_read
returns-clause-cannot_read g c four =
    names_last c.look-done.result c.finish-2.result (g.F.Files.last c.look-done.new.files)
    (record { before = g.O.Sink.taken c.args.out.now; now = g.O.Sink.taken c.finish-2.new.out; faults_before = g.O.Sink.faults c.args.out.now; faults_now = g.O.Sink.faults c.finish-2.new.out })
    (record { before = g.E.Sink.taken c.args.err.now; now = g.E.Sink.taken c.finish-2.new.err; faults_before = g.E.Sink.faults c.args.err.now; faults_now = g.E.Sink.faults c.finish-2.new.err })
    c.look-done.ensures.last c.finish-2.ensures four

pub returns-in-Some-clause-cannot_read : goal.returns-in-Some-clause-cannot_read
returns-in-Some-clause-cannot_read g c four =
    let last = g.F.Files.last c.args.files.now in
    names_last c.told-done.result c.finish.result last
    (record { before = g.O.Sink.taken c.args.out.now; now = g.O.Sink.taken c.finish.new.out; faults_before = g.O.Sink.faults c.args.out.now; faults_now = g.O.Sink.faults c.finish.new.out })
    (record { before = g.E.Sink.taken c.args.err.now; now = g.E.Sink.taken c.finish.new.err; faults_before = g.E.Sink.faults c.args.err.now; faults_now = g.E.Sink.faults c.finish.new.err })
    (read_last last c.told-done.result c.told-done.ensures.read) c.finish.ensures four
