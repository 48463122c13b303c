use Rattle.std.proofs.Common.{◌≡◌, Some, map, string_bytes, ap, sym, ◌∙◌}
use Rattle.std.specs.Prelude.{option_map}
use Rattle.job_core.proofs.EndingLemmas.{ends, names_last}
use Rattle.rollout_words.specs.Usage.{usage_text}
use Rattle.variants_core.specs.Accepted.{IsAccepted}
use Rattle.variants_core.specs.Job.{Does}
use Rattle.variants_core.specs.Words.{paths, paths_of}
use Rattle.variants_core.proofs.Accepted.{does_paths, accepted_may_stop}
use Rattle.variants_core.proofs.top.variants_run.Goals as goal

pub returns-clause-ends : goal.returns-clause-ends
returns-clause-ends g c =
    let words = map string_bytes c.args.words.now in
    let told = g.F.Files.told c.args.files.now in
    let done = c.vary-done.result in
    let p = paths c.in-Some.asked in
    let asked : paths_of words ≡ Some p = sym c.asked_in.ensures ∙ ap (option_map paths) c.in-Some.is in
    ends (Does words) (IsAccepted words) usage_text c.finish.result
    (record { told = told; faults_before = g.F.Files.faults c.args.files.now; faults_now = g.F.Files.faults c.vary-done.new.files })
    (record { before = g.O.Sink.taken c.args.out.now; now = g.O.Sink.taken c.finish.new.out; faults_before = g.O.Sink.faults c.args.out.now; faults_now = g.O.Sink.faults c.finish.new.out })
    (record { before = g.E.Sink.taken c.args.err.now; now = g.E.Sink.taken c.finish.new.err; faults_before = g.E.Sink.faults c.args.err.now; faults_now = g.E.Sink.faults c.finish.new.err })
    done (does_paths words told p done asked c.vary-done.ensures.job) c.vary-done.ensures.cause (accepted_may_stop words) c.finish.ensures

pub returns-clause-cannot_read : goal.returns-clause-cannot_read
returns-clause-cannot_read g c four =
    names_last c.vary-done.result c.finish.result (g.F.Files.last c.vary-done.new.files)
    (record { before = g.O.Sink.taken c.args.out.now; now = g.O.Sink.taken c.finish.new.out; faults_before = g.O.Sink.faults c.args.out.now; faults_now = g.O.Sink.faults c.finish.new.out })
    (record { before = g.E.Sink.taken c.args.err.now; now = g.E.Sink.taken c.finish.new.err; faults_before = g.E.Sink.faults c.args.err.now; faults_now = g.E.Sink.faults c.finish.new.err })
    c.vary-done.ensures.last c.finish.ensures four
