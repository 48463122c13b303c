use Rattle.std.proofs.Common.{sym, ap, ◌∙◌, string_bytes, arith, rules}
use Rattle.net_io.specs.Store.{with_file}
use Rattle.net_io.specs.MemFiles.{entries}
use Rattle.net_io.proofs.Stored.{put_at}
use Rattle.net_io.proofs.mem_files.put_file.Goals as goal

pub returns-then-eq-clause-put : goal.returns-then-eq-clause-put
returns-then-eq-clause-put c =
    let h = c.loop-i.invariant in
    let put = put_at c.loop-i.files.items c.loop-i.i (record { path = c.args.path; bytes = c.args.bytes }) c.index.result.now (omega arith) c.index.ensures (search rules) in
    sym put ∙ sym h.left ∙ ap (λ files. with_file (string_bytes c.args.path) c.args.bytes.items (entries files)) h.same
