use Rattle.std.proofs.Common.{string_bytes}
use Rattle.net_io.specs.MemFiles.{entries}
use Rattle.net_io.proofs.Listings.{put_distinct}
use Rattle.net_io.proofs.mem_files.MemFiles.put.Goals as goal

pub invariant_of-self : goal.invariant_of-self
invariant_of-self c = (
  put_distinct c.put_file.result (string_bytes c.in_ok-path.path) c.in_ok-bytes.bytes.items (entries c.self.inside.files.items) (entries c.put_file.new.files.items)
      c.put_file.ensures.put c.put_file.ensures.err c.self.invariant.0,
  c.self.invariant.1,
)
