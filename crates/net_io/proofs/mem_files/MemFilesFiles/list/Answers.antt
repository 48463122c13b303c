use Rattle.std.proofs.Common.{◌≡◌, ◌∙◌, ap}
use Rattle.std.specs.Prelude.{filter_map}
use Rattle.net_io.specs.MemFiles.{entries, paths}
use Rattle.net_io.specs.Names.{name_in}
use Rattle.net_io.proofs.Listings.{entries-IsListing}
use Rattle.net_io.proofs.mem_files.MemFilesFiles.list.Goals as goal

pub returns-clause-names : goal.returns-clause-names
returns-clause-names c =
    let told : entries c.self.inside.files.items ≡ c.args.self.now.told.files = ap (λ s. s.told.files) (c.self.view_is ∙ c.begin_call.ensures.counted) in
    let names = c.in_ok-names_in.ensures.names ∙ ap (λ files. filter_map (name_in c.args.path.now) (paths files)) c.deref-2.ensures.value in
    entries-IsListing _ _ _ _ told names c.self.invariant.0
