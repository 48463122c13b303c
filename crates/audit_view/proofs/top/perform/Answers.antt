use Rattle.std.proofs.Common.{Option, map, string_bytes, sym, ap, ◌∙◌}
use Rattle.std.specs.Prelude.{option_map}
use Rattle.net_io.specs.Files.{Told}
use Rattle.audit_view.proofs.Asked.{does_show}
use Rattle.audit_view.proofs.top.perform.Goals as goal

pub returns-clause-does : goal.returns-clause-does
returns-clause-does g c =
    let told : Option Told = g.F.Files.told c.args.files.now in
    does_show (map string_bytes c.args.words.now) c.in-Some.findings.now c.in-Some.net.now c.manner_of.result (sym c.paths_of.ensures ∙ ap (option_map (λ paths. (paths.0.now, paths.1.now))) c.in-Some.is) c.manner_of.ensures told c.show.result c.show.ensures.shows
