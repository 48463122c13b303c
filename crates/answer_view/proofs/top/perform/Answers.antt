use Rattle.std.proofs.Common.{Option, map, string_bytes, sym, ap, ◌∙◌}
use Rattle.std.specs.Prelude.{option_map}
use Rattle.net_io.specs.Files.{Told}
use Rattle.answer_view.proofs.Asks.{does_show}
use Rattle.answer_view.proofs.top.perform.Goals as goal

pub returns-clause-does : goal.returns-clause-does
returns-clause-does g c =
    let told : Option Told = g.F.Files.told c.args.files.now in
    does_show (map string_bytes c.args.words.now) c.in-Some.questions.now c.in-Some.after.now (option_map (λ path. path.now) c.before_of.result) c.format_of.result
    (sym c.paths_of.ensures ∙ ap (option_map (λ paths. (paths.0.now, paths.1.now))) c.in-Some.is) c.before_of.ensures c.format_of.ensures told c.show.result c.show.ensures.shows
