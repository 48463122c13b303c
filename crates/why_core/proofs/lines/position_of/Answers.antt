use Rattle.std.proofs.Common.{rules, ◌<◌, subst, sym, tests}
use Rattle.std.specs.Prelude.{IfSome, length}
use Rattle.std.specs.Str.{bytes_eq}
use Rattle.std.proofs.lemmas.Iterator.Search.{position_from_yields_List}
use Rattle.std.proofs.lemmas.Iterator.Splits.{YieldsList-from_slice_split}
use Rattle.net_text.specs.Lines.{is_line_end}
use Rattle.view_core.specs.Names.{text_lines}
use Rattle.why_core.proofs.LineLemmas.{position_inside}
use Rattle.why_core.proofs.lines.position_of.Goals as goal

pub returns-clause-place : goal.returns-clause-place
returns-clause-place c =
    position_from_yields_List (bytes_eq c.args.line.now) _ _ _ c.position.ensures.ran
    (YieldsList-from_slice_split _ is_line_end c.args.bytes.now c.split.ensures.rest c.split.ensures.done c.split.ensures.closure (λ x r q k. search (rules, tests)))
    (λ x b q k. search (rules, tests))

pub returns-clause-inside : goal.returns-clause-inside
returns-clause-inside c =
    subst (λ r. IfSome r (λ k. k < length (text_lines c.args.bytes.now))) (sym (returns-clause-place c)) (position_inside (bytes_eq c.args.line.now) (text_lines c.args.bytes.now))
