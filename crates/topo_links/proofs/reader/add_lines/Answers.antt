use Rattle.std.proofs.Common.{◌≡◌, [], sym, ap, subst, ◌∙◌, map, arith, rules}
use Rattle.std.specs.Prelude.{Result, Err}
use Rattle.net_text.specs.Lines.{piece}
use Rattle.topo_links.specs.declared.table.LinkFail.{LinkFail}
use Rattle.topo_links.specs.Table.{effects_after}
use Rattle.topo_links.specs.Draft.{Drafted}
use Rattle.topo_links.proofs.Effects.{next_rows, refused_first}
use Rattle.topo_links.proofs.reader.add_lines.Goals as goal

pub returns-in_err-add_line : goal.returns-in_err-add_line
returns-in_err-add_line c =
    let words : c.deref.result.now ≡ map (piece c.args.bytes.now) c.line-item.result.words = c.deref.ensures.value ∙ c.in_ok-words.ensures ∙ ap (map (piece c.args.bytes.now)) c.as_slice.ensures in
    let first = refused_first c.args.bytes.now c.args.lines.now c.loop-line.line-index c.line-item.result c.deref.result.now c.loop-line.draft.lines.items c.in_err-add_line.field-0.0 (omega arith) c.line-item.is c.loop-line.invariant.rows words c.in_err-add_line.ensures.adds in
    let handed : c.from_residual-in_err-add_line.result ≡ Err c.in_err-add_line.field-0.0 = search rules in
    subst (λ (r : Result (Unit {0}) LinkFail). Drafted (λ _. c.add_line.new.self.lines.items) (effects_after c.args.bytes.now [] c.args.lines.now) r) (sym handed) first

pub loop-line-preserved : goal.loop-line-preserved
loop-line-preserved c =
    let words : c.deref.result.now ≡ map (piece c.args.bytes.now) c.line-item.result.words = c.deref.ensures.value ∙ c.in_ok-words.ensures ∙ ap (map (piece c.args.bytes.now)) c.as_slice.ensures in
    let adds = c.in_ok-add_line.ensures.adds in
    record {
      draft = c.in_ok-add_line.ensures.draft;
      rows = next_rows c.args.bytes.now c.args.lines.now c.loop-line.line-index c.line-item.result c.deref.result.now c.loop-line.draft.lines.items _ adds.0 (omega arith) c.line-item.is c.loop-line.invariant.rows words adds.1 adds.2;
    }
