use Rattle.std.proofs.Common.{◌≡◌, true, false, rules, arith, sym, ap, ◌∙◌, Vec, Global}
use Rattle.std.specs.Str.{bytes_eq}
use Rattle.std.proofs.lemmas.Bool.{false≢true}
use Rattle.net_types.specs.declared.network.Section.{Section}
use Rattle.report_text.specs.ReportText.{report_text}
use Rattle.report_text.proofs.Joined.{same_bytes, bytes_same}
use Rattle.report_text.proofs.ReportLaws.{accepted, differs, failed}
use Rattle.report_text.proofs.reader.read_report.Goals as goal

pub returns-in-Err : goal.returns-in-Err
returns-in-Err c = failed {X = Vec Section Global} (λ sections. sections.items) c.args.names.now c.args.bytes.now c.in-Err.fail c.requires (omega arith) c.in-Err.ensures

pub returns-then-not-branch : goal.returns-then-not-branch
returns-then-not-branch c =
    let e : bytes_eq (report_text c.args.names.now c.deref.result.now) c.args.bytes.now ≡ false = search rules in
    differs c.args.names.now c.in-Ok.sections.items c.args.bytes.now c.requires (omega arith) (search rules)
    (λ t. false≢true (sym e ∙ ap (λ w. bytes_eq w c.args.bytes.now) (ap (report_text c.args.names.now) c.deref.ensures.value ∙ t) ∙ same_bytes c.args.bytes.now))

pub returns : goal.returns
returns c =
    let e : bytes_eq (report_text c.args.names.now c.deref.result.now) c.args.bytes.now ≡ true = search rules in
    accepted c.args.names.now c.in-Ok.sections.items c.args.bytes.now (search rules) (ap (report_text c.args.names.now) (sym c.deref.ensures.value) ∙ bytes_same _ _ e)
