use Rattle.std.proofs.Common.{map, take, get_or, refl, arith}
use Rattle.std.proofs.lemmas.List.{get_or_default}
use Rattle.doctor_warnings.specs.Told.{key}
use Rattle.doctor_warnings.proofs.Beside.{gone_all, gone_more, no_line}
use Rattle.doctor_warnings.proofs.Counts.{mapped_short}
use Rattle.doctor_warnings.proofs.passing.add_told.Goals as goal

pub loop-line-init : goal.loop-line-init
loop-line-init c = λ ks h. record { told = refl; beside = h }

pub loop-line-preserved : goal.loop-line-preserved
loop-line-preserved c = λ ks h.
    let bytes = c.args.bytes.now in
    let told = c.args.told.now in
    let i = c.loop-line.line-index in
    let line = get_or told i no_line in
    let gone = c.loop-line.invariant ks h in
    gone_more bytes told i line (omega arith) (get_or_default told i no_line line (omega arith)) ks c.args.path.now c.args.warnings.now.items c.loop-line.warnings.items c.add_line.new.warnings.items c.loop-line.beside c.add_line.new.beside gone
    (c.in_ok-add_line.ensures ks (map (key bytes) (take i told)) (mapped_short (key bytes) told i (omega arith) (omega arith)) gone.beside)

pub returns : goal.returns
returns c = λ ks h.
    gone_all ks c.args.path.now c.args.bytes.now c.args.told.now c.loop-line.line-index c.args.warnings.now.items c.loop-line.warnings.items c.loop-line.beside (omega arith) (c.loop-line.invariant ks h)
