use Rattle.std.proofs.Common.{arith}
use Rattle.acl_match.proofs.NumberLemmas.{keeps_then}
use Rattle.hdr_bits.proofs.ListLemmas.{extends_none}
use Rattle.net_forms.specs.declared.forms.Tables.{Tables}
use Rattle.net_forms.proofs.FormLemmas.{device_made, fates_kept_if_any}
use Rattle.net_forms.proofs.compile.compile_device.Goals as goal

-- what is known of destinations before the lists and rules are compiled is known after it
pub add_fates-requires : goal.add_fates-requires
add_fates-requires c =
    let old = c.args.tables.now in
    let lists = c.compile_seats.new.diagrams in
    let rules = c.compile_rules.new.diagrams in
    let new : Tables = record { diagrams = rules; fates = old.fates } in
    let kept = keeps_then old.diagrams lists rules c.in_ok-seats.ensures.kept c.in_ok-rules.ensures.kept in
    fates_kept_if_any old new c.args.device.now.config c.args.parts.fates (record { diagrams = kept; fates = extends_none old.fates }) c.requires.fates

pub returns-clause-form : goal.returns-clause-form
returns-clause-form c =
    let same = c.args.device.now.numbered in
    device_made c.args.device.now _ c.compile_seats.new.diagrams c.compile_rules.new.diagrams c.add_fates.new.tables.diagrams c.add_fates.new.tables.fates (omega (arith, same))
    c.in_ok-seats.ensures.seats c.in_ok-rules.ensures.kept c.in_ok-fates.ensures.kept.diagrams
    (rw c.as_slice.ensures at c.in_ok-rules.ensures.rules)
    c.in_ok-fates.ensures.below c.in_ok-fates.ensures.exact
