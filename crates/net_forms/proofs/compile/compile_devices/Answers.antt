use Rattle.std.proofs.Common.{List, All, sym, refl, subst, length}
use Rattle.std.proofs.lemmas.Option.{slice_get_read}
use Rattle.net_forms.specs.declared.forms.KnownList.{KnownList}
use Rattle.net_forms.specs.Forms.{IsKnown}
use Rattle.net_forms.proofs.FormLemmas.{before_kept, devices_more, fates_here, known_kept_in, tables_then}
use Rattle.net_forms.proofs.compile.compile_devices.Goals as goal

pub known_or_compiled-requires-clause-known : goal.known_or_compiled-requires-clause-known
known_or_compiled-requires-clause-known c = c.loop-i.invariant.known

pub known_or_compiled-requires-clause-parts : goal.known_or_compiled-requires-clause-parts
known_or_compiled-requires-clause-parts c =
    let ds = c.args.devices.now in
    let i = c.loop-i.i in
    let d = c.index-devices-i.result in
    let there = slice_get_read ds (length ds) i d refl c.loop-i-test.true c.index-devices-i.is in
    record {
      lists = subst (λ (ks : List KnownList). All (IsKnown c.loop-i.tables.diagrams d.config.lists) ks) (sym c.known_parts.ensures.lists) (c.loop-i.invariant.before.lists i d there);
      fates = fates_here c.loop-i.tables.diagrams c.loop-i.tables.fates ds c.args.before.fates.now i d c.known_parts.result.fates there c.loop-i.invariant.before.fates c.known_parts.ensures.fates;
    }

pub loop-i-preserved : goal.loop-i-preserved
loop-i-preserved c =
    let i = c.loop-i.invariant in
    let a = c.loop-i.tables in
    let b = c.known_or_compiled.new.tables in
    let grow = c.in_ok-form.ensures.kept in
    record {
      kept = tables_then c.args.tables.now a b i.kept grow;
      known = known_kept_in a b c.args.known grow i.known;
      before = before_kept a b c.args.devices.now c.args.before grow i.before;
      forms = rw c.in_ok-push.ensures.items (devices_more a b c.args.devices.now c.loop-i.forms.items c.loop-i.i c.index-devices-i.result c.in_ok-form.form c.loop-i-test.true c.index-devices-i.is grow i.forms c.in_ok-form.ensures.form);
    }
