use Rattle.std.proofs.Common.{Option, sym, subst}
use Rattle.std.specs.Prelude.{IfSome}
use Rattle.net_forms.proofs.FormLemmas.{tables_then}
use Rattle.list_tables.specs.declared.fates.FateShare.{FateShare}
use Rattle.list_tables.specs.Made.{IsFateShare}
use Rattle.list_tables.proofs.fates.fates_of_shares.Goals as goal

pub loop-share-preserved : goal.loop-share-preserved
loop-share-preserved c =
    let ds = c.args.devices.now in
    let before = c.loop-share.invariant in
    let item = c.share-item.result in
    let made : IfSome item (IsFateShare ds) = subst (λ (x : Option FateShare). IfSome x (IsFateShare ds)) (sym c.share-item.is) (c.requires c.loop-share.share-index item c.loop-share-test.true) in
    record {
      kept = tables_then c.args.tables.now c.loop-share.tables c.add_fates.new.tables before.kept c.in_ok-add_fates.ensures.kept;
      fates = c.in_ok-add_fates.ensures.known ds (subst (λ (x : Option FateShare). IfSome x (IsFateShare ds)) c.in-Some.is made) before.fates;
    }
