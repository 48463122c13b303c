use Rattle.std.proofs.Common.{Option, sym, subst}
use Rattle.std.specs.Prelude.{IfSome}
use Rattle.list_tables.specs.declared.shares.MadeShare.{MadeShare}
use Rattle.list_tables.specs.Made.{IsMadeShare}
use Rattle.list_tables.proofs.KnownLemmas.{numbers_below}
use Rattle.list_tables.proofs.known.known_of.Goals as goal

pub add_share-requires : goal.add_share-requires
add_share-requires c =
    let item = c.share-item.result in
    let made : IfSome item (IsMadeShare c.args.both) = subst (λ (x : Option MadeShare). IfSome x (IsMadeShare c.args.both)) (sym c.share-item.is) (c.requires c.loop-share.share-index item c.loop-share-test.true) in
    numbers_below c.args.both c.in-Some.share (subst (λ (x : Option MadeShare). IfSome x (IsMadeShare c.args.both)) c.in-Some.is made)

pub loop-share-preserved : goal.loop-share-preserved
loop-share-preserved c =
    let item = c.share-item.result in
    let made : IfSome item (IsMadeShare c.args.both) = subst (λ (x : Option MadeShare). IfSome x (IsMadeShare c.args.both)) (sym c.share-item.is) (c.requires c.loop-share.share-index item c.loop-share-test.true) in
    c.in_ok-add_share.ensures c.args.both (subst (λ (x : Option MadeShare). IfSome x (IsMadeShare c.args.both)) c.in-Some.is made) c.loop-share.invariant
