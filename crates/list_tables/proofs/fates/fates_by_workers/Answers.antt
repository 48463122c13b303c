use Rattle.std.proofs.Common.{All, List, Option, sym, subst}
use Rattle.std.specs.Prelude.{IfSome}
use Rattle.list_tables.specs.declared.fates.FateShare.{FateShare}
use Rattle.list_tables.specs.Made.{IsFateShare}
use Rattle.list_tables.proofs.fates.fates_by_workers.Goals as goal

pub fates_of_shares-requires : goal.fates_of_shares-requires
fates_of_shares-requires g c =
    let ds = c.args.devices.now in
    subst (λ (xs : List (Option FateShare)). All (λ (x : Option FateShare). IfSome x (IsFateShare ds)) xs) (sym c.deref-2.ensures.value) c.in_ok-shares.ensures
