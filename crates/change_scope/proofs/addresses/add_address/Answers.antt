use Rattle.std.proofs.Common.{nat_eq, subst, sym}
use Rattle.std.specs.Prelude.{Contains}
use Rattle.indexmap.proofs.CallerLemmas.{Contains-insert_key}
use Rattle.change_scope.proofs.TurnLemmas.{same_number}
use Rattle.change_scope.proofs.addresses.add_address.Goals as goal

pub returns-clause-added : goal.returns-clause-added
returns-clause-added c =
    subst (λ ks. Contains ks c.args.address) (sym c.in_ok-insert.ensures.keys) (Contains-insert_key nat_eq same_number c.args.addresses.now.keys c.args.address)
