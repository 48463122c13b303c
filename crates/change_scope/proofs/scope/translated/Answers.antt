use Rattle.std.proofs.Common.{List, ℕ, subst}
use Rattle.change_scope.specs.Translated.{HasNamed}
use Rattle.change_scope.proofs.ScopeLemmas.{devices_have, more_named}
use Rattle.change_scope.proofs.scope.translated.Goals as goal

pub returns-clause-old : goal.returns-clause-old
returns-clause-old c =
    let g = c.headers_to.new.table in
    let one = c.add_addresses.new.addresses.keys in
    let two = c.add_addresses-2.new.addresses.keys in
    let set = c.in_ok-set.set in
    let has = subst (λ (xs : List ℕ). HasNamed g xs set) c.as_slice.ensures.keys c.in_ok-set.ensures.named in
    devices_have g set two c.args.before.now (more_named one two c.args.before.now c.in_ok-add_addresses-2.ensures.more c.in_ok-add_addresses.ensures.named) has

pub returns-clause-new : goal.returns-clause-new
returns-clause-new c =
    let g = c.headers_to.new.table in
    let two = c.add_addresses-2.new.addresses.keys in
    let set = c.in_ok-set.set in
    let has = subst (λ (xs : List ℕ). HasNamed g xs set) c.as_slice.ensures.keys c.in_ok-set.ensures.named in
    devices_have g set two c.args.after.now c.in_ok-add_addresses-2.ensures.named has
