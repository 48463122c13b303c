use Rattle.std.proofs.Common.{◌≡◌, All, ap, sym, subst}
use Rattle.net_types.specs.World.{World}
use Rattle.net_view.specs.Borrowed.{world_of}
use Rattle.net_view.specs.declared.devices.WorldRef.{WorldRef}
use Rattle.like_devices.specs.Like.{IsLike}
use Rattle.net_forms.proofs.prepared.later_form.Goals as goal

pub returns-clause-like : goal.returns-clause-like
returns-clause-like c =
    let old = world_of c.args.old.now.world in
    let names = c.in_ok-like.like.keys in
    let same : world_of c.in_ok-form.form.world ≡ world_of c.args.new = ap (λ (r : WorldRef). world_of r) c.in_ok-form.ensures.world in
    subst (λ (w : World). All (IsLike old w) names) (sym same) c.in_ok-like.ensures
