use Rattle.std.proofs.Common.{◌++◌, map, sym, subst, ap, ◌∙◌}
use Rattle.std.specs.Prelude.{option_to_list}
use Rattle.std.proofs.lemmas.List.{append-nil}
use Rattle.place_checks.specs.Homes.{home_of}
use Rattle.place_checks.specs.Index.{AreHomes}
use Rattle.place_checks.proofs.subnets.SubnetIndex.add_primary.Goals as goal

pub returns-in-None : goal.returns-in-None
returns-in-None c = λ hs h.
    let f = home_of c.args.device.now c.args.interface.now in
    subst (AreHomes c.args.self.now) (sym (append-nil hs) ∙ ap (λ o. hs ++ map f (option_to_list o)) (sym c.in-None.is)) h
