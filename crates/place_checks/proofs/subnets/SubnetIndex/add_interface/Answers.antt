use Rattle.std.proofs.Common.{◌++◌, [], cond, map, sym, ap, ◌∙◌, subst, append_assoc}
use Rattle.std.specs.Prelude.{option_to_list}
use Rattle.std.proofs.lemmas.List.{map-append}
use Rattle.place_checks.specs.Homes.{home_of}
use Rattle.place_checks.specs.Index.{AreHomes}
use Rattle.place_checks.proofs.Firsts.{on_ok}
use Rattle.place_checks.proofs.subnets.SubnetIndex.add_interface.Goals as goal

pub returns : goal.returns
returns c = on_ok c.add_secondary.result (λ more hs h.
    (let i = c.args.interface.now in
    let f = home_of c.args.device.now i in
    let primary = option_to_list i.primary in
    subst (AreHomes c.add_secondary.new.self)
    (append_assoc hs (map f primary) (map f i.secondary) ∙ ap (λ l. hs ++ l) (sym (map-append f primary i.secondary)) ∙ ap (λ b. hs ++ map f (cond b [] (primary ++ i.secondary))) (sym c.if-interface.false))
    (more (hs ++ map f primary) (c.in_ok-add_primary.ensures hs h)))) c.add_secondary.ensures
