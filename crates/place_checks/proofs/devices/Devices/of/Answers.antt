use Rattle.std.proofs.Common.{◌≡◌, ◌++◌, ◌∷◌, [], map, take, find, true, false, sym, ap, ◌∙◌, arith}
use Rattle.std.specs.Str.{bytes_eq}
use Rattle.std.specs.List.{list_any}
use Rattle.std.proofs.lemmas.List.{map-append, take_more}
use denote.Ref.{Bor}
use Rattle.net_types.specs.declared.config.Loaded.{Loaded}
use Rattle.topo_links.specs.ByName.{is_named}
use Rattle.topo_links.specs.Check.{host_of}
use Rattle.topo_links.proofs.Finds.{first_more, first_same, new_name}
use Rattle.place_checks.proofs.devices.Devices.of.Goals as goal

pub loop-device-preserved-then-has : goal.loop-device-preserved-then-has
loop-device-preserved-then-has c =
    let x = c.device-item.result in
    let firsts = map (λ (r : Bor Loaded). r.now) c.loop-device.firsts.items in
    let there : list_any (bytes_eq x.config.hostname) (map host_of firsts) ≡ true =
    ap (λ ns. list_any (bytes_eq x.config.hostname) ns) (sym c.loop-device.invariant.names) ∙ sym c.has.ensures ∙ c.if-has.true in
    let more = take_more c.args.folder.now c.loop-device.device-index x (omega arith) ∙ ap (λ y. take c.loop-device.device-index c.args.folder.now ++ y ∷ []) (sym c.device-item.is) in
    record {
      names = c.loop-device.invariant.names;
      finds = λ n. first_same host_of firsts (take c.loop-device.device-index c.args.folder.now) x c.loop-device.invariant.finds there n ∙ ap (find (is_named host_of n)) (sym more);
    }

pub loop-device-preserved : goal.loop-device-preserved
loop-device-preserved c =
    let x = c.device-item.result in
    let firsts = map (λ (r : Bor Loaded). r.now) c.loop-device.firsts.items in
    let pushed : map (λ (r : Bor Loaded). r.now) c.push.new.self.items ≡ firsts ++ x ∷ [] =
    ap (map (λ (r : Bor Loaded). r.now)) c.in_ok-push.ensures.items ∙ map-append (λ (r : Bor Loaded). r.now) c.loop-device.firsts.items _ in
    let absent : list_any (bytes_eq x.config.hostname) c.loop-device.names ≡ false = sym c.has.ensures ∙ c.if-has.false in
    let more = take_more c.args.folder.now c.loop-device.device-index x (omega arith) ∙ ap (λ y. take c.loop-device.device-index c.args.folder.now ++ y ∷ []) (sym c.device-item.is) in
    record {
      names = new_name host_of c.loop-device.names c.add.new.self x.config.hostname firsts x c.in_ok-add.ensures.ok absent c.loop-device.invariant.names (λ i. x.config.hostname) ∙ ap (map host_of) (sym pushed);
      finds = λ n. ap (find (is_named host_of n)) pushed ∙ first_more host_of firsts (take c.loop-device.device-index c.args.folder.now) x c.loop-device.invariant.finds n ∙ ap (find (is_named host_of n)) (sym more);
    }
