use Rattle.std.proofs.Common.{◌≡◌, ◌++◌, ◌∷◌, [], true, false, sym, ap, ◌∙◌, append_assoc, rules}
use Rattle.topo_links.specs.Ends.{ends_of, is_taken}
use Rattle.topo_links.proofs.Reading.{one_more, is_free}
use Rattle.topo_links.proofs.ends.read_ends.Goals as goal

pub loop-device-preserved : goal.loop-device-preserved
loop-device-preserved c =
    let d = c.in-Some.device.now in
    let i = c.in-Some-first.interface.now in
    let claimed : c.in_ok-claim.field-0 ≡ true = search rules in
    let free : is_taken (d, i) c.loop-device.taken ≡ false = is_free _ _ c.in_ok-claim.ensures.free claimed in
    let pushed : c.push.new.self.items ≡ c.loop-device.ends.items ++ (d, i) ∷ [] = search rules in
    record {
      read = c.loop-device.invariant.read
          ∙ one_more c.args.kind c.args.line c.args.taken.now c.loop-device.ends.items d i _ _ _ c.in-Some.ensures c.in-Some-first.ensures (search rules) (ap (is_taken (d, i)) (sym c.loop-device.invariant.taken) ∙ free)
          ∙ ap (λ es. ends_of c.args.kind c.args.line c.args.taken.now es c.in-Some-first.others.now) (sym pushed);
      taken = c.in_ok-claim.ensures.taken claimed ∙ ap (λ t. t ++ (d, i) ∷ []) c.loop-device.invariant.taken ∙ append_assoc c.args.taken.now c.loop-device.ends.items ((d, i) ∷ []) ∙ ap (λ es. c.args.taken.now ++ es) (sym pushed);
    }
