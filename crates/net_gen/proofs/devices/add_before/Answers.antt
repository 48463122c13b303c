use Rattle.std.proofs.Common.{◌≡◌, ◌-◌, ◌++◌, List, [], ◌∷◌, OnOk, None, ap, sym, subst, refl, ◌∙◌, arith}
use Rattle.std.specs.Prelude.{codes, nat_lt}
use Rattle.std.proofs.lemmas.Bool.{cond-true, lt-ltb}
use Rattle.net_types.specs.declared.config.Interface.{Interface}
use Rattle.net_gen.specs.Devices.{address, subnet, interface, before}
use Rattle.net_gen.proofs.devices.add_before.Goals as goal

pub returns : goal.returns
returns c =
    let j = c.args.j in
    let one : Interface = interface (codes "Ethernet0") (subnet (address 2 (j - 1) 2) 30) None in
    let made : c.in_ok-interface.field-0 ≡ one = c.in_ok-interface.ensures ∙ rw (c.subnet-subnet.ensures, c.address.ensures) refl in
    let all : c.in_ok-interface.field-0 ∷ [] ≡ before j = ap (λ (x : Interface). x ∷ []) made ∙ sym (cond-true (nat_lt 1 j) (one ∷ []) [] (lt-ltb 1 j (omega (arith, c.if-j-le1.false)))) in
    subst (λ (is : List Interface). OnOk c.push.result (c.push.new.self ≡ c.args.interfaces.now ++ is)) all c.push.ensures.ok
