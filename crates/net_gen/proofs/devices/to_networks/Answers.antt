use Rattle.std.proofs.Common.{◌≡◌, arith, refl, ap, sym, ◌∙◌}
use Rattle.net_gen.specs.Draws.{step, state, given, first_port}
use Rattle.net_gen.specs.Devices.{to_network, permit}
use Rattle.net_gen.proofs.Chains.{mapped_more, first_drawn, next_state}
use Rattle.net_gen.proofs.devices.to_networks.Goals as goal

pub loop-j-init : goal.loop-j-init
unfolding state
loop-j-init c = record {
  first = omega arith;
  last = omega arith;
  state = refl;
  entries = c.new-entries.ensures.items;
}

pub loop-j-preserved : goal.loop-j-preserved
loop-j-preserved c =
    let j = c.loop-j.j in
    let number = c.args.number in
    let inv = c.loop-j.invariant in
    let port : c.port.result ≡ first_port number j = first_drawn number c.loop-j.state c.port.result j inv.first inv.state (c.port.ensures ∙ ap given c.step-first.ensures) in
    let entry : c.in_ok-permit.field-0 ≡ to_network number j = c.in_ok-permit.ensures ∙ rw (c.address.ensures, port) refl in
    record {
      first = omega arith;
      last = omega (arith, c.loop-j-test.true);
      state = next_state number c.loop-j.state c.step-state.result j inv.first inv.state (c.step-state.ensures ∙ ap step c.step-first.ensures);
      entries = mapped_more (to_network number) j _ _ _ inv.first inv.entries entry c.in_ok-push.ensures.items;
    }
