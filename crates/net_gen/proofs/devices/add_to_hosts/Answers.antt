use Rattle.std.proofs.Common.{◌≡◌, arith, refl, ap, sym, ◌∙◌, append-nil}
use Rattle.net_gen.specs.Draws.{step, state, given, second_port}
use Rattle.net_gen.specs.Devices.{to_host, permit}
use Rattle.net_gen.proofs.Chains.{mapped_behind, second_drawn, next_state}
use Rattle.net_gen.proofs.devices.add_to_hosts.Goals as goal

pub loop-j-init : goal.loop-j-init
unfolding state
loop-j-init c = record {
  first = omega arith;
  last = omega arith;
  state = refl;
  entries = sym (append-nil c.args.entries.now.items);
}

pub loop-j-preserved : goal.loop-j-preserved
loop-j-preserved c =
    let j = c.loop-j.j in
    let number = c.args.number in
    let inv = c.loop-j.invariant in
    let drawn : c.step-state.result ≡ step (step c.loop-j.state) = c.step-state.ensures ∙ ap step c.step.ensures in
    let port : c.port.result ≡ second_port number j = second_drawn number c.loop-j.state c.port.result j inv.first inv.state (c.port.ensures ∙ ap given drawn) in
    let entry : c.in_ok-permit.field-0 ≡ to_host number c.args.size j = c.in_ok-permit.ensures ∙ rw (c.address.ensures, port) refl in
    record {
      first = omega arith;
      last = omega (arith, c.loop-j-test.true);
      state = next_state number c.loop-j.state c.step-state.result j inv.first inv.state drawn;
      entries = mapped_behind (to_host number c.args.size) j _ _ _ _ inv.first inv.entries entry c.in_ok-push.ensures.items;
    }
