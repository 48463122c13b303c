use Rattle.std.proofs.Common.{◌≡◌, refl}
use Rattle.ios_commands.specs.contracts.translation.NatSidePartialEq.TheImpl.{eq-value}
use Rattle.ios_commands.specs.declared.translation.NatSide.{NatSide}
use Rattle.ios_commands.specs.declared.translation.NatSide.TheVariants as side
use Rattle.ios_commands.specs.Translation.{local_side, global_side, same_side}
use Rattle.ios_commands.proofs.Sides.{knows_after}
use Rattle.ios_commands.proofs.translation.NatBook.with.Goals as goal

tied : (v b : NatSide) → eq-value.it v b ≡ same_side v b
tied (side.Plain a) (side.Plain b) = refl
tied (side.Tcp a m) (side.Tcp b n) = refl
tied (side.Udp a m) (side.Udp b n) = refl
tied (side.Outer a) (side.Outer b) = refl
tied (side.Plain a) (side.Tcp b n) = refl
tied (side.Plain a) (side.Udp b n) = refl
tied (side.Tcp a m) (side.Plain b) = refl
tied (side.Tcp a m) (side.Udp b n) = refl
tied (side.Udp a m) (side.Plain b) = refl
tied (side.Udp a m) (side.Tcp b n) = refl
tied (side.Plain a) (side.Outer b) = refl
tied (side.Tcp a m) (side.Outer b) = refl
tied (side.Udp a m) (side.Outer b) = refl
tied (side.Outer a) (side.Plain b) = refl
tied (side.Outer a) (side.Tcp b n) = refl
tied (side.Outer a) (side.Udp b n) = refl

pub invariant_of-result : goal.invariant_of-result
invariant_of-result c = (
  knows_after local_side c.self.inside.locals.keys c.insert.new.self.keys c.self.inside.rules.items c.push.new.self.items c.args.rule c.local_side.result (eq-value.it c.local_side.result) (tied c.local_side.result) c.in_ok-insert.ensures.keys c.local_side.ensures c.in_ok-push.ensures.items c.self.invariant.0,
  knows_after global_side c.self.inside.globals.keys c.insert-2.new.self.keys c.self.inside.rules.items c.push.new.self.items c.args.rule c.global_side.result (eq-value.it c.global_side.result) (tied c.global_side.result) c.in_ok-insert-2.ensures.keys c.global_side.ensures c.in_ok-push.ensures.items c.self.invariant.1,
)
