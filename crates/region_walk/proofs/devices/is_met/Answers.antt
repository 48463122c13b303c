use Rattle.std.proofs.Common.{◌≡◌, false, true, refl, sym, subst, ◌∙◌, List, ℕ, arith}
use Rattle.region_walk.specs.Lists.{items_at}
use Rattle.region_walk.specs.Devices.{IsAmong}
use Rattle.region_walk.proofs.DeviceLemmas.{none_met_more}
use Rattle.region_walk.proofs.devices.is_met.Goals as goal

pub loop-n-init : goal.loop-n-init
loop-n-init c = λ k l a. omega (arith, l)

pub returns-then-some_is_at : goal.returns-then-some_is_at
returns-then-some_is_at c = (
  λ t. record {
    count = c.loop-n.n;
    within = c.loop-n-test.true;
    met = subst (λ (ns : List ℕ). IsAmong c.args.device (items_at c.args.visits.now ns)) c.states_at.ensures (c.some_is_at.ensures.0 c.if-some_is_at.true);
  },
  λ a. refl,
)

pub loop-n-preserved : goal.loop-n-preserved
loop-n-preserved c =
    none_met_more c.args.visits.now c.args.levels.now c.args.device c.loop-n.n c.loop-n.invariant
    (λ a. let both : false ≡ true = sym c.if-some_is_at.false ∙ c.some_is_at.ensures.1 (subst (λ (ns : List ℕ). IsAmong c.args.device (items_at c.args.visits.now ns)) (sym c.states_at.ensures) a) in cc)

pub returns : goal.returns
returns c = (
  λ e. absurd (let both : false ≡ true = e in cc),
  λ a. absurd (c.loop-n.invariant a.count (let l = a.within in let m = c.loop-n-test.false in omega (arith, l, m)) a.met),
)
