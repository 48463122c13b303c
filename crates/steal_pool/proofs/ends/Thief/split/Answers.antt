use Rattle.std.proofs.Common.{◌<◌, ◌/◌, ◌∷◌, ◌∙◌, length, arith}
use Rattle.crossbeam_deque.specs.Handles.{stealer_deque, view, taken}
use Rattle.steal_pool.proofs.Bundles.{some_ports, ports_front, ports_back, own_ends, path_before_end, spares_front, spares_back, first_spare, other_spares}
use Rattle.steal_pool.proofs.ends.Thief.split.Goals as goal

pub cut_off-requires : goal.cut_off-requires
cut_off-requires c = let s = c.self.inside in some_ports s.levels _ s.pass s.rest.items (let some = c.if-self-eq0.false in omega (arith, some)) c.self.invariant.3

pub invariant_of-result : goal.invariant_of-result
invariant_of-result c = let s = c.self.inside in let i = c.self.invariant in let cut = c.in_ok-pass.ensures.cut in
    let some : 0 < s.levels = (let n = c.if-self-eq0.false in omega (arith, n)) in
    let all = spares_back (stealer_deque s.stealer) (stealer_deque c.in_ok-stealer.stealer) c.in_ok-stealer.ensures.cases.0 (length s.rest.items / 2) s.rest.items (c.in_ok-pass.pass ∷ c.in_ok-pass.rest.items) cut.1 i.2 in
    let mine = first_spare _ c.in_ok-pass.pass c.in_ok-pass.rest.items all in
    (c.in_ok-stealer.ensures.cases.1 ∙ i.0, mine.0, other_spares _ c.in_ok-pass.pass c.in_ok-pass.rest.items all, own_ends _ _ _ _ (ports_back s.levels _ s.pass s.rest.items (c.in_ok-pass.pass ∷ c.in_ok-pass.rest.items) some i.3 cut.1))

pub invariant_of-self-2 : goal.invariant_of-self-2
invariant_of-self-2 c = let s = c.self.inside in let i = c.self.invariant in let cut = c.in_ok-pass.ensures.cut in
    let some : 0 < s.levels = (let n = c.if-self-eq0.false in omega (arith, n)) in
    (i.0, i.1, spares_front (stealer_deque s.stealer) (length s.rest.items / 2) s.rest.items c.cut_off.new.ports.items cut.0 i.2, own_ends _ _ _ _ (ports_front s.levels _ s.pass s.rest.items c.cut_off.new.ports.items some i.3 cut.0))

pub returns-clause-extended : goal.returns-clause-extended
returns-clause-extended c = let s = c.self.inside in let i = c.self.invariant in let cut = c.in_ok-pass.ensures.cut in let e = c.self.view_is in
    let some : 0 < s.levels = (let n = c.if-self-eq0.false in omega (arith, n)) in
    let all = spares_back (stealer_deque s.stealer) (stealer_deque c.in_ok-stealer.stealer) c.in_ok-stealer.ensures.cases.0 (length s.rest.items / 2) s.rest.items (c.in_ok-pass.pass ∷ c.in_ok-pass.rest.items) cut.1 i.2 in
    let none = first_spare _ c.in_ok-pass.pass c.in_ok-pass.rest.items all in
    let zero_end = path_before_end _ _ _ _ (ports_front s.levels _ s.pass s.rest.items c.cut_off.new.ports.items some i.3 cut.0) in
    let one_end = path_before_end _ _ _ _ (ports_back s.levels _ s.pass s.rest.items (c.in_ok-pass.pass ∷ c.in_ok-pass.rest.items) some i.3 cut.1) in
    let deque = c.in_ok-stealer.ensures.cases.0 in
    rw (← e) (λ j. record { lane = stealer_deque s.stealer; taken = (view s.pass).taken; path = zero_end j; gone = taken s.pass }, λ j. record { lane = deque j; taken = none.1 j; path = one_end j; gone = taken c.in_ok-pass.pass })
