use Rattle.std.proofs.Common.{◌≡◌, ◌++◌, List, arith, sym, subst}
use Rattle.std.proofs.lemmas.List.{take-append-drop}
use Rattle.std.proofs.lemmas.Result.{IfOk-weaker}
use Rattle.set_walk.proofs.SetLemmas.{keeps_then}
use Rattle.incr_review.specs.declared.facts.FactSet.{FactSet}
use Rattle.incr_review.specs.Facts.{AreFactsBelow, StandOnce}
use Rattle.incr_review.specs.FactNumbers.{AreFactNumbers}
use Rattle.incr_review.proofs.ListLemmas.{from_get, no_first, one_first, some_first}
use Rattle.incr_review.proofs.FactLemmas.{back_below, back_once, both_numbered, facts_kept, front_below, front_once, halves_apart, numbers_kept}
use Rattle.incr_review.proofs.numbers.+fact_numbers.Goals as goal

pub returns-in_default-clause-numbers : goal.returns-in_default-clause-numbers
returns-in_default-clause-numbers t c =
    subst (λ (xs : List FactSet). AreFactNumbers c.args.table.now xs c.no_numbers.result) (sym (no_first c.args.facts.now c.in_default.ensures.value)) c.no_numbers.ensures

pub one_fact-requires : goal.one_fact-requires
one_fact-requires t c = c.requires.facts c.in-Some.first.now (from_get c.args.facts.now 0 c.in-Some.first.now (sym c.in-Some.ensures.value))

pub returns-then-facts-eq1-clause-numbers : goal.returns-then-facts-eq1-clause-numbers
returns-then-facts-eq1-clause-numbers t c =
    IfOk-weaker c.one_fact.result _ _
    (λ one numbers. subst (λ (xs : List FactSet). AreFactNumbers c.one_fact.new.table xs one) (sym (one_first c.args.facts.now c.in-Some.first.now c.if-facts-eq1.true c.in-Some.ensures.value)) numbers)
    c.one_fact.ensures.numbers

pub fact_numbers-requires : goal.fact_numbers-requires
fact_numbers-requires t c =
    let facts = c.args.facts.now in
    let s = c.split_at.ensures in
    let left = c.split_at.result.0.now in
    let right = c.split_at.result.1.now in
    let e : facts ≡ left ++ right = rw (s.front, s.back) (sym (take-append-drop _ facts)) in
    let l = s.front_len in
    let n = c.if-facts-eq1.false in
    let p = some_first facts c.in-Some.first.now c.in-Some.ensures.value in
    (omega (arith, l, n, p, c.decreases), (front_below c.args.table.now left right (subst (AreFactsBelow c.args.table.now) e c.requires.facts), front_once left right (subst StandOnce e c.requires.once)))

pub fact_numbers-requires-2 : goal.fact_numbers-requires-2
fact_numbers-requires-2 t c =
    let facts = c.args.facts.now in
    let f = c.args.table.now in
    let s = c.split_at.ensures in
    let left = c.split_at.result.0.now in
    let right = c.split_at.result.1.now in
    let e : facts ≡ left ++ right = rw (s.front, s.back) (sym (take-append-drop _ facts)) in
    let b = s.back_len in
    let n = c.if-facts-eq1.false in
    let p = some_first facts c.in-Some.first.now c.in-Some.ensures.value in
    (omega (arith, b, n, p, c.decreases), (facts_kept f c.fact_numbers.new.table right c.in_ok-a.ensures.kept (back_below f left right (subst (AreFactsBelow f) e c.requires.facts)), back_once left right (subst StandOnce e c.requires.once)))

pub both_told-requires-clause-first : goal.both_told-requires-clause-first
both_told-requires-clause-first t c =
    let f = c.args.table.now in
    let g = c.fact_numbers.new.table in
    let h = c.fact_numbers-2.new.table in
    let s = c.split_at.ensures in
    let left = c.split_at.result.0.now in
    let right = c.split_at.result.1.now in
    let e : c.args.facts.now ≡ left ++ right = rw (s.front, s.back) (sym (take-append-drop _ c.args.facts.now)) in
    (numbers_kept g h left c.in_ok-a.a c.in_ok-b.ensures.kept (facts_kept f g left c.in_ok-a.ensures.kept (front_below f left right (subst (AreFactsBelow f) e c.requires.facts))) c.in_ok-a.ensures.numbers).below

pub returns-clause-numbers : goal.returns-clause-numbers
returns-clause-numbers t c =
    let f = c.args.table.now in
    let g = c.fact_numbers.new.table in
    let h = c.fact_numbers-2.new.table in
    let k = c.both_told.new.table in
    let s = c.split_at.ensures in
    let left = c.split_at.result.0.now in
    let right = c.split_at.result.1.now in
    let e : c.args.facts.now ≡ left ++ right = rw (s.front, s.back) (sym (take-append-drop _ c.args.facts.now)) in
    let below = subst (AreFactsBelow f) e c.requires.facts in
    let left_below = facts_kept f g left c.in_ok-a.ensures.kept (front_below f left right below) in
    let right_below = facts_kept f g right c.in_ok-a.ensures.kept (back_below f left right below) in
    let kept = c.in_ok-b.ensures.kept in
    IfOk-weaker c.both_told.result _ _
    (λ both told. subst (λ (xs : List FactSet). AreFactNumbers k xs both) (sym e)
    (both_numbered h k left right c.in_ok-a.a c.in_ok-b.b both c.both_told.ensures.kept (facts_kept g h left kept left_below) (facts_kept g h right kept right_below) (halves_apart left right (subst StandOnce e c.requires.once)) (numbers_kept g h left c.in_ok-a.a kept left_below c.in_ok-a.ensures.numbers) c.in_ok-b.ensures.numbers told))
    c.both_told.ensures.told

pub returns-clause-kept : goal.returns-clause-kept
returns-clause-kept t c =
    keeps_then c.args.table.now c.fact_numbers.new.table c.both_told.new.table c.in_ok-a.ensures.kept (keeps_then c.fact_numbers.new.table c.fact_numbers-2.new.table c.both_told.new.table c.in_ok-b.ensures.kept c.both_told.ensures.kept)
