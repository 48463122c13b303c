use Rattle.std.proofs.Common.{true, inl, inr, refl, arith, ◌≡◌, ◌-◌, map}
use Rattle.std.proofs.lemmas.Result.{IfOk-weaker}
use Rattle.canon_rows.specs.Pieces.{value_of}
use Rattle.canon_rows.specs.PlainRows.{plain}
use Rattle.canon_rows.proofs.RowSteps.{rows_empty, rows_alone, rows_star, rows_step, All-wider}
use Rattle.canon_rows.proofs.recursion.+rows.Goals as goal

pub returns-in_default-clause-rows : goal.returns-in_default-clause-rows
returns-in_default-clause-rows t c = rows_empty c.args.width c.args.pieces.now _ c.in_default.ensures.value c.new-alone.ensures.items

pub returns-then-width-eq0-clause-rows : goal.returns-then-width-eq0-clause-rows
returns-then-width-eq0-clause-rows t c =
    rows_alone c.args.width c.args.pieces.now _ c.in-Some.first.now c.if-width-eq0.true c.in-Some.ensures.value (grind arith) c.requires.within

pub returns-then-not-is_split-clause-rows : goal.returns-then-not-is_split-clause-rows
returns-then-not-is_split-clause-rows t c =
    IfOk-weaker c.rows.result _ _ (λ r h. rows_star c.args.width (c.args.width - 1) c.args.pieces.now (map plain r.items) (omega arith) (c.is_split.ensures c.if-not-is_split.true) h) c.rows.ensures.rows

pub returns-then-not-is_split-clause-within : goal.returns-then-not-is_split-clause-within
returns-then-not-is_split-clause-within t c =
    IfOk-weaker c.rows.result _ _ (λ r h. All-wider c.args.width (c.args.width - 1) r.items (omega arith) h) c.rows.ensures.within

pub returns-then-is_same-clause-rows : goal.returns-then-is_same-clause-rows
returns-then-is_same-clause-rows t c =
    let f = value_of c.args.pieces.now in
    let m = c.args.width - 1 in
    let low = map plain c.in_ok-low.low.items in
    let high = map plain c.in_ok-high.high.items in
    rows_step c.args.width m f (value_of c.deref.result.now) (value_of c.deref-2.result.now) low high low (omega arith) (rw c.deref.ensures.value c.in_ok-zeros.ensures.value) (rw c.deref-2.ensures.value c.in_ok-ones.ensures.value) c.in_ok-low.ensures.rows c.in_ok-high.ensures.rows (record { merged = inl (let e = c.is_same.ensures.0 c.if-is_same.true in rw (← c.deref-3.ensures.value, ← c.deref-4.ensures.value) e, refl) })

pub returns-then-is_same-clause-within : goal.returns-then-is_same-clause-within
returns-then-is_same-clause-within t c =
    All-wider c.args.width (c.args.width - 1) c.in_ok-low.low.items (omega arith) c.in_ok-low.ensures.within

pub returns-clause-rows : goal.returns-clause-rows
returns-clause-rows t c =
    let f = value_of c.args.pieces.now in
    let m = c.args.width - 1 in
    let low = map plain c.in_ok-low.low.items in
    let high = map plain c.in_ok-high.high.items in
    IfOk-weaker c.joined.result _ _ (λ r h. rows_step c.args.width m f (value_of c.deref.result.now) (value_of c.deref-2.result.now) low high (map plain r.items) (omega arith) (rw c.deref.ensures.value c.in_ok-zeros.ensures.value) (rw c.deref-2.ensures.value c.in_ok-ones.ensures.value) c.in_ok-low.ensures.rows c.in_ok-high.ensures.rows (record { merged = inr (λ e. let n : c.is_same.result ≡ true = c.is_same.ensures.1 (rw (c.deref-3.ensures.value, c.deref-4.ensures.value) e) in absurd cc, rw (c.deref-5.ensures.value, c.deref-6.ensures.value) at h) })) c.joined.ensures.rows
