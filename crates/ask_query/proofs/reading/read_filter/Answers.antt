use Rattle.std.proofs.Common.{◌≡◌, ◌∷◌, [], List, sym, ap, subst, ◌∙◌, rules}
use Rattle.std.specs.Prelude.{Result, Ok, Err}
use Rattle.hdr_bits.specs.declared.cube.Cube.{Cube}
use Rattle.ask_query.specs.declared.refusal.QuestionFail.{QuestionFail}
use Rattle.ask_query.specs.Refusals.{Word, Gives, GivesFail}
use Rattle.ask_query.specs.Reading.{Filter, and_field, filter_from, free_field, masks_of, no_field}
use Rattle.ask_query.proofs.ReadingLemmas.{one_field, no_field_there, no_text_there, no_bits_there, no_more_fields}
use Rattle.ask_query.proofs.reading.read_filter.Goals as goal

pub returns-in_err-field : goal.returns-in_err-field
returns-in_err-field c =
    let f : Filter = record { named = c.loop-name.named.items; fixed = c.loop-name.filter.fixed; bits = c.loop-name.filter.bits } in
    let n = c.args.line in
    let total = filter_from n no_field c.args.words.now in
    let e = c.in_err-field.field-0.0 in
    let w = c.in-Some.name.now in
    let refused = subst (λ xs. GivesFail e (free_field n xs w)) c.deref.ensures.value c.in_err-field.ensures in
    let first = no_field_there n f w total e c.in-Some.others.now refused (c.loop-name.invariant ∙ ap (filter_from n f) c.in-Some.ensures) in
    let handed : c.from_residual.result ≡ Err e = search rules in
    subst (λ (r : Result Cube QuestionFail). Gives masks_of r total) (sym handed) first

pub returns-in_default-first : goal.returns-in_default-first
returns-in_default-first c =
    let f : Filter = record { named = c.loop-name.named.items; fixed = c.loop-name.filter.fixed; bits = c.loop-name.filter.bits } in
    let n = c.args.line in
    let total = filter_from n no_field c.args.words.now in
    let w = c.in-Some.name.now in
    let read = subst (λ xs. free_field n xs w ≡ Ok c.in_ok-field.field) c.deref.ensures.value c.in_ok-field.ensures in
    let none : c.in-Some.others.now ≡ [] = search rules in
    no_text_there n f w total c.missing.result c.in_ok-field.field c.in-Some.others.now none c.missing.ensures read (c.loop-name.invariant ∙ ap (filter_from n f) c.in-Some.ensures)

pub returns-in_err-bits : goal.returns-in_err-bits
returns-in_err-bits c =
    let f : Filter = record { named = c.loop-name.named.items; fixed = c.loop-name.filter.fixed; bits = c.loop-name.filter.bits } in
    let n = c.args.line in
    let total = filter_from n no_field c.args.words.now in
    let e = c.in_err-bits.field-0.0 in
    let w = c.in-Some.name.now in
    let read = subst (λ xs. free_field n xs w ≡ Ok c.in_ok-field.field) c.deref.ensures.value c.in_ok-field.ensures in
    let first = no_bits_there n f w total e c.in_ok-field.field c.in-Some-first.text.now c.in-Some-first.others.now read c.in_err-bits.ensures.bits (c.loop-name.invariant ∙ ap (filter_from n f) (c.in-Some.ensures ∙ ap (λ (ws : List Word). w ∷ ws) c.in-Some-first.ensures)) in
    let handed : c.from_residual-in_err-bits.result ≡ Err e = search rules in
    subst (λ (r : Result Cube QuestionFail). Gives masks_of r total) (sym handed) first

pub loop-name-preserved : goal.loop-name-preserved
loop-name-preserved c =
    let f : Filter = record { named = c.loop-name.named.items; fixed = c.loop-name.filter.fixed; bits = c.loop-name.filter.bits } in
    let n = c.args.line in
    let w = c.in-Some.name.now in
    let x = c.in_ok-field.field in
    let m = c.in_ok-bits.bits in
    let read = subst (λ xs. free_field n xs w ≡ Ok x) c.deref.ensures.value c.in_ok-field.ensures in
    let made = c.with_field-filter.ensures in
    let same : and_field f x m ≡ record { named = c.push.new.self.items; fixed = c.with_field-filter.result.fixed; bits = c.with_field-filter.result.bits } =
    λ i. record { named = sym c.in_ok-push.ensures.items i; fixed = sym (ap (λ p. p.0) made) i; bits = sym (ap (λ p. p.1) made) i } in
    c.loop-name.invariant
    ∙ ap (filter_from n f) (c.in-Some.ensures ∙ ap (λ (ws : List Word). w ∷ ws) c.in-Some-first.ensures)
    ∙ one_field n f w c.in-Some-first.text.now c.in-Some-first.others.now x m read c.in_ok-bits.ensures.bits
    ∙ ap (λ g. filter_from n g c.in-Some-first.others.now) same

pub returns : goal.returns
returns c =
    let f : Filter = record { named = c.loop-name.named.items; fixed = c.loop-name.filter.fixed; bits = c.loop-name.filter.bits } in
    let n = c.args.line in
    let none : c.loop-name.rest.now ≡ [] = search rules in
    no_more_fields n f c.loop-name.rest.now (filter_from n no_field c.args.words.now) none c.loop-name.invariant
