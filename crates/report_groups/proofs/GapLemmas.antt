-- What lies between spans.
use Rattle.std.proofs.Common.{◌≡◌, ◌≤◌, ◌<◌, ◌+◌, ◌-◌, ◌^◌, ◌&&◌, ◌||◌, ℕ, Bool, true, false, not, nat_le, nat_lt, List, [], ◌∷◌, ◌++◌, refl, sym, ap, ◌∙◌, arith}
use Rattle.std.specs.List.{list_any}
use Rattle.std.proofs.lemmas.Bool.Decides.{nat_tests}
use Rattle.std.proofs.lemmas.List.Folds.{list_any-append}
use Rattle.report_groups.specs.declared.types.Span.{Span}
use Rattle.report_groups.specs.Values.{covers}

-- the spans between are those below `next` that the spans done don't hold, and these hold none from `next` on
pub record AreGaps (next : ℕ) (done between : List Span) : Type 0 where
  pub room : next ≤ 2 ^ 32
  pub same : (v : ℕ) → list_any (covers v) between ≡ (nat_lt v next && not (list_any (covers v) done))
  pub within : (v : ℕ) → next ≤ v → list_any (covers v) done ≡ false

-- one more span at a value, for which the spans done are a Bool
step : (v next low high : ℕ) (d : Bool) → next ≤ low → low ≤ high → (next ≤ v → d ≡ false)
    → ((nat_lt v next && not d) || (nat_le next v && nat_lt v low)) ≡ (nat_lt v (high + 1) && not (d || ((nat_le low v && nat_le v high) || false)))
step v next low high true a b c = grind (arith, nat_tests)
step v next low high false a b c = grind (arith, nat_tests)

outside : (v low high : ℕ) (d : Bool) → high + 1 ≤ v → d ≡ false → (d || ((nat_le low v && nat_le v high) || false)) ≡ false
outside v low high true a b = b
outside v low high false a b = grind (arith, nat_tests)

pub gaps_more : (next : ℕ) (s : Span) (done between between' : List Span) → next ≤ s.low → s.low ≤ s.high → s.high < 2 ^ 32 → AreGaps next done between
    → ((v : ℕ) → list_any (covers v) between' ≡ (list_any (covers v) between || (nat_le next v && nat_lt v s.low))) → AreGaps (s.high + 1) (done ++ s ∷ []) between'
gaps_more next s done between between' a b r g e =
    record {
      room = omega arith;
      same = λ v. e v ∙ (ap (λ x. x || (nat_le next v && nat_lt v s.low)) (g.same v) ∙ (step v next s.low s.high (list_any (covers v) done) a b (g.within v) ∙ ap (λ x. nat_lt v (s.high + 1) && not x) (sym (list_any-append (covers v) done (s ∷ [])))));
      within = λ v l. list_any-append (covers v) done (s ∷ []) ∙ outside v s.low s.high (list_any (covers v) done) l (g.within v (omega (arith, l, a, b)));
    }

pub no_gaps : AreGaps 0 [] []
no_gaps = record { room = omega arith; same = λ v. grind (arith, nat_tests); within = λ v l. refl }

last : (v next whole : ℕ) (d : Bool) → v < whole → (next ≤ v → d ≡ false) → ((nat_lt v next && not d) || (nat_le next v && nat_lt v whole)) ≡ not d
last v next whole true l c = grind (arith, nat_tests)
last v next whole false l c = grind (arith, nat_tests)

-- the values from `next` on are added
pub gaps_end : (next whole : ℕ) (done between between' : List Span) → AreGaps next done between
    → ((v : ℕ) → list_any (covers v) between' ≡ (list_any (covers v) between || (nat_le next v && nat_lt v whole))) → (v : ℕ) → v < whole → list_any (covers v) between' ≡ not (list_any (covers v) done)
gaps_end next whole done between between' g e v l = e v ∙ (ap (λ x. x || (nat_le next v && nat_lt v whole)) (g.same v) ∙ last v next whole (list_any (covers v) done) l (g.within v))

-- a span of the values from `from` on below `to`
pub between_is : (v from to : ℕ) → from < to → (nat_le from v && nat_le v (to - 1)) ≡ (nat_le from v && nat_lt v to)
between_is v from to l = grind (arith, nat_tests)
