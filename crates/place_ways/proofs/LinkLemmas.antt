-- The link, as ways.
use Rattle.std.proofs.Common.{ℕ, ◌≡◌, ◌<◌, ◌⊎◌, ◌↔◌, inl, inr, List, Some, ap, sym, ◌∙◌}
use Rattle.std.specs.Prelude.{Contains}
use Rattle.hdr_bits.specs.declared.header.Header.{Header}
use Rattle.hdr_bits.specs.HeaderBits.{number, IsHeader}
use Rattle.cube_alg.specs.declared.stamp.Stamp.{Stamp}
use Rattle.cube_alg.specs.Stamps.{applied}
use Rattle.cube_diagram.specs.Functions.{Functions, Keeps, count_of, value_at}
use Rattle.link_sends.specs.declared.sent.Sent.{Sent}
use Rattle.link_sends.specs.Sending.{sent_move}
use Rattle.net_types.specs.declared.network.Move.{Move}
use Rattle.net_types.specs.declared.network.Place.{Place}
use Rattle.net_types.specs.Moves.{send}
use Rattle.net_types.specs.World.{World, segment_of}
use Rattle.set_walk.specs.declared.step.Step.{Step}
use Rattle.set_walk.specs.declared.step.Way.{Way}
use Rattle.set_walk.specs.Sets.{InSet, IsSetOf}
use Rattle.set_walk.specs.Ways.{move_of}
use Rattle.place_ways.specs.Adding.{AddsWays, AreGiven, ByOne, HasValue, Makes, TellsAddresses, stamped_step}
use Rattle.place_ways.proofs.SetLemmas.{kept_set, kept_below, in_or_not}
use Rattle.place_ways.proofs.AddLemmas.{adds_then, adds_same, adds_from, told_same}
use Rattle.place_ways.proofs.StampLemmas.{sent_made}
use Rattle.place_ways.proofs.AmongLemmas.{told_in, told_out}

module _ (w : World) (place : Place) (s : Stamp) where
  pub sent_to_added : (f k : Functions) (address set : ℕ) (x : Sent) (one : Step) (a b : List Way) → one ≡ stamped_step place s x → ((h : Header) → send w place address h (segment_of w place) ≡ sent_move place h x) → AddsWays f k (Makes f set (λ h. move_of h one)) a b → AddsWays f k (Makes f set (λ h. send w place address (applied s h) (segment_of w place))) a b
  sent_to_added f k address set x one a b e t p =
      told_same f k set (λ h. move_of h one) (λ h. send w place address (applied s h) (segment_of w place)) a b (λ h v i. ap (move_of h) e ∙ (sent_made place s x h ∙ sym (t (applied s h)))) p

  -- of the headers with one destination
  pub address_added : (f g k : Functions) (function address given part : ℕ) (a b : List Way) → Keeps f g → AreGiven f a → ((h : Header) → IsHeader h → HasValue f function address h → h.dst ≡ address) → IsSetOf g part (λ h. InSet f given h × (value_at f function (number h) ≡ Some address)) → AddsWays g k (Makes g part (λ h. send w place address (applied s h) (segment_of w place))) a b → AddsWays f k (λ h m. HasValue f function address h × Makes f given (λ q. send w place q.dst (applied s q) (segment_of w place)) h m) a b
  address_added f g k function address given part a b e l tells p q =
      adds_same f k _ _ a b (λ h i m. (
        λ x. let y = (p h i).0 x.0 in (y.1, (y.0, sym (same h i y.1) ∙ x.1)),
        λ x. ((p h i).1 (x.1.0, x.0), same h i x.0 ∙ x.1.1),
      )) (adds_from f g k _ a b e l q)
    where
      same : (h : Header) → IsHeader h → HasValue f function address h → send w place address (applied s h) (segment_of w place) ≡ send w place h.dst (applied s h) (segment_of w place)
      same h i t = ap (λ d. send w place d (applied s h) (segment_of w place)) (sym (tells h i t))

  -- and of those with no destination of the list
  pub others_added : (f0 f1 f2 f3 f4 : Functions) (xs : List ℕ) (function given rest : ℕ) (x : Sent) (one : Step) (a b c : List Way) → Keeps f0 f1 → Keeps f1 f2 → Keeps f2 f3 → given < count_of f0 → AreGiven f0 a → TellsAddresses f1 xs function → one ≡ stamped_step place s x → ((d : ℕ) → (Contains xs d → ⊥) → (h : Header) → send w place d h (segment_of w place) ≡ sent_move place h x) → IsSetOf f3 rest (λ h. InSet f2 given h × (InSet f2 function h → ⊥)) → AddsWays f1 f2 (λ h m. ByOne (λ d. HasValue f1 function d h × Makes f1 given (λ q. send w place q.dst (applied s q) (segment_of w place)) h m) xs) a b → AddsWays f3 f4 (Makes f3 rest (λ h. move_of h one)) b c → AddsWays f0 f4 (Makes f0 given (λ q. send w place q.dst (applied s q) (segment_of w place))) a c
  others_added f0 f1 f2 f3 f4 xs function given rest x one a b c k0 k1 k2 lg ga t e o pr p q =
      adds_same f0 f4 _ _ a c (λ h v m. let z = kept_set f0 f1 given h k0 lg in (
        λ y. elim y [ inl u ↦ (z.0 u.is.1.0, u.is.1.1) | inr u ↦ let t = back h v m u in (z.0 t.0, t.1) ],
        λ y. forth h v m (z.1 y.0, y.1),
      )) (adds_from f0 f1 f4 _ a c k0 ga (adds_then f1 f2 f4 _ _ a b c p (adds_from f2 f3 f4 _ b c k2 p.given q)))
    where
      is_given : (h : Header) → InSet f2 given h ↔ InSet f1 given h
      is_given h = kept_set f1 f2 given h k1 (kept_below f0 f1 given k0 lg)

      is_told : (h : Header) → InSet f2 function h ↔ InSet f1 function h
      is_told h = kept_set f1 f2 function h k1 t.below

      same : (h : Header) → IsHeader h → (InSet f2 function h → ⊥) → move_of h one ≡ send w place h.dst (applied s h) (segment_of w place)
      same h v n = ap (move_of h) e ∙ (sent_made place s x h ∙ sym (o h.dst (told_out f1 xs function h t v (λ i. n ((is_told h).1 i))) (applied s h)))

      forth : (h : Header) → IsHeader h → (m : Move) → Makes f1 given (λ g. send w place g.dst (applied s g) (segment_of w place)) h m → ByOne (λ d. HasValue f1 function d h × Makes f1 given (λ g. send w place g.dst (applied s g) (segment_of w place)) h m) xs ⊎ Makes f3 rest (λ g. move_of g one) h m
      forth h v m u =
          elim (in_or_not f2 function h) [
            | inl i ↦ let d = told_in f1 xs function h t v ((is_told h).0 i) in inl (record { one = h.dst; among = d.0; is = (d.1, u) })
            | inr n ↦ inr ((pr h v).1 ((is_given h).1 u.0, n), same h v n ∙ u.1)
          ]

      back : (h : Header) → IsHeader h → (m : Move) → Makes f3 rest (λ g. move_of g one) h m → Makes f1 given (λ g. send w place g.dst (applied s g) (segment_of w place)) h m
      back h v m r = let z = (pr h v).0 r.0 in ((is_given h).0 z.0, sym (same h v z.1) ∙ r.1)
