-- A review and its network as it is walked, over an edit.
use Rattle.std.proofs.Common.{ℕ, ◌≡◌, Bool, ◌<◌, ◌≤◌, ◌++◌, ◌==◌, inl, inr, true, List, Option, Some, Ok, position, length, set, slice_get, filter, find, refl, ap, sym, ◌∙◌, subst, arith}
use Rattle.std.specs.Prelude.{Contains}
use Rattle.std.proofs.lemmas.Bool.Decides.{nat_tests}
use Rattle.indexmap.specs.IndexMap.{get}
use Rattle.cube_diagram.specs.Functions.{Functions, Keeps}
use Rattle.live_network.specs.declared.live.LiveWays.{LiveWays}
use Rattle.live_network.specs.Live.{IsLive, IsRenewed}
use Rattle.live_network.specs.Replaced.{IsReplaced}
use Rattle.live_network.proofs.LiveLemmas.{grown, live_grown, live_later, renewed_then, ways_before}
use Rattle.live_network.proofs.NetworkLemmas.{put_back, replaced_in, stands}
use Rattle.live_network.proofs.ReplaceLemmas.{found_in}
use Rattle.net_types.specs.declared.network.NetDevice.{NetDevice}
use Rattle.net_types.specs.declared.network.Network.{Network}
use Rattle.net_types.specs.declared.network.Place.{Place}
use Rattle.net_types.specs.Edits.{DiffersOnlyAt, IsEdited}
use Rattle.net_types.specs.World.{World, same_place}
use Rattle.net_types.proofs.OneEdit.{edited_differs}
use Rattle.net_forms.proofs.FindLemmas.{at_position, found}
use Rattle.place_ways.specs.Places.{ArePlaceWays}
use Rattle.incr_review.specs.declared.edits.Edit.{Edit}
use Rattle.incr_review.specs.declared.regions.Region.{Region}
use Rattle.incr_review.specs.Edited.{device_edited, device_of, edited, is_named, rules_edited, with_rules}
use Rattle.incr_review.specs.Live.{AreWaysGiven, HaveNoRules, IsWalked}
use Rattle.incr_review.specs.Walking.{HaveWalked, IsBefore}
use Rattle.incr_review.specs.Reviews.{IsKept, IsReview}
use Rattle.incr_review.specs.Regions.{AreReviewed, StartsWith, stays}
use Rattle.incr_review.specs.Again.{AreAgain, leaves}
use Rattle.incr_review.proofs.PassLemmas.{passes_on}
use Rattle.incr_review.proofs.EditLemmas.{device_is_edited, edited_there, made}
use Rattle.incr_review.proofs.GroupLemmas.{in_set}
use Rattle.incr_review.proofs.LiveLemmas.{others_alike, ways_given}
use Rattle.incr_review.proofs.ReviewLemmas.{reviewed_after, reviewed_kept}

pub review_later : (v : World) (network : Network) (t : ℕ) (f g : Functions) (rs : List Region) → Keeps f g → IsReview (record { baseline = v; edited = network; ttl = t; table = f; regions = rs }) → IsReview (record { baseline = v; edited = network; ttl = t; table = g; regions = rs })
review_later v network t f g rs k a = record { least = a.least; reviewed = reviewed_kept v (record { network = network; links = v.links }) t v.links.ingress f g rs k a.reviewed }

pub kept_later : (v : World) (network : Network) (t : ℕ) (old new : LiveWays) (plain : Bool) (rs : List Region) → IsRenewed old new → ((p : Place) → get same_place new.ways.positions p ≡ get same_place old.ways.positions p) → IsKept v network t old plain rs → IsKept v network t new plain rs
kept_later v network t old new plain rs r e a =
    record {
      review = review_later v network t old.tables.diagrams new.tables.diagrams rs r.kept a.review;
      live_is = live_later (record { network = network; links = v.links }) old new r e a.live_is;
      plain_is = a.plain_is;
    }

pub walked_later : (a b c : LiveWays) → IsRenewed a b → IsWalked b c → IsRenewed a c
walked_later a b c r w = renewed_then a b c r (grown b c w.scope w.ways w.kept)

-- ---- the edited device
nat_same : (e : Edit) (x y : NetDevice) → device_edited e x ≡ Ok y → y.config.nat ≡ x.config.nat
nat_same e x y q = let m = made (with_rules x) (rules_edited e x.config) y q in ap (λ (z : NetDevice). z.config.nat) (sym m.gives)

-- the device at the position is the first one that the edit names, and the edited one stands in its place
pub record IsMade (network after : Network) (e : Edit) (i : ℕ) (x y : NetDevice) : Type 0 where
  pub first : position (is_named (device_of e)) network.devices ≡ Some i
  pub there : slice_get network.devices i ≡ Some x
  pub device : device_edited e x ≡ Ok y
  pub ok : edited e network ≡ Ok after
  pub after_is : after ≡ record { devices = set network.devices i y }

module _ {network after : Network} {e : Edit} {i : ℕ} {x y : NetDevice} (v : World) (put : IsMade network after e i x y) where
  abbrev w0 : World
  w0 = record { network = network; links = v.links }

  abbrev w1 : World
  w1 = record { network = after; links = v.links }

  abbrev d : ℕ
  d = device_of e

  pub differs : DiffersOnlyAt w0 w1 d
  differs = edited_differs w0 w1 d refl (edited_there e network after put.ok)

  found0 : find (is_named d) network.devices ≡ Some x
  found0 = found (is_named d) network.devices i x (sym put.first) (sym put.there)

  pub x_named : x.name ≡ d
  x_named = let t = (found_in (is_named d) network.devices x found0).1 in name_of t
    where
      name_of : (x.name == d) ≡ true → x.name ≡ d
      name_of t = grind (arith, nat_tests, t)

  pub x_edited : IsEdited d x y
  x_edited = device_is_edited e x y x_named put.device

  pub y_named : y.name ≡ d
  y_named = sym x_edited.name ∙ x_named

  pub replaced : IsReplaced w0 w1 x y
  replaced = replaced_in network after i y put.after_is v.links x (subst (λ n. position (λ (z : NetDevice). z.name == n) network.devices ≡ Some i) (sym y_named) put.first) put.there

  within : i < length network.devices
  within = (at_position (is_named d) network.devices i (sym put.first)).1

  pub live_after : {j : ℕ} → j ≡ i → {old new : LiveWays} → ((u : World) (z : NetDevice) → slice_get after.devices j ≡ Some z → IsReplaced u w1 x z → IsLive u old → IsLive w1 new) → IsLive w0 old → IsLive w1 new
  live_after q by a = by w0 y (ap (slice_get after.devices) q ∙ stands network after i y put.after_is within) replaced a

  found1 : find (is_named d) after.devices ≡ Some y
  found1 = subst (λ n. find (λ (z : NetDevice). z.name == n) after.devices ≡ Some y) y_named replaced.after

  rules_after : HaveNoRules network.devices → HaveNoRules after.devices
  rules_after none z c =
      elim (in_set network.devices i y z within (subst (λ (n : Network). Contains n.devices z) put.after_is c)) [
        | inl q ↦ ap (λ (u : NetDevice). u.config.nat) (sym q) ∙ (nat_same e x y put.device ∙ none x (found_in (is_named d) network.devices x found0).0)
        | inr m ↦ none z m
      ]

  module _ {old new : LiveWays} (a : IsLive w0 old) (b : IsLive w1 new) (r : IsRenewed old new) where
    -- ---- walked again
    module _ (t : ℕ) (plain : Bool) (known : plain ≡ true → HaveNoRules network.devices) (at : Place → Option ℕ) (rs : List Region) (before : (p : Place) → at p ≡ get same_place old.ways.positions p) where
      ways_there : ArePlaceWays w0 new.tables.diagrams new.scope new.ways.lists.items at
      ways_there = ways_before w0 old new at r before a

      pub given_before : AreWaysGiven new.tables.diagrams new.ways.lists.items at
      given_before = ways_given w0 new.tables.diagrams new.scope new.ways.lists.items at ways_there

      is_before : IsBefore new.tables.diagrams (record { world = w1; scope = new.scope; lists = new.ways.lists.items; before = at; after = get same_place new.ways.positions; device = x; plain = plain; ttl = t }) w0
      is_before =
          record {
            ways = ways_there;
            differs = subst (DiffersOnlyAt w0 w1) (sym x_named) differs;
            plain = λ q. passes_on w0 (known q);
            others = λ p h e none. others_alike w0 w1 d x y found0 found1 x_edited.numbers p h (e ∙ x_named) none;
          }

      module _ {last : LiveWays} {rs2 : List Region} (review : IsReview (record { baseline = v; edited = network; ttl = t; table = old.tables.diagrams; regions = rs })) (w : IsWalked new last)
          (walked : HaveWalked new.tables.diagrams (record { world = w1; scope = new.scope; lists = new.ways.lists.items; before = at; after = get same_place new.ways.positions; device = x; plain = plain; ttl = t }) last.tables.diagrams rs rs2) where
        before_there : AreReviewed v w0 t v.links.ingress new.tables.diagrams rs
        before_there = reviewed_kept v w0 t v.links.ingress old.tables.diagrams new.tables.diagrams rs r.kept review.reviewed

        are_after : rs2 ≡ filter (stays d) rs ++ walked.more
        are_after = walked.are ∙ ap (λ n. filter (stays n) rs ++ walked.more) x_named

        pub starts : StartsWith (filter (stays d) rs) rs2
        starts = record { rest = walked.more; are = are_after }

        again : AreAgain w1 t v.links.ingress new.tables.diagrams (filter (leaves d) rs) last.tables.diagrams walked.more
        again =
            subst (λ n. AreAgain w1 t v.links.ingress new.tables.diagrams (filter (leaves n) rs) last.tables.diagrams walked.more) x_named (walked.right v w0 is_before before_there)

        pub review_after : IsReview (record { baseline = v; edited = after; ttl = t; table = last.tables.diagrams; regions = rs2 })
        review_after =
            record {
              least = review.least;
              reviewed = subst (AreReviewed v w1 t v.links.ingress last.tables.diagrams) (sym are_after)
                  (reviewed_after v w0 w1 t v.links.ingress new.tables.diagrams last.tables.diagrams d rs walked.more differs w.kept before_there again);
            }

        pub kept_after : IsKept v after t last plain rs2
        kept_after =
            record {
              review = review_after;
              live_is = live_grown w1 new last w.scope w.ways w.kept b;
              plain_is = λ q. rules_after (known q);
            }

pub kept_opened : (v : World) (t : ℕ) (old new : LiveWays) (plain : Bool) (rs : List Region) → 1 ≤ t → IsLive v old → (plain ≡ true → HaveNoRules v.network.devices) → IsWalked old new → AreReviewed v v t v.links.ingress new.tables.diagrams rs → IsKept v v.network t new plain rs
kept_opened v t old new plain rs least a known w reviewed =
    record {
      review = record { least = least; reviewed = reviewed };
      live_is = live_grown v old new w.scope w.ways w.kept a;
      plain_is = known;
    }

pub back_again : (network after last : Network) (i j : ℕ) (x y : NetDevice) → after ≡ record { devices = set network.devices i y } → j ≡ i → last ≡ record { devices = set after.devices j x } → slice_get network.devices i ≡ Some x → last ≡ network
back_again network after last i j x y a b c d = put_back network after i y a x last d (c ∙ (λ k. record { devices = set after.devices (b k) x }))
