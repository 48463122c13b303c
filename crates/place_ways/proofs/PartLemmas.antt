-- Parts of a set of headers, each with the stamp that makes of its headers what they become.
use Rattle.std.proofs.Common.{ℕ, ◌≡◌, ◌<◌, ◌+◌, ◌⊎◌, ◌↔◌, inl, inr, Bool, true, false, if◌then◌else◌, List, [], ◌∷◌, ◌++◌, Option, Some, None, IsSome, take, length, get_or, append-nil, append_assoc, refl, ap, sym, ◌∙◌, subst}
use Rattle.std.specs.Prelude.{Contains}
use Rattle.std.proofs.lemmas.List.{get_or_default}
use Rattle.std.proofs.lemmas.List.Elements.{Contains-append_cases, Contains-append_left, Contains-append_right}
use Rattle.net_types.proofs.Members.{here, in_none, in_one}
use Rattle.hdr_bits.specs.declared.header.Header.{Header}
use Rattle.hdr_bits.specs.declared.cube.Cube.{Cube}
use Rattle.hdr_bits.specs.HeaderBits.{number, IsHeader}
use Rattle.hdr_bits.specs.CubeBits.{IsStar}
use Rattle.cube_alg.specs.declared.stamp.Stamp.{Stamp}
use Rattle.cube_alg.specs.Stamps.{applied}
use Rattle.cube_diagram.specs.Functions.{Functions, Keeps, count_of, value_at}
use Rattle.cube_diagram.specs.Reach.{GivesOnly}
use Rattle.nat_static.specs.Rules.{outer_from_inside, outer_from_outside, rule_from_inside, rule_from_outside}
use Rattle.net_types.specs.declared.config.NatRule.{NatRule}
use Rattle.net_types.specs.declared.network.Move.{Move}
use Rattle.net_types.specs.Translation.{from_inside, from_outside}
use Rattle.set_walk.specs.declared.step.Way.{Way}
use Rattle.set_walk.specs.Sets.{InSet, IsSetOf}
use Rattle.set_walk.specs.Ways.{IsStamp}
use Rattle.set_walk.proofs.StampLemmas.{applied_fits}
use Rattle.set_walk.proofs.ToldLemmas.{item_among}
use Rattle.place_ways.specs.declared.parts.Part.{Part}
use Rattle.place_ways.specs.declared.parts.Translation.{Translation}
use Rattle.place_ways.specs.Adding.{AddsWays, AreGiven, ByOne}
use Rattle.place_ways.specs.Parts.{AddsParts, AreParts, AreStamped, IsAmong, IsPart, IsTranslation, outer_in, rule_in, translated_in}
use Rattle.place_ways.proofs.SetLemmas.{in_or_not, keeps_then, kept_below, kept_set}
use Rattle.place_ways.proofs.AddLemmas.{adds_from, adds_same}
use Rattle.place_ways.proofs.AmongLemmas.{among_values, one_taken}

-- ---- the table grows
pub translation_kept : (f g : Functions) (t : Translation) → Keeps f g → IsTranslation f t → IsTranslation g t
translation_kept f g t k a =
    record {
      rule_below = kept_below f g t.rule k a.rule_below;
      rule = λ h v. k.value t.rule a.rule_below (number h) ∙ a.rule h v;
      outer_below = kept_below f g t.outer k a.outer_below;
      outer = λ h v. k.value t.outer a.outer_below (number h) ∙ a.outer h v;
    }

pub stamped_kept : (f g : Functions) (parts : List Part) → Keeps f g → AreStamped f parts → AreStamped g parts
stamped_kept f g parts k a p c = let x = a p c in (kept_below f g p.headers k x.0, x.1)

-- ---- a part of a list
abbrev pub part_at : List Part → ℕ → Part
part_at parts i = get_or parts i (record { headers = 0; stamp = record { src = None; dst = None; sport = None; dport = None } })

pub part_is : (parts : List Part) (i : ℕ) → i < length parts → part_at parts i ≡ get_or parts i (part_at parts i)
part_is parts i l = get_or_default parts i (record { headers = 0; stamp = record { src = None; dst = None; sport = None; dport = None } }) (part_at parts i) l

pub part_among : (parts : List Part) (i : ℕ) → i < length parts → Contains parts (part_at parts i)
part_among parts i l = item_among parts i (part_at parts i) l (part_is parts i l)

-- ---- parts, and parts that are added
module _ (becomes : Header → Header) where
  part_kept : (f g : Functions) (P : Header → Type 0) (p : Part) → Keeps f g → IsPart f P becomes p → IsPart g P becomes p
  part_kept f g P p k a =
      record {
        below = kept_below f g p.headers k a.below;
        fits = a.fits;
        each = λ h v i. a.each h v ((kept_set f g p.headers h k a.below).0 i);
      }

  parts_kept : (f g : Functions) (P : Header → Type 0) (parts : List Part) → Keeps f g → AreParts f P becomes parts → AreParts g P becomes parts
  parts_kept f g P parts k a =
      record {
        each = λ p c. part_kept f g P p k (a.each p c);
        all = λ h v t. let x = a.all h v t in record { one = x.one; among = x.among; is = (kept_set f g x.one.headers h k (a.each x.one x.among).below).1 x.is };
      }

  parts_both : (f : Functions) (P Q : Header → Type 0) (xs ys : List Part) → AreParts f P becomes xs → AreParts f Q becomes ys → AreParts f (λ h. P h ⊎ Q h) becomes (xs ++ ys)
  parts_both f P Q xs ys a b =
      record {
        each = λ p c. elim (Contains-append_cases xs ys p c) [
          | inl d ↦ let x = a.each p d in record { below = x.below; fits = x.fits; each = λ h v i. let y = x.each h v i in (inl y.0, y.1) }
          | inr d ↦ let x = b.each p d in record { below = x.below; fits = x.fits; each = λ h v i. let y = x.each h v i in (inr y.0, y.1) }
        ];
        all = λ h v t. elim t [
          | inl q ↦ let x = a.all h v q in record { one = x.one; among = Contains-append_left xs ys x.one x.among; is = x.is }
          | inr q ↦ let x = b.all h v q in record { one = x.one; among = Contains-append_right xs ys x.one x.among; is = x.is }
        ];
      }

  pub part_alone : (f : Functions) (p : Part) → p.headers < count_of f → IsStamp p.stamp → ((h : Header) → IsHeader h → InSet f p.headers h → applied p.stamp h ≡ becomes h) → AreParts f (InSet f p.headers) becomes (p ∷ [])
  part_alone f p l s m =
      let mine : IsPart f (InSet f p.headers) becomes p = record { below = l; fits = s; each = λ h v i. (i, m h v i) } in
      record {
        each = λ q c. subst (IsPart f (InSet f p.headers) becomes) (in_one p q c) mine;
        all = λ h v i. record { one = p; among = here p []; is = i };
      }

  pub part_pushed : (f : Functions) (a : List Part) (p : Part) → p.headers < count_of f → IsStamp p.stamp → ((h : Header) → IsHeader h → InSet f p.headers h → applied p.stamp h ≡ becomes h) → AddsParts f (InSet f p.headers) becomes a (a ++ p ∷ [])
  part_pushed f a p l s m = record { more = p ∷ []; added = refl; parts = part_alone f p l s m }

  pub parts_none : (f : Functions) (P : Header → Type 0) (a : List Part) → ((h : Header) → P h → ⊥) → AddsParts f P becomes a a
  parts_none f P a n = record { more = []; added = sym (append-nil a); parts = record { each = λ p c. absurd (in_none p c); all = λ h v t. absurd (n h t) } }

  parts_then : (g k : Functions) (P Q : Header → Type 0) (a b c : List Part) → Keeps g k → AddsParts g P becomes a b → AddsParts k Q becomes b c → AddsParts k (λ h. P h ⊎ Q h) becomes a c
  parts_then g k P Q a b c e p q =
      record {
        more = p.more ++ q.more;
        added = q.added ∙ (ap (λ zs. zs ++ q.more) p.added ∙ append_assoc a p.more q.more);
        parts = parts_both k P Q p.more q.more (parts_kept g k P p.more e p.parts) q.parts;
      }

  parts_same : (f : Functions) (P Q : Header → Type 0) (a b : List Part) → ((h : Header) → IsHeader h → P h ↔ Q h) → AddsParts f P becomes a b → AddsParts f Q becomes a b
  parts_same f P Q a b e p =
      let ps = p.parts in
      record {
        more = p.more;
        added = p.added;
        parts = record {
          each = λ q c. let x = ps.each q c in record { below = x.below; fits = x.fits; each = λ h v i. let y = x.each h v i in ((e h v).0 y.0, y.1) };
          all = λ h v t. ps.all h v ((e h v).1 t);
        };
      }

  -- all that were added to none
  pub all_parts : (f : Functions) (P : Header → Type 0) (a b : List Part) → a ≡ [] → AddsParts f P becomes a b → AreParts f P becomes b
  all_parts f P a b e p = subst (AreParts f P becomes) (sym (p.added ∙ ap (λ zs. zs ++ p.more) e)) p.parts

  -- ---- headers of a set by the value of a function: those with one value more
  pub value_parts : (f g g2 k : Functions) (function given part : ℕ) (key : Header → Option ℕ) (xs : List ℕ) (i one : ℕ) (a b c : List Part) → Keeps f g → Keeps g g2 → Keeps g2 k → function < count_of f → given < count_of f → ((h : Header) → IsHeader h → value_at f function (number h) ≡ key h) → i < length xs → one ≡ get_or xs i one → IsSetOf g2 part (λ h. InSet g given h × (value_at g function (number h) ≡ Some one)) → AddsParts g (λ h. InSet f given h × IsAmong key (take i xs) h) becomes a b → AddsParts k (InSet g2 part) becomes b c → AddsParts k (λ h. InSet f given h × IsAmong key (take (i + 1) xs) h) becomes a c
  value_parts f g g2 k function given part key xs i one a b c k0 k1 k2 lf lg exact l e s p q =
      parts_same k _ _ a c (λ h v.
      let t = one_taken (λ n. key h ≡ Some n) xs i one l e in
      let z = kept_set f g given h k0 lg in
      let w = k0.value function lf (number h) in (
        λ x. elim x [
          | inl y ↦ (y.0, t.1 (inl y.1))
          | inr y ↦ let u = (s h v).0 y in (z.0 u.0, t.1 (inr (sym (exact h v) ∙ (sym w ∙ u.1))))
        ],
        λ x. elim (t.0 x.1) [
          | inl y ↦ inl (x.0, y)
          | inr y ↦ inr ((s h v).1 (z.1 x.0, w ∙ (exact h v ∙ y)))
        ],
      )) (parts_then g k _ _ a b c (keeps_then g g2 k k1 k2) p q)

  -- and those with none
  pub rest_parts : (f g g2 k : Functions) (function given rest : ℕ) (key : Header → Option ℕ) (all : Cube) (xs : List ℕ) (a b c : List Part) → ((j : ℕ) → j < 112 → IsStar all j) → GivesOnly (value_at f function) all xs → Keeps f g → Keeps g g2 → Keeps g2 k → function < count_of f → given < count_of f → ((h : Header) → IsHeader h → value_at f function (number h) ≡ key h) → IsSetOf g2 rest (λ h. InSet g given h × (InSet g function h → ⊥)) → AddsParts g (λ h. InSet f given h × IsAmong key xs h) becomes a b → AddsParts k (InSet g2 rest) becomes b c → AddsParts k (InSet f given) becomes a c
  rest_parts f g g2 k function given rest key all xs a b c stars only k0 k1 k2 lf lg exact r p q =
      parts_same k _ (InSet f given) a c (λ h v.
      let z = kept_set f g given h k0 lg in
      let w = kept_set f g function h k0 lf in (
        λ x. elim x [ inl y ↦ y.0 | inr y ↦ z.0 ((r h v).0 y).0 ],
        λ x. elim (in_or_not f function h) [
          | inl i ↦ let t = among_values (value_at f function) all xs h stars only i in inl (x, record { one = t.one; among = t.among; is = sym (exact h v) ∙ t.is })
          | inr n ↦ inr ((r h v).1 (z.1 x, λ j. n (w.0 j)))
        ],
      )) (parts_then g k _ _ a b c (keeps_then g g2 k k1 k2) p q)

  -- ---- what headers do by their parts
  pub stamped : (f : Functions) (P : Header → Type 0) (parts : List Part) → AreParts f P becomes parts → AreStamped f parts
  stamped f P parts a p c = let x = a.each p c in (x.below, x.fits)

  pub become_headers : (f : Functions) (P : Header → Type 0) (parts : List Part) → AreParts f P becomes parts → (h : Header) → IsHeader h → P h → IsHeader (becomes h)
  become_headers f P parts a h v t =
      let u = a.all h v t in
      let x = a.each u.one u.among in
      subst IsHeader (x.each h v u.is).1 (applied_fits u.one.stamp h x.fits v)

  pub by_parts : (f g k : Functions) (given : ℕ) (parts : List Part) (does : Header → Header → Move → Type 0) (a b : List Way) → Keeps f g → AreGiven f a → AreParts g (InSet f given) becomes parts → AddsWays g k (λ h m. ByOne (λ (p : Part). InSet g p.headers h × does h (applied p.stamp h) m) parts) a b → AddsWays f k (λ h m. InSet f given h × does h (becomes h) m) a b
  by_parts f g k given parts does a b e t ps p =
      adds_same f k _ _ a b (λ h v m. (
        λ x. let y = (ps.each x.one x.among).each h v x.is.0 in (y.0, subst (λ q. does h q m) y.1 x.is.1),
        λ x.
            let u = ps.all h v x.0 in
            let y = (ps.each u.one u.among).each h v u.is in
            record { one = u.one; among = u.among; is = (u.is, subst (λ q. does h q m) (sym y.1) x.1) },
      )) (adds_from f g k _ a b e t p)

none_of : (o : Option ℕ) → (IsSome o → ⊥) → o ≡ None
none_of None n = refl
none_of (Some v) n = absurd (n refl)

pub none_left : (f g g2 : Functions) (function given rest : ℕ) (key : Header → Option ℕ) → Keeps f g → function < count_of f → ((h : Header) → IsHeader h → value_at f function (number h) ≡ key h) → IsSetOf g2 rest (λ h. InSet g given h × (InSet g function h → ⊥)) → (h : Header) → IsHeader h → InSet g2 rest h → key h ≡ None
none_left f g g2 function given rest key e lf exact pr h v i =
    sym (exact h v) ∙ none_of (value_at f function (number h)) (λ j. ((pr h v).0 i).1 ((kept_set f g function h e lf).1 j))

-- ---- the stamp of two rules, of rules that were lent
applies_in : (t : Bool) (lent nat : List NatRule) (rule outer : Option ℕ) (s : Stamp) → lent ≡ nat → ((h : Header) → rule_in t lent h ≡ rule → outer_in t lent h ≡ outer → applied s h ≡ translated_in t lent h) → (h : Header) → rule_in t nat h ≡ rule → outer_in t nat h ≡ outer → applied s h ≡ translated_in t nat h
applies_in t lent nat rule outer s e p = subst (λ rules. (h : Header) → rule_in t rules h ≡ rule → outer_in t rules h ≡ outer → applied s h ≡ translated_in t rules h) e p

pub applies_outside : (t : Bool) (lent nat : List NatRule) (rule outer : Option ℕ) (s : Stamp) → t ≡ true → lent ≡ nat → ((h : Header) → rule_from_outside lent h ≡ rule → outer_from_outside lent h ≡ outer → applied s h ≡ from_outside lent h) → (h : Header) → rule_in t nat h ≡ rule → outer_in t nat h ≡ outer → applied s h ≡ translated_in t nat h
applies_outside t lent nat rule outer s q e p = subst (λ u. (h : Header) → rule_in u nat h ≡ rule → outer_in u nat h ≡ outer → applied s h ≡ translated_in u nat h) (sym q) (applies_in true lent nat rule outer s e p)

pub applies_inside : (t : Bool) (lent nat : List NatRule) (rule outer : Option ℕ) (s : Stamp) → t ≡ false → lent ≡ nat → ((h : Header) → rule_from_inside lent h ≡ rule → outer_from_inside lent h ≡ outer → applied s h ≡ from_inside lent h) → (h : Header) → rule_in t nat h ≡ rule → outer_in t nat h ≡ outer → applied s h ≡ translated_in t nat h
applies_inside t lent nat rule outer s q e p = subst (λ u. (h : Header) → rule_in u nat h ≡ rule → outer_in u nat h ≡ outer → applied s h ≡ translated_in u nat h) (sym q) (applies_in false lent nat rule outer s e p)

-- ---- all as they are
pub untouched : (s : Stamp) → s ≡ record { src = None; dst = None; sport = None; dport = None } → (h : Header) → applied s h ≡ h
untouched s e h = ap (λ t. applied t h) e

pub if_translated : (f : Functions) (P : Header → Type 0) (parts : List Part) (b : Bool) (t : Translation) → b ≡ true → AreParts f P (λ h. translated_in t.from_outside t.device.now.config.nat h) parts → AreParts f P (λ h. if b then translated_in t.from_outside t.device.now.config.nat h else h) parts
if_translated f P parts b t e a = subst (λ c. AreParts f P (λ h. if c then translated_in t.from_outside t.device.now.config.nat h else h) parts) (sym e) a

pub if_untranslated : (f : Functions) (P : Header → Type 0) (parts : List Part) (b : Bool) (t : Translation) → b ≡ false → AreParts f P (λ h. h) parts → AreParts f P (λ h. if b then translated_in t.from_outside t.device.now.config.nat h else h) parts
if_untranslated f P parts b t e a = subst (λ c. AreParts f P (λ h. if c then translated_in t.from_outside t.device.now.config.nat h else h) parts) (sym e) a
