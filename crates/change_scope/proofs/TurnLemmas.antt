-- What translation may do: where it changes the destination, that is an address of a rule, before and after.
use Rattle.std.proofs.Common.{ℕ, ◌≡◌, inl, inr, Bool, true, false, cond, List, [], ◌∷◌, Option, Some, None, refl, ap, sym, ◌∙◌, subst}
use Rattle.std.specs.Prelude.{Contains, ◌==◌, ◌&&◌, find}
use Rattle.std.proofs.lemmas.Bool.Decides.{eqb_tells}
use Rattle.hdr_bits.specs.declared.header.Header.{Header}
use Rattle.hdr_bits.specs.HeaderBits.{IsHeader}
use Rattle.cube_diagram.specs.Functions.{Functions}
use Rattle.net_types.specs.declared.config.NatRule.{NatRule}
use Rattle.net_types.specs.Translation.{is_plain, is_port_rule, is_outer, port_fits_dst, plain_fits_dst, port_fits_src, plain_fits_src, outer_fits_src, outer_fits_dst, with_dst, with_src, with_outer_src, with_outer_dst, from_outside, from_inside}
use Rattle.net_types.proofs.Members as members
use Rattle.net_types.specs.declared.network.NetDevice.{NetDevice}
use Rattle.set_walk.specs.Sets.{InSet}
use Rattle.change_scope.specs.Differences.{HasAll}
use Rattle.change_scope.specs.Translated.{AreNamed, AreTurned, ByDestination, HasAllRules, HasMore, HasNamed, HasRule, HasRules, IsTurned, TurnsBy}

pub found_in : {A : Type 0} (p : A → Bool) (xs : List A) (x : A) → find p xs ≡ Some x → Contains xs x × (p x ≡ true)
found_in p [] x e = absurd cc
found_in p (y ∷ ys) x e =
    (elim (p y) as (λ b. p y ≡ b → cond b (Some y) (find p ys) ≡ Some x → Contains (y ∷ ys) x × (p x ≡ true)) [
      | true ↦ λ t s. let q : y ≡ x = cc in (subst (Contains (y ∷ ys)) q (members.here y ys), ap p (sym q) ∙ t)
      | false ↦ λ t s. let r = found_in p ys x s in (members.there y x ys r.0, r.1)
    ]) refl e

pub same_number : (a b : ℕ) → (a == b) ≡ true → a ≡ b
same_number a b e =
    elim (eqb_tells a b) [
      | inl p ↦ p.1
      | inr p ↦ let t : true ≡ false = sym e ∙ p.0 in absurd cc
    ]

left : (a b : Bool) → (a && b) ≡ true → a ≡ true
left true b e = refl
left false b e = absurd cc

right : (a b : Bool) → (a && b) ≡ true → b ≡ true
right true b e = e
right false b e = absurd cc

module _ (fs : Functions) (set : ℕ) (by : ByDestination fs set) (rules : List NatRule) (has : HasRules fs set rules) where
  -- a rule that was found, with what it matched
  record Found (matched a : ℕ) (r : NatRule) : Type 0 where
    named : HasRule fs set r
    matches : matched ≡ a

  port : (kind : NatRule → Bool) (side other : NatRule → ℕ) (a p : ℕ) (r : NatRule) → find (λ x. kind x && (side x == a && other x == p)) rules ≡ Some r → Found (side r) a r
  port kind side other a p r e =
      let f = found_in (λ x. kind x && (side x == a && other x == p)) rules r e in
      record { named = has r f.0; matches = same_number (side r) a (left (side r == a) (other r == p) (right (kind r) (side r == a && other r == p) f.1)) }

  plain : (kind : NatRule → Bool) (side : NatRule → ℕ) (a : ℕ) (r : NatRule) → find (λ x. kind x && side x == a) rules ≡ Some r → Found (side r) a r
  plain kind side a r e =
      let f = found_in (λ x. kind x && side x == a) rules r e in
      record { named = has r f.0; matches = same_number (side r) a (right (kind r) (side r == a) f.1) }

  -- the same destination
  kept : (h g : Header) → IsHeader h → IsHeader g → h.dst ≡ g.dst → IsTurned fs set h g
  kept h g v u e = record { fits = u; stays = (by h g v u e, by g h u v (sym e)) }

  -- another destination, where both are of a rule
  changed : (h g : Header) → IsHeader g → InSet fs set h → InSet fs set g → IsTurned fs set h g
  changed h g u i j = record { fits = u; stays = (λ _. j, λ _. i) }

  then_kept : (h g k : Header) → IsTurned fs set h g → IsHeader k → g.dst ≡ k.dst → IsTurned fs set h k
  then_kept h g k t u e = record { fits = u; stays = (λ i. by g k t.fits u e (t.stays.0 i), λ i. t.stays.1 (by k g u t.fits (sym e) i)) }

  module _ (h : Header) (v : IsHeader h) where
    to_inside : (a b : Option NatRule) → ((r : NatRule) → a ≡ Some r → Found r.global h.dst r) → ((r : NatRule) → b ≡ Some r → Found r.global h.dst r) → IsTurned fs set h (with_dst h a b)
    to_inside (Some r) b p q =
        let f = p r refl in
        let u : IsHeader (record h { dst = r.local; dport = r.local_port }) = record { dst = f.named.local_fits; src = v.src; proto = v.proto; dport = f.named.local_port_fits; sport = v.sport; flags = v.flags } in
        changed h (record h { dst = r.local; dport = r.local_port }) u (f.named.global h v (sym f.matches)) (f.named.local (record h { dst = r.local; dport = r.local_port }) u refl)
    to_inside None (Some r) p q =
        let f = q r refl in
        let u : IsHeader (record h { dst = r.local }) = record { dst = f.named.local_fits; src = v.src; proto = v.proto; dport = v.dport; sport = v.sport; flags = v.flags } in
        changed h (record h { dst = r.local }) u (f.named.global h v (sym f.matches)) (f.named.local (record h { dst = r.local }) u refl)
    to_inside None None p q = kept h h v v refl

    from_host : (y : Header) (c : Option NatRule) → IsTurned fs set h y → ((r : NatRule) → c ≡ Some r → Found r.global h.src r) → IsTurned fs set h (with_outer_src y c)
    from_host y None t p = t
    from_host y (Some r) t p =
        let f = p r refl in
        let u = t.fits in
        then_kept h y (record y { src = r.local }) t (record { dst = u.dst; src = f.named.local_fits; proto = u.proto; dport = u.dport; sport = u.sport; flags = u.flags }) refl

    outside_turns : IsTurned fs set h (from_outside rules h)
    outside_turns =
        from_host (with_dst h (find (port_fits_dst h) rules) (find (plain_fits_dst h) rules)) (find (outer_fits_src h) rules) (to_inside (find (port_fits_dst h) rules) (find (plain_fits_dst h) rules) (λ r e. port (λ x. is_port_rule x.kind h.proto) (λ x. x.global) (λ x. x.global_port) h.dst h.dport r e) (λ r e. plain (λ x. is_plain x.kind) (λ x. x.global) h.dst r e)) (λ r e. plain (λ x. is_outer x.kind) (λ x. x.global) h.src r e)

    from_within : (a b : Option NatRule) → ((r : NatRule) → a ≡ Some r → Found r.local h.src r) → ((r : NatRule) → b ≡ Some r → Found r.local h.src r) → IsTurned fs set h (with_src h a b)
    from_within (Some r) b p q =
        let f = p r refl in
        kept h (record h { src = r.global; sport = r.global_port }) v (record { dst = v.dst; src = f.named.global_fits; proto = v.proto; dport = v.dport; sport = f.named.global_port_fits; flags = v.flags }) refl
    from_within None (Some r) p q =
        let f = q r refl in
        kept h (record h { src = r.global }) v (record { dst = v.dst; src = f.named.global_fits; proto = v.proto; dport = v.dport; sport = v.sport; flags = v.flags }) refl
    from_within None None p q = kept h h v v refl

    same_dst : (a b : Option NatRule) → (with_src h a b).dst ≡ h.dst
    same_dst (Some r) b = refl
    same_dst None (Some r) = refl
    same_dst None None = refl

    to_host : (y : Header) (c : Option NatRule) → IsTurned fs set h y → y.dst ≡ h.dst → ((r : NatRule) → c ≡ Some r → Found r.local h.dst r) → IsTurned fs set h (with_outer_dst y c)
    to_host y None t e p = t
    to_host y (Some r) t e p =
        let f = p r refl in
        let u = t.fits in
        let k : IsHeader (record y { dst = r.global }) = record { dst = f.named.global_fits; src = u.src; proto = u.proto; dport = u.dport; sport = u.sport; flags = u.flags } in
        changed h (record y { dst = r.global }) k (f.named.local h v (sym f.matches)) (f.named.global (record y { dst = r.global }) k refl)

    inside_turns : IsTurned fs set h (from_inside rules h)
    inside_turns =
        to_host (with_src h (find (port_fits_src h) rules) (find (plain_fits_src h) rules)) (find (outer_fits_dst h) rules) (from_within (find (port_fits_src h) rules) (find (plain_fits_src h) rules) (λ r e. port (λ x. is_port_rule x.kind h.proto) (λ x. x.local) (λ x. x.local_port) h.src h.sport r e) (λ r e. plain (λ x. is_plain x.kind) (λ x. x.local) h.src r e)) (same_dst (find (port_fits_src h) rules) (find (plain_fits_src h) rules)) (λ r e. plain (λ x. is_outer x.kind) (λ x. x.local) h.dst r e)

-- a set of destinations that has each address of the rules
pub turned_by : (fs : Functions) (set : ℕ) (rules : List NatRule) → ByDestination fs set → HasRules fs set rules → TurnsBy rules fs set
turned_by fs set rules by has = record { outside = λ h v. outside_turns fs set by rules has h v; inside = λ h v. inside_turns fs set by rules has h v }

pub all_turned : (fs : Functions) (set : ℕ) (ds : List NetDevice) → ByDestination fs set → HasAllRules ds fs set → AreTurned ds fs set
all_turned fs set ds by has d c = turned_by fs set d.config.nat by (has d c)

pub named_more : (old new : List ℕ) (rules : List NatRule) → HasMore old new → AreNamed old rules → AreNamed new rules
named_more old new rules m a r c =
    let n = a r c in
    record {
      local = m r.local n.local;
      global = m r.global n.global;
      local_fits = n.local_fits;
      global_fits = n.global_fits;
      local_port_fits = n.local_port_fits;
      global_port_fits = n.global_port_fits;
    }

-- a set that has the headers to all these addresses
pub has_rules : (fs : Functions) (set : ℕ) (addresses : List ℕ) (rules : List NatRule) → HasNamed fs addresses set → AreNamed addresses rules → HasRules fs set rules
has_rules fs set addresses rules has a r c =
    let n = a r c in
    record {
      local = λ h v e. has h v (subst (Contains addresses) (sym e) n.local);
      global = λ h v e. has h v (subst (Contains addresses) (sym e) n.global);
      local_fits = n.local_fits;
      global_fits = n.global_fits;
      local_port_fits = n.local_port_fits;
      global_port_fits = n.global_port_fits;
    }

pub rules_more : (f g : Functions) (a b : ℕ) (rules : List NatRule) → HasAll f a g b → HasRules f a rules → HasRules g b rules
rules_more f g a b rules m has r c =
    let n = has r c in
    record {
      local = λ h v e. m h (n.local h v e);
      global = λ h v e. m h (n.global h v e);
      local_fits = n.local_fits;
      global_fits = n.global_fits;
      local_port_fits = n.local_port_fits;
      global_port_fits = n.global_port_fits;
    }
