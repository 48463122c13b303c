-- The parts of an accepted text's configuration are printable.
use Rattle.std.proofs.Common.{◌≡◌, ℕ, Bool, true, false, cond, not, ◌&&◌, ◌==◌, List, [], ◌∷◌, ◌++◌, map, refl, sym, subst, arith, append-nil}
use Rattle.std.specs.Prelude.{Option, Some, None, filter_map, filter, fold, option_map, option_to_list, is_some, nat_le, nat_lt}
use Rattle.std.specs.List.{AllByRecursion, cons_option, list_any}
use Rattle.std.proofs.lemmas.Bool.{leb-false, le-leb}
use Rattle.net_text.specs.Texts.{IsWord}
use Rattle.net_types.specs.declared.config.NatRule.{NatRule}
use Rattle.net_types.specs.declared.config.Interface.{Interface}
use Rattle.ios_lines.specs.declared.effect.Action.TheVariants as action
use Rattle.ios_lines.specs.declared.effect.Change.{Change}
use Rattle.ios_lines.specs.declared.effect.Change.TheVariants as change
use Rattle.ios_lines.specs.declared.effect.Effect.{Effect}
use Rattle.ios_lines.specs.declared.effect.Effect.TheVariants as effect
use Rattle.ios_lines.specs.declared.effect.WrittenAddress.{WrittenAddress}
use Rattle.ios_lines.specs.declared.effect.WrittenRoute.{WrittenRoute}
use Rattle.ios_lines.specs.Words.{Word, Words}
use Rattle.ios_lines.specs.Lists.{first, latest, place_of, changes_of}
use Rattle.ios_lines.proofs.Steps.{filter_map_more}
use Rattle.ios_config.specs.declared.overlap.Claim.{Claim}
use Rattle.ios_config.specs.Overlap.{overlap, claims_from, is_clash, clashes, sooner, soonest, first_clash}
use Rattle.ios_config.specs.Sweep.{extent_of}
use Rattle.ios_config.specs.Rules.{hostname, host_of, about, written, is_clear, in_force, primary_of, secondary_of, input_of, output_of, interface_by, interfaces, interface_of, names, route_of, routes, rule_of, nat}
use Rattle.ios_config.specs.Reads.{overlap_at, overlapping, port_of, unknown_if, unknown_by, unknown_at, unknown}
use Rattle.ios_config.proofs.Sweeps.{or_false, cross_back}
use Rattle.ios_print.specs.Printable.{IsAddress, IsWordIfAny, IsAddressIfAny, IsInterface, AreInterfaces, IsRoute, AreRoutes, IsRule, AreRules}
use Rattle.ios_print.specs.PrintableConfig.{IsKnown, AreKnown, subnets_from, crosses, AreApart}
use Rattle.ios_print.proofs.EffectsFine.{IfAny, FineAll, all_found, last_found}
use Rattle.ios_print.proofs.FineNames.{all_kept, last_kept, IsWritten, changes_fine, names_fine, Behind, names_behind}
use Rattle.ios_print.proofs.FineCommands.{IsName, IsFineChange}
use Rattle.ios_print.proofs.FineLines.{IsFine}
use Rattle.ios_print.proofs.Views.{view, from_views}

-- ---- what effects give

host_found : (before : List Effect) (e : Effect) → IsFine before e → IfAny IsWord (host_of e)
host_found before (effect.Act (action.Host n)) h = h
host_found before _ h = tt

about_found : (before : List Effect) (e : Effect) → IsFine before e → IfAny (IsWritten IsName IsFineChange) (about e)
about_found before (effect.Act (action.Interface n c)) h = h
about_found before _ h = tt

abbrev IsWrittenRoute : WrittenRoute → Type 0
IsWrittenRoute r = IsRoute r.route

route_found : (before : List Effect) (e : Effect) → IsFine before e → IfAny IsWrittenRoute (route_of e)
route_found before (effect.Act (action.Route r)) h = h
route_found before _ h = tt

rule_found : (before : List Effect) (e : Effect) → IsFine before e → IfAny (IsRule (nat before)) (rule_of e)
rule_found before (effect.Act (action.Nat r)) h = h
rule_found before _ h = tt

-- ---- the hostname

pub host_is : (es : List Effect) (h : Word) → FineAll IsFine [] es → hostname es ≡ Some h → IsWord h
host_is es h a e = subst (IfAny IsWord) e (last_found IsFine host_of IsWord host_found [] es a)

-- ---- interfaces

forces : (cs : List Change) → AllByRecursion IsFineChange cs → AllByRecursion IsFineChange (in_force cs)
forces [] a = tt
forces (c ∷ cs) a = go (list_any is_clear cs) (is_clear c) (forces cs a.1)
  where
    go : (s t : Bool) → AllByRecursion IsFineChange (in_force cs) → AllByRecursion IsFineChange (cond s (in_force cs) (cond t cs (c ∷ cs)))
    go true t h = h
    go false true h = a.1
    go false false h = a

abbrev IsWrittenAddress : WrittenAddress → Type 0
IsWrittenAddress a = IsAddress a.subnet

primary_is : (c : Change) → IsFineChange c → IfAny IsWrittenAddress (primary_of c)
primary_is (change.Primary a) h = h
primary_is _ h = tt

secondary_is : (c : Change) → IsFineChange c → IfAny IsWrittenAddress (secondary_of c)
secondary_is (change.Secondary a) h = h
secondary_is _ h = tt

input_is : (c : Change) → IsFineChange c → IfAny IsWord (input_of c)
input_is (change.Input w) h = h
input_is _ h = tt

output_is : (c : Change) → IsFineChange c → IfAny IsWord (output_of c)
output_is (change.Output w) h = h
output_is _ h = tt

some_word : (o : Option Word) → IfAny IsWord o → IsWordIfAny o
some_word None h = tt
some_word (Some w) h = h

some_address : (o : Option WrittenAddress) → IfAny IsWrittenAddress o → IsAddressIfAny (option_map (λ (a : WrittenAddress). a.subnet) o)
some_address None h = tt
some_address (Some a) h = h

some_addresses : (ws : List WrittenAddress) → AllByRecursion IsWrittenAddress ws → AllByRecursion IsAddress (map (λ (a : WrittenAddress). a.subnet) ws)
some_addresses [] h = tt
some_addresses (a ∷ ws) h = (h.0, some_addresses ws h.1)

interface_is : (before : Words) (n : Word) (cs : List Change) → IsName n → place_of n before ≡ None → AllByRecursion IsFineChange cs → IsInterface before (interface_of (interface_by n cs))
interface_is before n cs k b a = record {
  name = k.0;
  other = k.1;
  new = b;
  primary = some_address (latest primary_of (in_force cs)) (last_kept primary_of IsFineChange IsWrittenAddress primary_is (in_force cs) (forces cs a));
  secondary = some_addresses (filter_map secondary_of (in_force cs)) (all_kept secondary_of IsFineChange IsWrittenAddress secondary_is (in_force cs) (forces cs a));
  input = some_word (latest input_of cs) (last_kept input_of IsFineChange IsWord input_is cs a);
  output = some_word (latest output_of cs) (last_kept output_of IsFineChange IsWord output_is cs a);
}

are_interfaces : (ws : List (Word × Change)) → AllByRecursion (IsWritten IsName IsFineChange) ws → (before ns : Words) → Behind before ns → AllByRecursion IsName ns → AreInterfaces before (map interface_of (map (λ n. interface_by n (changes_of n ws)) ns))
are_interfaces ws a before [] b k = tt
are_interfaces ws a before (n ∷ ns) b k = (interface_is before n (changes_of n ws) k.0 b.0 (changes_fine IsName IsFineChange n ws a), are_interfaces ws a (before ++ n ∷ []) ns b.1 k.1)

pub interfaces_are : (es : List Effect) → FineAll IsFine [] es → AreInterfaces [] (map interface_of (interfaces es))
interfaces_are es a =
    let w = all_found IsFine about (IsWritten IsName IsFineChange) about_found [] es a in
    are_interfaces (written es) w [] (names es) (names_behind (written es)) (names_fine IsName IsFineChange (written es) w)

-- ---- routes

are_routes : (rs : List WrittenRoute) → AllByRecursion IsWrittenRoute rs → AreRoutes (map (λ (r : WrittenRoute). r.route) rs)
are_routes [] a = tt
are_routes (r ∷ rs) a = (a.0, are_routes rs a.1)

pub routes_are : (es : List Effect) → FineAll IsFine [] es → AreRoutes (map (λ (r : WrittenRoute). r.route) (routes es))
routes_are es a = are_routes (routes es) (all_found IsFine route_of IsWrittenRoute route_found [] es a)

-- no route names an unknown interface
names_back : (ws : List (Word × Change)) (ns : Words) → map (λ (i : Interface). i.name) (map interface_of (map (λ n. interface_by n (changes_of n ws)) ns)) ≡ ns
names_back ws [] = refl
names_back ws (n ∷ ns) = cc (names_back ws ns)

known_if : (line : ℕ) (n : Word) (o : Option ℕ) → unknown_if line n o ≡ None → is_some o ≡ true
known_if line n None h = absurd (cc)
known_if line n (Some i) h = refl

known_by : (ns : Words) (line : ℕ) (o : Option Word) → unknown_by ns line o ≡ None → IsKnown ns o
known_by ns line None h = tt
known_by ns line (Some n) h = known_if line n (place_of n ns) h

no_first : {A : Type 0} (o : Option A) (xs : List A) → first (cons_option o xs) ≡ None → (o ≡ None) × (first xs ≡ None)
no_first None xs h = (refl, h)
no_first (Some x) xs h = absurd (cc)

all_known : (ns : Words) (rs : List WrittenRoute) → unknown ns rs ≡ None → AreKnown ns (map (λ (r : WrittenRoute). r.route) rs)
all_known ns [] h = tt
all_known ns (r ∷ rs) h = let p = no_first (unknown_at ns r) (filter_map (unknown_at ns) rs) h in (known_by ns r.line (port_of r.route.exit) p.0, all_known ns rs p.1)

pub known_are : (es : List Effect) → unknown (names es) (routes es) ≡ None → AreKnown (map (λ (i : Interface). i.name) (map interface_of (interfaces es))) (map (λ (r : WrittenRoute). r.route) (routes es))
known_are es h = subst (λ ns. AreKnown ns (map (λ (r : WrittenRoute). r.route) (routes es))) (sym (names_back (written es) (names es))) (all_known (names es) (routes es) h)

-- ---- address translation

are_rules : (before es : List Effect) → FineAll IsFine before es → AreRules (nat before) (nat es)
are_rules before [] a = tt
are_rules before (e ∷ es) a = go (rule_of e) (rule_found before e a.0) (subst (λ rs. AreRules rs (nat es)) (filter_map_more rule_of before e) (are_rules (before ++ e ∷ []) es a.1))
  where
    go : (o : Option NatRule) → IfAny (IsRule (nat before)) o → AreRules (nat before ++ option_to_list o) (nat es) → AreRules (nat before) (cons_option o (nat es))
    go None h r = subst (λ rs. AreRules rs (nat es)) (append-nil (nat before)) r
    go (Some x) h r = (h, r)

pub rules_are : (es : List Effect) → FineAll IsFine [] es → AreRules [] (nat es)
rules_are es a = are_rules [] es a

-- ---- addresses in force

never_none : (cs : List Claim) (b : Claim) → fold sooner (Some b) cs ≡ None → ⊥
never_none [] b h = absurd (cc)
never_none (c ∷ cs) b h = go (nat_lt c.address.line b.address.line) (never_none cs c) (never_none cs b) h
  where
    go : (t : Bool) → (fold sooner (Some c) cs ≡ None → ⊥) → (fold sooner (Some b) cs ≡ None → ⊥) → fold sooner (cond t (Some c) (Some b)) cs ≡ None → ⊥
    go true f g k = f k
    go false f g k = g k

none_soonest : (cs : List Claim) → fold sooner None cs ≡ None → cs ≡ []
none_soonest [] h = refl
none_soonest (c ∷ cs) h = absurd (never_none cs c h)

no_some : {A B : Type 0} (f : A → B) (o : Option A) → option_map f o ≡ None → o ≡ None
no_some f None h = refl
no_some f (Some x) h = absurd (cc)

none_kept : {A : Type 0} (p : A → Bool) (xs : List A) → filter p xs ≡ [] → AllByRecursion (λ x. p x ≡ false) xs
none_kept p [] h = tt
none_kept p (x ∷ xs) h = go (p x) refl (none_kept p xs) h
  where
    go : (t : Bool) → p x ≡ t → (filter p xs ≡ [] → AllByRecursion (λ x. p x ≡ false) xs) → cond t (x ∷ filter p xs) (filter p xs) ≡ [] → (p x ≡ false) × AllByRecursion (λ x. p x ≡ false) xs
    go true e r k = absurd (cc)
    go false e r k = (e, r k)

none_of : {A : Type 0} (p : A → Bool) (xs : List A) → list_any p xs ≡ false → AllByRecursion (λ x. p x ≡ false) xs
none_of p [] h = tt
none_of p (x ∷ xs) h = let o = or_false (p x) (list_any p xs) h in (o.0, none_of p xs o.1)

all_weaker : {A : Type 0} (P Q : A → Type 0) → ((x : A) → P x → Q x) → (xs : List A) → AllByRecursion P xs → AllByRecursion Q xs
all_weaker P Q f [] a = tt
all_weaker P Q f (x ∷ xs) a = (f x a.0, all_weaker P Q f xs a.1)

both_all : {A : Type 0} (P Q R : A → Type 0) → ((x : A) → P x → Q x → R x) → (xs : List A) → AllByRecursion P xs → AllByRecursion Q xs → AllByRecursion R xs
both_all P Q R f [] a b = tt
both_all P Q R f (x ∷ xs) a b = (f x a.0 b.0, both_all P Q R f xs a.1 b.1)

-- what holds of each and each, holds the other way round
module _ {A : Type 0} (S : A → A → Type 0) where
  turned_none : (ys : List A) → AllByRecursion (λ y. AllByRecursion (λ x. S x y) []) ys
  turned_none [] = tt
  turned_none (y ∷ ys) = (tt, turned_none ys)

  turned : (xs ys : List A) → AllByRecursion (λ x. AllByRecursion (S x) ys) xs → AllByRecursion (λ y. AllByRecursion (λ x. S x y) xs) ys
  turned [] ys a = turned_none ys
  turned (x ∷ xs) ys a = both_all (S x) (λ y. AllByRecursion (λ z. S z y) xs) (λ y. AllByRecursion (λ z. S z y) (x ∷ xs)) (λ y p q. (p, q)) ys a.0 (turned xs ys a.1)

and_true : (a b o : Bool) → b ≡ true → ((a && b) && o) ≡ false → (a && o) ≡ false
and_true true true o e h = h
and_true false true o e h = refl
and_true a false o e h = absurd (cc)

-- of two addresses one stands no later
apart : (c d : Claim) → is_clash c d ≡ false → is_clash d c ≡ false → crosses (view c) (view d) ≡ false
unfolding view
apart c d h k = (elim (nat_le d.address.line c.address.line) as (λ b. nat_le d.address.line c.address.line ≡ b → crosses (c.owner, c.address.subnet) (d.owner, d.address.subnet) ≡ false) [
  | true ↦ λ e. and_true (not (d.owner == c.owner)) (nat_le d.address.line c.address.line) (overlap d.address.subnet c.address.subnet) e h
  | false ↦ λ e. cross_back (extent_of d) (extent_of c) (and_true (not (c.owner == d.owner)) (nat_le c.address.line d.address.line) (overlap c.address.subnet d.address.subnet) (le-leb c.address.line d.address.line (omega (arith, leb-false d.address.line c.address.line e))) k)
]) refl

all_mapped : {A B : Type 0} (f : A → B) (P : B → Type 0) (xs : List A) → AllByRecursion (λ x. P (f x)) xs → AllByRecursion P (map f xs)
all_mapped f P [] a = tt
all_mapped f P (x ∷ xs) a = (a.0, all_mapped f P xs a.1)

claims_apart : (cs : List Claim) → soonest cs ≡ None → AreApart (map view cs)
claims_apart cs h =
    let none = none_kept (clashes cs) cs (none_soonest (filter (clashes cs) cs) h) in
    let each = all_weaker (λ c. clashes cs c ≡ false) (λ c. AllByRecursion (λ d. is_clash c d ≡ false) cs) (λ c k. none_of (is_clash c) cs k) cs none in
    let back = turned (λ c d. is_clash c d ≡ false) cs cs each in
    let all = both_all (λ c. AllByRecursion (λ d. is_clash c d ≡ false) cs) (λ c. AllByRecursion (λ d. is_clash d c ≡ false) cs) (λ c. AllByRecursion (λ d. crosses (view c) (view d) ≡ false) cs)
    (λ c p q. both_all (λ d. is_clash c d ≡ false) (λ d. is_clash d c ≡ false) (λ d. crosses (view c) (view d) ≡ false) (apart c) cs p q) cs each back in
    all_mapped view (λ x. AllByRecursion (λ y. crosses x y ≡ false) (map view cs)) cs
    (all_weaker (λ c. AllByRecursion (λ d. crosses (view c) (view d) ≡ false) cs) (λ c. AllByRecursion (λ y. crosses (view c) y ≡ false) (map view cs)) (λ c p. all_mapped view (λ y. crosses (view c) y ≡ false) cs p) cs all)

pub apart_are : (es : List Effect) → overlapping (interfaces es) ≡ None → AreApart (subnets_from 0 (map interface_of (interfaces es)))
apart_are es h = subst AreApart (from_views 0 (interfaces es)) (claims_apart (claims_from 0 (interfaces es))
    (no_some (λ (c : Claim). c.address) (soonest (claims_from 0 (interfaces es))) (no_some overlap_at (first_clash (claims_from 0 (interfaces es))) h)))
