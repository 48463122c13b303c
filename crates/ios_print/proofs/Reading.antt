-- The text of a printable configuration is read as it.
use Rattle.std.proofs.Common.{◌≡◌, ℕ, ◌+◌, ◌<◌, Bool, true, false, not, ◌&&◌, ◌==◌, List, [], ◌∷◌, ◌++◌, length, map, refl, sym, ap, subst, ◌∙◌, arith, Global}
use Rattle.std.specs.declared.vec.Vec.{Vec}
use Rattle.std.specs.Prelude.{IfOk, Result, Ok, Err, flat_map, filter, fold, Option, Some, None, option_map, is_some, nat_le}
use Rattle.std.specs.List.{AllByRecursion, list_any}
use Rattle.std.proofs.lemmas.Bool.{lt-leb}
use Rattle.net_text.specs.declared.Line.{Line}
use Rattle.net_text.specs.Lines.{lines_of}
use Rattle.net_text.specs.Texts.{text_at}
use Rattle.net_text.proofs.Whole.{texts_there}
use Rattle.net_text.proofs.Spelled.{texts_spelled}
use Rattle.net_text.proofs.Numbered.{After, all_after}
use Rattle.net_types.specs.declared.config.Config.{Config}
use Rattle.net_types.specs.declared.config.AccessList.{AccessList}
use Rattle.net_types.specs.declared.config.Entry.{Entry}
use Rattle.ios_lines.specs.declared.effect.Action.TheVariants as action
use Rattle.ios_lines.specs.declared.effect.Effect.TheVariants as effect
use Rattle.ios_lines.specs.declared.effect.Section.{Section}
use Rattle.ios_lines.specs.declared.effect.Section.TheVariants as section
use Rattle.ios_lines.specs.declared.effect.WrittenInterface.{WrittenInterface}
use Rattle.ios_lines.specs.declared.effect.WrittenRoute.{WrittenRoute}
use Rattle.ios_lines.specs.Words.{Word, Words, ended}
use Rattle.ios_lines.specs.Lists.{place_of}
use Rattle.ios_config.specs.Effects.{command_action, global_command, hostname_action, words_effect, effect_of}
use Rattle.ios_config.specs.Rules.{interface_of, list_of}
use Rattle.ios_config.specs.Reads.{line_effect, effects_after, effects, late_by, late, port_of, unknown_if, unknown_by, unknown, overlap_at, overlapping, Reads}
use Rattle.ios_config.specs.Overlap.{overlap, claims_from, is_clash, clashes, sooner}
use Rattle.ios_config.specs.declared.overlap.Claim.{Claim}
use Rattle.ios_config.specs.Draft.{Parts, parts_of}
use Rattle.ios_config.specs.Answers.{config_by}
use Rattle.ios_print.specs.Print.{host_row, interface_rows, route_row, rule_row, list_rows, config_rows, printed}
use Rattle.ios_print.specs.Printable.{AreInterfaces, AreRules}
use Rattle.ios_print.specs.PrintableLists.{AreLists}
use Rattle.ios_print.specs.PrintableConfig.{IsPrintable, IsKnown, AreKnown, subnets_from, crosses, AreApart}
use Rattle.ios_print.proofs.Rows.{all_rows}
use Rattle.ios_print.proofs.Views.{view, from_views}
use Rattle.ios_print.proofs.Runs.{Shows, written_of, At, Goes, goes_on, Numbered, all_steps}
use Rattle.ios_print.proofs.InterfaceLines.{with_interfaces, interfaces_go}
use Rattle.ios_print.specs.Printable.{AreRoutes}
use Rattle.ios_print.proofs.RouteLines.{with_routes, routes_go}
use Rattle.ios_print.proofs.RuleLines.{with_rules, rules_go}
use Rattle.ios_print.proofs.ListLines.{lists_go}

-- the hostname alone
abbrev named : Word → Config
named h = record { hostname = h; interfaces = []; routes = []; nat = []; lists = [] }

-- all lines after the first
rest_goes : (c : Config) → AreInterfaces [] c.interfaces → AreRoutes c.routes → AreRules [] c.nat → AreLists [] c.lists
    → (t : Section) × Goes (flat_map interface_rows c.interfaces ++ (map route_row c.routes ++ (map rule_row c.nat ++ (flat_map list_rows c.lists)))) (named c.hostname) section.Other c t
rest_goes c i r n l =
    let c1 = with_interfaces (named c.hostname) c.interfaces in
    let c2 = with_routes c1 c.routes in
    let c3 = with_rules c2 c.nat in
    let a = interfaces_go (named c.hostname) [] c.interfaces section.Other i in
    let b = routes_go c1 [] c.routes a.0 r in
    let d = rules_go c2 [] c.nat b.0 n in
    let e = lists_go c3 [] c.lists d.0 l in (
      e.0,
      goes_on (flat_map interface_rows c.interfaces) (map route_row c.routes ++ (map rule_row c.nat ++ (flat_map list_rows c.lists))) (named c.hostname) section.Other c1 a.0 c e.0 a.1
          (goes_on (map route_row c.routes) (map rule_row c.nat ++ flat_map list_rows c.lists) c1 a.0 c2 b.0 c e.0 b.1
          (goes_on (map rule_row c.nat) (flat_map list_rows c.lists) c2 b.0 c3 d.0 c e.0 d.1 e.1)),
    )

-- ---- the first line

host_done : (h : Word) (bytes : List ℕ) (l : Line) → 0 < l.number → text_at bytes l ≡ host_row h → line_effect bytes [] l ≡ effect.Act (action.Host h)
unfolding effect_of words_effect command_action global_command hostname_action ended
host_done h bytes l n e =
    let i : l.indent ≡ false = ap (λ t. t.0) e in
    let w = ap (λ t. t.1) e in
    rw (lt-leb l.number 0 n, w, i) refl

begun : (h : Word) → At (named h) section.Other (effect.Act (action.Host h) ∷ [])
begun h = record {
  early = refl;
  shows = record { host = refl; names = refl; interfaces = refl; routes = refl; nat = refl; list_names = refl; lists = refl; section = refl; covered = refl; passed = refl };
}

numbered : (b m : ℕ) (ls : List Line) → After b m ls → Numbered ls
numbered b m [] a = tt
numbered b m (l ∷ ls) a = (omega (arith, a.0), numbered b l.number ls a.2)

all_read : (bytes : List ℕ) (ls : List Line) (c : Config) → Numbered ls → map (text_at bytes) ls ≡ config_rows c → AreInterfaces [] c.interfaces → AreRoutes c.routes → AreRules [] c.nat → AreLists [] c.lists
    → (t : Section) × At c t (effects_after bytes [] ls)
all_read bytes [] c n e i r u k = absurd (cc)
all_read bytes (l ∷ ls) c n e i r u k =
    let a : text_at bytes l ≡ host_row c.hostname = cc in
    let b : map (text_at bytes) ls ≡ flat_map interface_rows c.interfaces ++ (map route_row c.routes ++ (map rule_row c.nat ++ (flat_map list_rows c.lists))) = cc in
    let g = rest_goes c i r u k in
    (g.0, subst (λ x. At c g.0 (effects_after bytes (x ∷ []) ls)) (sym (host_done c.hostname bytes l n.0 a)) (all_steps bytes ls (effect.Act (action.Host c.hostname) ∷ []) (flat_map interface_rows c.interfaces ++ (map route_row c.routes ++ (map rule_row c.nat ++ (flat_map list_rows c.lists)))) (named c.hostname) section.Other c g.0 n.1 b g.1 (begun c.hostname)))

-- ---- what is judged after the last line

-- no route names an unknown interface
known_by : (names : Words) (line : ℕ) (o : Option Word) → IsKnown names o → unknown_by names line o ≡ None
known_by names line None k = refl
known_by names line (Some n) k = go (place_of n names) k
  where
    go : (o : Option ℕ) → is_some o ≡ true → unknown_if line n o ≡ None
    go None h = absurd (cc)
    go (Some i) h = refl

all_known : (names : Words) (ws : List WrittenRoute) → AreKnown names (map (λ r. r.route) ws) → unknown names ws ≡ None
all_known names [] k = refl
all_known names (w ∷ ws) k = rw (known_by names w.line (port_of w.route.exit) k.0) (all_known names ws k.1)

-- no addresses overlap
no_clash : (c d : Claim) → crosses (view c) (view d) ≡ false → is_clash c d ≡ false
unfolding view
no_clash c d h = go (not (d.owner == c.owner)) (nat_le d.address.line c.address.line) (overlap d.address.subnet c.address.subnet) h
  where
    go : (a b o : Bool) → (a && o) ≡ false → ((a && b) && o) ≡ false
    go true true o h = h
    go true false o h = refl
    go false b o h = refl

quiet_claim : (c : Claim) (ds : List Claim) → AllByRecursion (λ y. crosses (view c) y ≡ false) (map view ds) → list_any (is_clash c) ds ≡ false
quiet_claim c [] a = refl
quiet_claim c (d ∷ ds) a = rw (no_clash c d a.0, quiet_claim c ds a.1) refl

quiet_claims : (cs ds : List Claim) → AllByRecursion (λ x. AllByRecursion (λ y. crosses x y ≡ false) (map view ds)) (map view cs) → filter (clashes ds) cs ≡ []
quiet_claims [] ds a = refl
quiet_claims (c ∷ cs) ds a = rw (quiet_claim c ds a.0) (quiet_claims cs ds a.1)

no_overlap : (ws : List WrittenInterface) → AreApart (subnets_from 0 (map interface_of ws)) → overlapping ws ≡ None
no_overlap ws a = ap (λ cs. option_map overlap_at (option_map (λ c. c.address) (fold sooner None cs))) (quiet_claims (claims_from 0 ws) (claims_from 0 ws) (subst AreApart (sym (from_views 0 ws)) a))

-- ---- the whole text

lists_back : (ls : List AccessList) → map list_of (map written_of ls) ≡ ls
lists_back [] = refl
lists_back (l ∷ ls) = rw (entries_back l.entries) (ap (λ xs. l ∷ xs) (lists_back ls))
  where
    entries_back : (es : List Entry) → map {A = ℕ × Entry} (λ e. e.1) (map (λ (e : Entry). (e.sequence, e)) es) ≡ es
    entries_back [] = refl
    entries_back (e ∷ es) = ap (λ xs. e ∷ xs) (entries_back es)

shown_config : (c : Config) (s : Section) (p : Parts) → Shows c s p → config_by p ≡ c
shown_config c s p h = rw (h.host, h.interfaces, h.routes, h.nat, h.lists, lists_back c.lists) refl

pub printed_reads : (c : Config) → IsPrintable c → Reads (printed c) c 0
printed_reads c is =
    let bytes = printed c in
    let rows : map (text_at bytes) (lines_of bytes) ≡ config_rows c = texts_there bytes ∙ texts_spelled (config_rows c) (all_rows c is) in
    let a = all_read bytes (lines_of bytes) c (numbered (length bytes + 1) 0 (lines_of bytes) (all_after bytes (length bytes + 1) (omega arith))) rows is.interfaces is.routes is.nat is.lists in
    let p = parts_of (effects bytes) in
    let shows : Shows c a.0 p = a.1.shows in
    let names : p.names ≡ map (λ i. i.name) c.interfaces = shows.names in
    let un : unknown p.names p.routes ≡ None = all_known p.names p.routes (subst (λ rs. AreKnown p.names rs) (sym shows.routes) (subst (λ ns. AreKnown ns c.routes) (sym names) is.known)) in
    let over : overlapping p.interfaces ≡ None = no_overlap p.interfaces (subst (λ xs. AreApart (subnets_from 0 xs)) (sym shows.interfaces) is.apart) in
    let none : late (effects bytes) ≡ None = ap (λ h. late_by h p.names p.interfaces p.routes) shows.host ∙ rw (over, un) refl in
    record {
      accepted = rw (a.1.early) none;
      config = sym (shown_config c a.0 p shows);
      passed = sym shows.passed;
    }

pub reads_if_ok : {E : Type 0} (c : Config) (r : Result (Vec ℕ Global) E) → IsPrintable c → IfOk r (λ text. text.items ≡ printed c) → IfOk r (λ text. Reads text.items c 0)
reads_if_ok c (Ok text) is h = rw h (printed_reads c is)
reads_if_ok c (Err e) is h = tt
