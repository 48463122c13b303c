-- Each configuration that a text is read as is printable, where its access lists are.
use Rattle.std.proofs.Common.{◌≡◌, ℕ, Bool, true, false, cond, List, [], refl, sym, subst}
use Rattle.std.specs.Prelude.{Option, Some, None, unwrap_or, nat_lt}
use Rattle.std.specs.Option.{option_or}
use Rattle.net_text.specs.Texts.{IsWord}
use Rattle.net_types.specs.declared.config.Config.{Config}
use Rattle.ios_lines.specs.declared.fault.Refusal.{Refusal}
use Rattle.ios_lines.specs.declared.effect.Effect.{Effect}
use Rattle.ios_lines.specs.Words.{Word}
use Rattle.ios_config.specs.Rules.{hostname, names, interfaces, routes, config_of}
use Rattle.ios_config.specs.Reads.{effects, early, no_hostname, overlapping, unknown, sooner_of, late, refusal, Reads}
use Rattle.ios_print.specs.PrintableConfig.{IsPrintable}
use Rattle.ios_print.specs.PrintableLists.{AreLists}
use Rattle.ios_print.proofs.EffectsFine.{FineAll}
use Rattle.ios_print.proofs.FineLines.{IsFine, all_fine}
use Rattle.ios_print.proofs.FineParts.{host_is, interfaces_are, routes_are, known_are, rules_are, apart_are}

neither : {A : Type 0} (o p : Option A) → option_or o p ≡ None → (o ≡ None) × (p ≡ None)
neither None p h = (refl, h)
neither (Some x) p h = absurd (cc)

no_sooner : (o p : Option Refusal) → sooner_of o p ≡ None → (o ≡ None) × (p ≡ None)
no_sooner None p h = (refl, h)
no_sooner (Some r) None h = absurd (cc)
no_sooner (Some r) (Some s) h = go (nat_lt s.line r.line) h
  where
    go : (b : Bool) → cond b (Some s) (Some r) ≡ None → (Some r ≡ None) × (Some s ≡ None)
    go true k = absurd (cc)
    go false k = absurd (cc)

named : (es : List Effect) (o : Option Word) → FineAll IsFine [] es → hostname es ≡ o → no_hostname o ≡ None → IsWord (unwrap_or o [])
named es None a e h = absurd (cc)
named es (Some n) a e h = host_is es n a e

effects_printable : (es : List Effect) → FineAll IsFine [] es → refusal es ≡ None → AreLists [] (config_of es).lists → IsPrintable (config_of es)
effects_printable es a h l =
    let late_is = (neither (early es) (late es) h).1 in
    let host = neither (no_hostname (hostname es)) (sooner_of (overlapping (interfaces es)) (unknown (names es) (routes es))) late_is in
    let both = no_sooner (overlapping (interfaces es)) (unknown (names es) (routes es)) host.1 in
    record {
      hostname = named es (hostname es) a refl host.0;
      interfaces = interfaces_are es a;
      routes = routes_are es a;
      known = known_are es both.1;
      nat = rules_are es a;
      lists = l;
      apart = apart_are es both.0;
    }

pub accepted_but_lists : (bytes : List ℕ) (c : Config) (n : ℕ) → Reads bytes c n → AreLists [] c.lists → IsPrintable c
accepted_but_lists bytes c n r l = subst IsPrintable (sym r.config) (effects_printable (effects bytes) (all_fine bytes) r.accepted (subst (λ d. AreLists [] d.lists) r.config l))
