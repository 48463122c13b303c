-- The access lists of each configuration that a text is read as are printable.
use Rattle.std.proofs.Common.{◌≡◌, ℕ, true, false, cond, List, [], ◌∷◌, ◌++◌, drop, map, refl, sym, ap, subst, ◌∙◌}
use Rattle.std.specs.Prelude.{Option, Some, None, Result, Ok, Err, nat_le, slice_get, unwrap_or}
use Rattle.std.specs.List.{AllByRecursion}
use Rattle.net_text.specs.declared.Line.{Line}
use Rattle.net_text.specs.declared.Span.{Span}
use Rattle.net_text.specs.Lines.{lines_of}
use Rattle.net_types.specs.declared.config.Config.{Config}
use Rattle.ios_lines.specs.declared.fault.Fault.{Fault}
use Rattle.ios_lines.specs.declared.effect.Action.{Action}
use Rattle.ios_lines.specs.declared.effect.Action.TheVariants as action
use Rattle.ios_lines.specs.declared.effect.Effect.{Effect}
use Rattle.ios_lines.specs.declared.effect.Effect.TheVariants as effect
use Rattle.ios_lines.specs.declared.effect.ListLine.{ListLine}
use Rattle.ios_lines.specs.declared.effect.Section.{Section}
use Rattle.ios_lines.specs.declared.effect.Section.TheVariants as section
use Rattle.ios_lines.specs.declared.effect.WrittenList.{WrittenList}
use Rattle.ios_lines.specs.Words.{Word, Words}
use Rattle.ios_lines.specs.Lists.{place_of, changes_of}
use Rattle.ios_lines.proofs.Keyed.{Once, names_once}
use Rattle.ios_commands.specs.Banners.{is_banner, lines_within, banner_over, banner_at}
use Rattle.ios_config.specs.Rules.{is_opening, opened_by, opens, section_of, about_list, written_lists, list_names, list_by, lists}
use Rattle.ios_config.specs.Effects.{Seen, resolve, is_comment, command_action, words_effect, line_words, effect_of}
use Rattle.ios_config.specs.Reads.{seen_of, line_effect, effects_after, effects, Reads}
use Rattle.ios_config.specs.Draft.{put_list, lists_after}
use Rattle.ios_config.proofs.More.{parts_more}
use Rattle.ios_print.specs.PrintableLists.{AreLists}
use Rattle.ios_print.proofs.Has.{Each, Has}
use Rattle.ios_print.proofs.LineWords.{lines_are}
use Rattle.ios_print.proofs.ListBooks.{AllWritten, names_in, put_written, put_agree, lists_are}
use Rattle.ios_print.proofs.ListActions.{IsFineSection, IsFineAction, AreSeen, IsFine, command_fine}

-- ---- the effect of a line

abbrev IsFineEffect : Seen → Effect → Type 0
IsFineEffect seen (effect.Act a) = IsFine seen a
IsFineEffect seen _ = Unit {0}

resolved : (seen : Seen) (line : ℕ) (r : Result Action Fault) → Has (IsFine seen) r → IsFineEffect seen (resolve line r)
resolved seen line (Ok a) h = h
resolved seen line (Err f) h = tt

over_fine : (seen : Seen) (line : ℕ) (o : Option ℕ) → IsFineEffect seen (banner_over line o)
over_fine seen line None = tt
over_fine seen line (Some n) = tt

banner_fine : (bytes : List ℕ) (seen : Seen) (line : ℕ) (o : Option Span) → IsFineEffect seen (banner_at bytes line o)
banner_fine bytes seen line None = tt
banner_fine bytes seen line (Some s) = over_fine seen line (lines_within (drop s.start bytes))

words_fine : (bytes : List ℕ) (seen : Seen) (l : Line) (ws : Words) → AreSeen seen → Each ws → IsFineEffect seen (words_effect bytes seen l ws)
unfolding words_effect
words_fine bytes seen l ws are e = elim (is_comment ws) as (λ t. IsFineEffect seen (cond t effect.Skip (cond (is_banner l.indent ws) (banner_at bytes l.number (slice_get l.words 2)) (resolve l.number (command_action seen l.number l.indent ws))))) [
  | true ↦ tt
  | false ↦ elim (is_banner l.indent ws) as (λ t. IsFineEffect seen (cond t (banner_at bytes l.number (slice_get l.words 2)) (resolve l.number (command_action seen l.number l.indent ws)))) [
    | true ↦ banner_fine bytes seen l.number (slice_get l.words 2)
    | false ↦ resolved seen l.number (command_action seen l.number l.indent ws) (command_fine seen l.number l.indent ws are e)
  ]
]

effect_fine : (bytes : List ℕ) (seen : Seen) (l : Line) → AreSeen seen → Each (line_words bytes l) → IsFineEffect seen (effect_of bytes seen l)
unfolding effect_of
effect_fine bytes seen l are e = elim (nat_le l.number seen.covered) as (λ t. IsFineEffect seen (cond t effect.Skip (words_effect bytes seen l (line_words bytes l)))) [
  | true ↦ tt
  | false ↦ words_fine bytes seen l (line_words bytes l) are e
]

-- ---- lists and the section after a line

abbrev AreFineBy : List WrittenList → Section → Type 0
AreFineBy ls s = AllWritten ls × IsFineSection ls s

after_action : (ls : List WrittenList) (s : Section) (a : Action) → AllWritten ls → IsFineSection ls s → IsFineAction ls s a → AreFineBy (lists_after (names_in ls) ls (about_list (effect.Act a))) (unwrap_or (opened_by a) s)
after_action ls s (action.Pass true) w f is = (w, tt)
after_action ls s (action.Pass false) w f is = (w, f)
after_action ls s (action.Host n) w f is = (w, tt)
after_action ls s (action.Interface n c) w f is = (w, elim (is_opening c) as (λ b. IsFineSection ls (unwrap_or (cond b (Some (section.Interface n)) None) s)) [ true ↦ tt | false ↦ f ])
after_action ls s (action.Route r) w f is = (w, tt)
after_action ls s (action.Nat r) w f is = (w, tt)
after_action ls s (action.OpenList n extended) w f is =
    let line : ListLine = record { extended = extended; entry = None } in
    (put_written n line ls is.0 w is.1, (is.0.name, is.0.range, put_agree n line ls is.1))
after_action ls s (action.Numbered n l) w f is = (put_written n l ls is.0 w is.1, tt)
after_action ls s (action.Entry n l) w f is = (
  put_written n l ls is.0 w is.1,
  subst (IsFineSection (put_list (place_of n (names_in ls)) ls n l)) (sym is.2) (is.0.name, is.0.range, put_agree n l ls is.1),
)

-- effects so far
record AreFine (es : List Effect) : Type 0 where
  written : AllWritten (lists es)
  section : IsFineSection (lists es) (section_of es)

after_effect : (es : List Effect) (e : Effect) → AreFine es → IsFineEffect (seen_of es) e → AreFineBy (lists_after (names_in (lists es)) (lists es) (about_list e)) (unwrap_or (opens e) (section_of es))
after_effect es effect.Skip f is = (f.written, f.section)
after_effect es (effect.Banner m n) f is = (f.written, tt)
after_effect es (effect.Act a) f is = after_action (lists es) (section_of es) a f.written f.section is
after_effect es (effect.Refused r) f is = (f.written, f.section)

names_are : (ws : List (Word × ListLine)) (ns : Words) → names_in (map (λ n. list_by n (changes_of n ws)) ns) ≡ ns
names_are ws [] = refl
names_are ws (n ∷ ns) = ap (λ ms. n ∷ ms) (names_are ws ns)

lists_named : (es : List Effect) → list_names es ≡ names_in (lists es)
lists_named es = sym (names_are (written_lists es) (list_names es))

lists_once : (es : List Effect) → Once (names_in (lists es))
lists_once es = subst Once (lists_named es) (names_once (written_lists es))

seen_fine : (es : List Effect) → AreFine es → AreSeen (seen_of es)
seen_fine es f = record { names = lists_named es; once = lists_once es; written = f.written; section = f.section }

next_lists : (es : List Effect) (e : Effect) → lists (es ++ e ∷ []) ≡ lists_after (names_in (lists es)) (lists es) (about_list e)
next_lists es e = ap (λ p. p.lists) (parts_more es e) ∙ ap (λ ns. lists_after ns (lists es) (about_list e)) (lists_named es)

next_section : (es : List Effect) (e : Effect) → section_of (es ++ e ∷ []) ≡ unwrap_or (opens e) (section_of es)
next_section es e = ap (λ p. p.section) (parts_more es e)

fine_next : (es : List Effect) (e : Effect) → AreFine es → IsFineEffect (seen_of es) e → AreFine (es ++ e ∷ [])
fine_next es e f is =
    let a = after_effect es e f is in
    record {
      written = subst AllWritten (sym (next_lists es e)) a.0;
      section = subst (λ ls. IsFineSection ls (section_of (es ++ e ∷ []))) (sym (next_lists es e)) (subst (IsFineSection (lists_after (names_in (lists es)) (lists es) (about_list e))) (sym (next_section es e)) a.1);
    }

fine_after : (bytes : List ℕ) (es : List Effect) (ls : List Line) → AllByRecursion (λ l. Each (line_words bytes l)) ls → AreFine es → AreFine (effects_after bytes es ls)
fine_after bytes es [] w f = f
fine_after bytes es (l ∷ ls) w f = fine_after bytes (es ++ line_effect bytes es l ∷ []) ls w.1 (fine_next es (line_effect bytes es l) f (effect_fine bytes (seen_of es) l (seen_fine es f) w.0))

fine_effects : (bytes : List ℕ) → AreFine (effects bytes)
fine_effects bytes = fine_after bytes [] (lines_of bytes) (lines_are bytes) (record { written = tt; section = tt })

pub accepted_lists : (bytes : List ℕ) (c : Config) (n : ℕ) → Reads bytes c n → AreLists [] c.lists
accepted_lists bytes c n r = subst (λ d. AreLists [] d.lists) (sym r.config) (lists_are (lists (effects bytes)) (fine_effects bytes).written (lists_once (effects bytes)))
