-- The effect of each line of a text is printable, given those before it.
use Rattle.std.proofs.Common.{ℕ, Bool, true, false, cond, List, [], ◌∷◌, drop}
use Rattle.std.specs.Prelude.{Option, Some, None, Result, Ok, Err, ok_or, codes, nat_le, slice_get, unwrap_or}
use Rattle.net_text.specs.declared.Line.{Line}
use Rattle.net_text.specs.declared.Span.{Span}
use Rattle.net_text.specs.Texts.{IsWord}
use Rattle.net_types.specs.declared.config.NatRule.{NatRule}
use Rattle.net_types.specs.declared.config.Side.TheVariants as side
use Rattle.ios_lines.specs.declared.fault.Fault.{Fault}
use Rattle.ios_lines.specs.declared.fault.Kind.TheVariants as kind
use Rattle.ios_lines.specs.declared.effect.Action.{Action}
use Rattle.ios_lines.specs.declared.effect.Action.TheVariants as action
use Rattle.ios_lines.specs.declared.effect.Change.{Change}
use Rattle.ios_lines.specs.declared.effect.Change.TheVariants as change
use Rattle.ios_lines.specs.declared.effect.Effect.{Effect}
use Rattle.ios_lines.specs.declared.effect.Effect.TheVariants as effect
use Rattle.ios_lines.specs.declared.effect.Section.{Section}
use Rattle.ios_lines.specs.declared.effect.Section.TheVariants as section
use Rattle.ios_lines.specs.declared.effect.WrittenList.{WrittenList}
use Rattle.ios_lines.specs.Words.{none_refused, Word, Words, fault_of, next_word, begins, ended}
use Rattle.ios_lines.specs.Books.{next_sequence}
use Rattle.ios_lines.specs.Lists.{latest}
use Rattle.ios_commands.specs.Tables.{global_rows, interface_rows, uncovered}
use Rattle.ios_commands.specs.Interfaces.{interface_action, address_action, plain_action, group_action}
use Rattle.ios_commands.specs.Routes.{route_action}
use Rattle.ios_commands.specs.Translation.{static_action, outer_action}
use Rattle.ios_commands.specs.Banners.{is_banner, banner_over, banner_at, banner_effect, lines_within}
use Rattle.ios_lists.specs.ListCommands.{kind_by_number, list_at, book_by, section_line, unnumbered_line, kind_at, opened, section_action, numbered_action, open_action}
use Rattle.ios_config.specs.Effects.{Seen, hostname_action, interface_command, global_command, sub_command, command_action, resolve, is_comment, words_effect, line_words, effect_of}
use Rattle.ios_config.specs.Rules.{is_opening, opened_by, opens, section_of, nat}
use Rattle.ios_config.specs.Reads.{seen_of, effects}
use Rattle.ios_print.proofs.Has.{Each, Has, then_has, if_has, next_has}
use Rattle.ios_print.proofs.EffectsFine.{IfAny, FineAll, all_effects, last_found}
use Rattle.ios_print.proofs.FineCommands.{IsName, IsFineAction, after_any, each_drop, uncovered_fine, address_fine, plain_fine, group_fine, interface_fine, route_fine, static_fine, outer_fine}

-- an interface's section has its name
abbrev pub IsFineSection : Section → Type 0
IsFineSection (section.Interface n) = IsName n
IsFineSection _ = Unit {0}

module _ (rules : List NatRule) where
  host_fine : (ws : Words) → Each ws → Has (IsFineAction rules) (hostname_action ws)
  unfolding hostname_action
  host_fine ws e = then_has (λ w. IsWord w.0 × Each w.1) (IsFineAction rules) (next_word ws) _ (next_has ws e) (λ w h.
      after_any (IsFineAction rules) (ended none_refused w.1) _ (λ u. h.0))

  -- what is written of access lists is judged apart
  section_any : (names : Words) (lists : List WrittenList) (n : Word) (extended : Bool) (ws : Words) → Has (IsFineAction rules) (section_action names lists n extended ws)
  unfolding section_action
  section_any names lists n extended ws = after_any (IsFineAction rules) (section_line extended (book_by (list_at names lists n)) ws) _ (λ e. tt)

  numbered_any : (names : Words) (lists : List WrittenList) (ws : Words) → Has (IsFineAction rules) (numbered_action names lists ws)
  unfolding numbered_action
  numbered_any names lists ws = after_any (IsFineAction rules) (next_word ws) _ (λ w.
      after_any (IsFineAction rules) (ok_or (kind_by_number w.0) (fault_of kind.BadListNumber w.0)) _ (λ k.
      after_any (IsFineAction rules) (unnumbered_line k (next_sequence (book_by (list_at names lists w.0))) w.1) _ (λ e. tt)))

  open_any : (names : Words) (lists : List WrittenList) (ws : Words) → Has (IsFineAction rules) (open_action names lists ws)
  unfolding open_action
  open_any names lists ws = after_any (IsFineAction rules) (kind_at ws) _ (λ k.
      after_any (IsFineAction rules) (next_word k.1) _ (λ w.
      after_any (IsFineAction rules) (opened k.0 (list_at names lists w.0) w.0) _ (λ o.
      after_any (IsFineAction rules) (ended none_refused w.1) _ (λ e. tt))))

  interface_command_fine : (n : Word) (line : ℕ) (ws : Words) → IsName n → Each ws → Has (IsFineAction rules) (interface_command n line ws)
  unfolding interface_command
  interface_command_fine n line ws k e =
      if_has (IsFineAction rules) (begins (codes "ip" ∷ codes "address" ∷ []) ws) (address_action n line (drop 2 ws)) _ (λ b. address_fine rules n line (drop 2 ws) k (each_drop 2 ws e)) (λ b.
      if_has (IsFineAction rules) (begins (codes "no" ∷ codes "ip" ∷ codes "address" ∷ []) ws) (plain_action n change.Clear (drop 3 ws)) _ (λ b. plain_fine rules n change.Clear (drop 3 ws) k tt) (λ b.
      if_has (IsFineAction rules) (begins (codes "shutdown" ∷ []) ws) (plain_action n (change.Shut true) (drop 1 ws)) _ (λ b. plain_fine rules n (change.Shut true) (drop 1 ws) k tt) (λ b.
      if_has (IsFineAction rules) (begins (codes "no" ∷ codes "shutdown" ∷ []) ws) (plain_action n (change.Shut false) (drop 2 ws)) _ (λ b. plain_fine rules n (change.Shut false) (drop 2 ws) k tt) (λ b.
      if_has (IsFineAction rules) (begins (codes "ip" ∷ codes "access-group" ∷ []) ws) (group_action n (drop 2 ws)) _ (λ b. group_fine rules n (drop 2 ws) k (each_drop 2 ws e)) (λ b.
      if_has (IsFineAction rules) (begins (codes "ip" ∷ codes "nat" ∷ codes "inside" ∷ []) ws) (plain_action n (change.OnSide side.Inside) (drop 3 ws)) _ (λ b. plain_fine rules n (change.OnSide side.Inside) (drop 3 ws) k tt) (λ b.
      if_has (IsFineAction rules) (begins (codes "ip" ∷ codes "nat" ∷ codes "outside" ∷ []) ws) (plain_action n (change.OnSide side.Outside) (drop 3 ws)) (uncovered interface_rows ws (action.Pass false)) (λ b. plain_fine rules n (change.OnSide side.Outside) (drop 3 ws) k tt) (λ b.
      uncovered_fine rules interface_rows ws false)))))))

global_fine : (seen : Seen) (line : ℕ) (ws : Words) → Each ws → Has (IsFineAction seen.nat) (global_command seen line ws)
unfolding global_command
global_fine seen line ws e =
    if_has (IsFineAction seen.nat) (begins (codes "hostname" ∷ []) ws) (hostname_action (drop 1 ws)) _ (λ b. host_fine seen.nat (drop 1 ws) (each_drop 1 ws e)) (λ b.
    if_has (IsFineAction seen.nat) (begins (codes "interface" ∷ []) ws) (interface_action (drop 1 ws)) _ (λ b. interface_fine seen.nat (drop 1 ws) (each_drop 1 ws e)) (λ b.
    if_has (IsFineAction seen.nat) (begins (codes "ip" ∷ codes "route" ∷ []) ws) (route_action line (drop 2 ws)) _ (λ b. route_fine seen.nat line (drop 2 ws) (each_drop 2 ws e)) (λ b.
    if_has (IsFineAction seen.nat) (begins (codes "ip" ∷ codes "nat" ∷ codes "inside" ∷ codes "source" ∷ codes "static" ∷ []) ws) (static_action seen.nat (drop 5 ws)) _ (λ b. static_fine seen.nat (drop 5 ws) (each_drop 5 ws e)) (λ b.
    if_has (IsFineAction seen.nat) (begins (codes "ip" ∷ codes "nat" ∷ codes "outside" ∷ codes "source" ∷ codes "static" ∷ []) ws) (outer_action seen.nat (drop 5 ws)) _ (λ b. outer_fine seen.nat (drop 5 ws) (each_drop 5 ws e)) (λ b.
    if_has (IsFineAction seen.nat) (begins (codes "access-list" ∷ []) ws) (numbered_action seen.list_names seen.lists (drop 1 ws)) _ (λ b. numbered_any seen.nat seen.list_names seen.lists (drop 1 ws)) (λ b.
    if_has (IsFineAction seen.nat) (begins (codes "ip" ∷ codes "access-list" ∷ []) ws) (open_action seen.list_names seen.lists (drop 2 ws)) (uncovered global_rows ws (action.Pass true)) (λ b. open_any seen.nat seen.list_names seen.lists (drop 2 ws)) (λ b.
    uncovered_fine seen.nat global_rows ws true)))))))

sub_fine : (seen : Seen) (s : Section) (line : ℕ) (ws : Words) → IsFineSection s → Each ws → Has (IsFineAction seen.nat) (sub_command seen s line ws)
sub_fine seen section.Other line ws k e = tt
sub_fine seen (section.Interface n) line ws k e = interface_command_fine seen.nat n line ws k e
sub_fine seen (section.List n extended) line ws k e = section_any seen.nat seen.list_names seen.lists n extended ws

command_fine : (seen : Seen) (line : ℕ) (indent : Bool) (ws : Words) → IsFineSection seen.section → Each ws → Has (IsFineAction seen.nat) (command_action seen line indent ws)
unfolding command_action
command_fine seen line indent ws k e = if_has (IsFineAction seen.nat) indent (sub_command seen seen.section line ws) (global_command seen line ws) (λ b. sub_fine seen seen.section line ws k e) (λ b. global_fine seen line ws e)

-- ---- effects

-- an effect behind these rules of address translation
abbrev pub IsFineBehind : List NatRule → Effect → Type 0
IsFineBehind rules (effect.Act a) = IsFineAction rules a
IsFineBehind rules _ = Unit {0}

abbrev pub IsFine : List Effect → Effect → Type 0
IsFine before e = IsFineBehind (nat before) e

resolved_fine : (rules : List NatRule) (line : ℕ) (r : Result Action Fault) → Has (IsFineAction rules) r → IsFineBehind rules (resolve line r)
resolved_fine rules line (Ok a) h = h
resolved_fine rules line (Err f) h = tt

over_fine : (rules : List NatRule) (line : ℕ) (o : Option ℕ) → IsFineBehind rules (banner_over line o)
over_fine rules line None = tt
over_fine rules line (Some n) = tt

banner_fine : (rules : List NatRule) (bytes : List ℕ) (line : ℕ) (o : Option Span) → IsFineBehind rules (banner_at bytes line o)
banner_fine rules bytes line None = tt
banner_fine rules bytes line (Some s) = over_fine rules line (lines_within (drop s.start bytes))

if_fine : (rules : List NatRule) (b : Bool) (d e : Effect) → IsFineBehind rules d → IsFineBehind rules e → IsFineBehind rules (cond b d e)
if_fine rules true d e h k = h
if_fine rules false d e h k = k

words_fine : (bytes : List ℕ) (seen : Seen) (l : Line) (ws : Words) → IsFineSection seen.section → Each ws → IsFineBehind seen.nat (words_effect bytes seen l ws)
unfolding words_effect
words_fine bytes seen l ws k e =
    if_fine seen.nat (is_comment ws) effect.Skip (cond (is_banner l.indent ws) (banner_effect bytes l) (resolve l.number (command_action seen l.number l.indent ws))) tt
    (if_fine seen.nat (is_banner l.indent ws) (banner_effect bytes l) (resolve l.number (command_action seen l.number l.indent ws)) (banner_fine seen.nat bytes l.number (slice_get l.words 2))
    (resolved_fine seen.nat l.number (command_action seen l.number l.indent ws) (command_fine seen l.number l.indent ws k e)))

line_fine : (bytes : List ℕ) (seen : Seen) (l : Line) → IsFineSection seen.section → Each (line_words bytes l) → IsFineBehind seen.nat (effect_of bytes seen l)
unfolding effect_of
line_fine bytes seen l k e = if_fine seen.nat (nat_le l.number seen.covered) effect.Skip (words_effect bytes seen l (line_words bytes l)) tt (words_fine bytes seen l (line_words bytes l) k e)

-- ---- sections

opening_fine : (n : Word) (c : Change) (b : Bool) → IsName n → IfAny IsFineSection (cond b (Some (section.Interface n)) None)
opening_fine n c true k = k
opening_fine n c false k = tt

action_opens : (rules : List NatRule) (a : Action) → IsFineAction rules a → IfAny IsFineSection (opened_by a)
action_opens rules (action.Interface n c) h = opening_fine n c (is_opening c) h.0
action_opens rules (action.Pass true) h = tt
action_opens rules (action.Pass false) h = tt
action_opens rules _ h = tt

effect_opens : (before : List Effect) (e : Effect) → IsFine before e → IfAny IsFineSection (opens e)
effect_opens before (effect.Act a) h = action_opens (nat before) a h
effect_opens before _ h = tt

or_other : (o : Option Section) → IfAny IsFineSection o → IsFineSection (unwrap_or o section.Other)
or_other None h = tt
or_other (Some s) h = h

section_fine : (es : List Effect) → FineAll IsFine [] es → IsFineSection (section_of es)
section_fine es a = or_other (latest opens es) (last_found IsFine opens IsFineSection effect_opens [] es a)

pub all_fine : (bytes : List ℕ) → FineAll IsFine [] (effects bytes)
all_fine bytes = all_effects IsFine bytes (λ before l w a. line_fine bytes (seen_of before) l (section_fine before a) w)
