-- What the text of edits says: edits, or the first line that is refused. All lines are judged in the network as it is before
-- the first edit.
use Rattle.std.specs.Prelude.{ℕ, ◌==◌, Bool, false, List, [], ◌∷◌, ◌++◌, map, find, option_to_list, Option, None, Some, Result, Ok, Err, ok_or, codes, if◌then◌else◌}
use Rattle.std.specs.Str.{bytes_eq}
use Rattle.net_text.specs.declared.Line.{Line}
use Rattle.net_text.specs.Lines.{piece, lines_of}
use Rattle.net_types.specs.declared.config.AccessList.{AccessList}
use Rattle.net_types.specs.declared.config.Config.{Config}
use Rattle.net_types.specs.declared.config.Route.{Route}
use Rattle.net_types.specs.declared.network.NetDevice.{NetDevice}
use Rattle.net_types.specs.declared.network.Network.{Network}
use Rattle.net_types.specs.Routes.{same_text}
use Rattle.ios_words.specs.Words.{number_of}
use Rattle.ios_lines.specs.declared.fault.Refusal.{Refusal}
use Rattle.ios_config.specs.Reads.{effects, refusal}
use Rattle.ios_config.specs.Rules.{config_of}
use Rattle.incr_review.specs.declared.edits.Edit.{Edit}
use Rattle.incr_review.specs.declared.edits.Edit.TheVariants as edit
use Rattle.incr_review.specs.declared.edits.EditKind.TheVariants as kind
use Rattle.incr_review.specs.Edited.{is_list}
use Rattle.edit_lines.specs.declared.refusal.EditsFail.{EditsFail}
use Rattle.edit_lines.specs.declared.refusal.EditsFail.TheVariants as fail
use Rattle.edit_lines.specs.declared.reading.EditLine.{EditLine}
use Rattle.edit_lines.specs.declared.words.Command.{Command}
use Rattle.edit_lines.specs.declared.words.Command.TheVariants as command
use Rattle.edit_lines.specs.Built.{entry_in, entry_text, route_in, route_text}
use Rattle.edit_lines.specs.Refusals.{Word, refused, ◌>>=◌}

-- ---- words

abbrev pub is_called : Word → NetDevice → Bool
is_called w d = same_text d.config.hostname w

-- the device of this hostname
abbrev pub device_at : Network → ℕ → Word → Result NetDevice EditsFail
device_at net n w = ok_or (find (is_called w) net.devices) (refused kind.UnknownDevice n w)

-- its list of this name
abbrev pub list_at : ℕ → NetDevice → Word → Result AccessList EditsFail
list_at n d w = ok_or (find (is_list w) d.config.lists) (refused kind.UnknownList n w)

-- a sequence number, 1 to 2147483647
abbrev pub sequence_at : ℕ → Word → Result ℕ EditsFail
sequence_at n w = ok_or (number_of 1 2147483647 w) (refused kind.BadWord n w)

-- the first word of an entry; a remark is none
abbrev pub no_remark : ℕ → Word → Result Word EditsFail
no_remark n w = if bytes_eq w (codes "remark") then Err (refused kind.BadWord n w) else Ok w

-- ---- built texts

-- a refused text refuses the line, with its own kind and word
abbrev pub config_unless : ℕ → Option Refusal → Config → Result Config EditsFail
config_unless n None c = Ok c
config_unless n (Some r) c = Err (fail.Refused (kind.Config r.kind) n r.word)

-- the configuration that a built text says
unfoldable pub config_at : ℕ → List ℕ → Result Config EditsFail
config_at n text = config_unless n (refusal (effects text)) (config_of (effects text))

-- ---- lines, by the words behind the first one

-- `entry R LIST SEQ WORDS`
unfoldable pub entry_at : Network → ℕ → List Word → Result Edit EditsFail
entry_at net n (device ∷ list ∷ sequence ∷ word ∷ words) = do
  d ← device_at net n device
  l ← list_at n d list
  s ← sequence_at n sequence
  w ← no_remark n word
  c ← config_at n (entry_text l.extended list (sequence ∷ word ∷ words))
  e ← ok_or (entry_in c) (refused kind.BadWord n word)
  Ok (edit.AddEntry d.name list e)
entry_at net n _ = Err (refused kind.MissingWord n [])

-- `no-entry R LIST SEQ`
unfoldable pub no_entry_at : Network → ℕ → List Word → Result Edit EditsFail
no_entry_at net n (device ∷ list ∷ sequence ∷ []) = do
  d ← device_at net n device
  l ← list_at n d list
  s ← sequence_at n sequence
  Ok (edit.DropEntry d.name list s)
no_entry_at net n (device ∷ list ∷ sequence ∷ word ∷ words) = Err (refused kind.BadWord n word)
no_entry_at net n _ = Err (refused kind.MissingWord n [])

-- the device and the route of `R WORDS`
unfoldable pub route_at : Network → ℕ → List Word → Result (ℕ × Route) EditsFail
route_at net n (device ∷ word ∷ words) = do
  d ← device_at net n device
  c ← config_at n (route_text d.config.interfaces (word ∷ words))
  r ← ok_or (route_in c) (refused kind.BadWord n word)
  Ok (d.name, r)
route_at net n _ = Err (refused kind.MissingWord n [])

abbrev pub command_of : Word → Option Command
command_of w =
    if bytes_eq w (codes "entry") then Some command.Entry
    else (if bytes_eq w (codes "no-entry") then Some command.NoEntry
    else (if bytes_eq w (codes "route") then Some command.Route
    else (if bytes_eq w (codes "no-route") then Some command.NoRoute
    else None)))

unfoldable pub edit_by : Network → Command → ℕ → List Word → Result Edit EditsFail
edit_by net command.Entry n words = entry_at net n words
edit_by net command.NoEntry n words = no_entry_at net n words
edit_by net command.Route n words = route_at net n words >>= λ r. Ok (edit.AddRoute r.0 r.1)
edit_by net command.NoRoute n words = route_at net n words >>= λ r. Ok (edit.DropRoute r.0 r.1)

-- ---- a line

-- what a line says: nothing, an edit, or that it is refused
abbrev pub Effect : Type 0
Effect = Result (Option EditLine) EditsFail

abbrev pub begins_mark : Word → Bool
begins_mark [] = false
begins_mark (b ∷ bs) = b == 33

abbrev pub by_command : Network → ℕ → Word → List Word → Option Command → Effect
by_command net n w words None = Err (refused kind.BadWord n w)
by_command net n w words (Some c) = edit_by net c n words >>= λ e. Ok (Some (record { line = n; edit = e }))

-- line n by its words; a comment begins with `!` and says nothing
unfoldable pub effect_of : Network → ℕ → List Word → Effect
effect_of net n [] = Ok None
effect_of net n (w ∷ words) = if begins_mark w then Ok None else by_command net n w words (command_of w)

-- ---- the whole

-- each line's effect, in order
abbrev pub effects_in : Network → List ℕ → List Line → List Effect
effects_in net bytes lines = map (λ l. effect_of net l.number (map (piece bytes) l.words)) lines

-- the edits in front of the first refused line
abbrev pub edits_before : List Effect → List EditLine
edits_before [] = []
edits_before (Ok e ∷ es) = option_to_list e ++ edits_before es
edits_before (Err e ∷ es) = []

-- the first refused line, if there is one
abbrev pub first_refusal : List Effect → Option EditsFail
first_refusal [] = None
first_refusal (Ok e ∷ es) = first_refusal es
first_refusal (Err e ∷ es) = Some e

abbrev pub unless : List EditLine → Option EditsFail → Result (List EditLine) EditsFail
unless edits None = Ok edits
unless edits (Some e) = Err e

-- the edits of all lines, or the refusal of the first line that is refused
abbrev pub edits_in : List Effect → Result (List EditLine) EditsFail
edits_in es = unless (edits_before es) (first_refusal es)

abbrev pub edits_of : Network → List ℕ → Result (List EditLine) EditsFail
edits_of net bytes = edits_in (effects_in net bytes (lines_of bytes))
