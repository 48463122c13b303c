-- What a line that is passed over looks like: a command that is covered, written as a router's command line takes it and a
-- configuration never shows it.
use Rattle.std.specs.Prelude.{ℕ, List, [], ◌∷◌, Option, Some, None, option_map, codes, if◌then◌else◌}
use Rattle.ios_config.specs.declared.passed.Mode.{Mode}
use Rattle.ios_config.specs.declared.passed.Mode.TheVariants as mode
use Rattle.look_alikes.specs.declared.command.Command.{Command}
use Rattle.look_alikes.specs.declared.command.Command.TheVariants as command
use Rattle.look_alikes.specs.declared.look.LookAlike.{LookAlike}
use Rattle.look_alikes.specs.declared.look.LookAlike.TheVariants as look
use Rattle.look_alikes.specs.Words.{abbreviated, has_mark, has_prompt, pager, resembles}

-- a global command that takes back what a covered one has written
unfoldable pub global_back : List ℕ → Option Command
global_back line =
    if abbreviated (codes "no" ∷ codes "hostname" ∷ []) line then Some command.NoHostname
    else (if abbreviated (codes "no" ∷ codes "interface" ∷ []) line then Some command.NoInterface
    else (if abbreviated (codes "default" ∷ codes "interface" ∷ []) line then Some command.DefaultInterface
    else None))

-- a global command that resembles a covered one of address translation, of lists with names, or a banner
unfoldable pub global_rest : List ℕ → Option Command
global_rest line =
    if resembles (codes "ip" ∷ codes "nat" ∷ codes "inside" ∷ codes "source" ∷ codes "static" ∷ []) line then Some command.InnerRule
    else (if resembles (codes "ip" ∷ codes "nat" ∷ codes "outside" ∷ codes "source" ∷ codes "static" ∷ []) line then Some command.OuterRule
    else (if resembles (codes "ip" ∷ codes "access-list" ∷ []) line then Some command.NamedList
    else (if resembles (codes "banner" ∷ []) line then Some command.Banner
    else global_back line)))

-- a global command that resembles a covered one, or takes something back
unfoldable pub global_command : List ℕ → Option Command
global_command line =
    if resembles (codes "hostname" ∷ []) line then Some command.Hostname
    else (if resembles (codes "interface" ∷ []) line then Some command.Interface
    else (if resembles (codes "ip" ∷ codes "route" ∷ []) line then Some command.StaticRoute
    else (if resembles (codes "access-list" ∷ []) line then Some command.NumberedList
    else global_rest line)))

-- an indented line that is a global command's, or resembles one
unfoldable pub indented_command : List ℕ → Option Command
indented_command line =
    if abbreviated (codes "interface" ∷ []) line then Some command.Interface
    else (if abbreviated (codes "ip" ∷ codes "route" ∷ []) line then Some command.StaticRoute
    else (if abbreviated (codes "access-list" ∷ []) line then Some command.NumberedList
    else (if abbreviated (codes "ip" ∷ codes "access-list" ∷ []) line then Some command.NamedList
    else None)))

-- a command of an interface's section that takes back what a covered one has written
unfoldable pub interface_back : List ℕ → Option Command
interface_back line =
    if abbreviated (codes "no" ∷ codes "ip" ∷ codes "access-group" ∷ []) line then Some command.NoAccessGroup
    else (if abbreviated (codes "no" ∷ codes "ip" ∷ codes "nat" ∷ []) line then Some command.NoTranslation
    else (if abbreviated (codes "default" ∷ codes "ip" ∷ codes "address" ∷ []) line then Some command.DefaultAddress
    else (if abbreviated (codes "default" ∷ codes "ip" ∷ codes "access-group" ∷ []) line then Some command.DefaultAccessGroup
    else indented_command line)))

-- a command of an interface's section that resembles a covered one of lists and translation
unfoldable pub interface_rest : List ℕ → Option Command
interface_rest line =
    if resembles (codes "ip" ∷ codes "access-group" ∷ []) line then Some command.AccessGroup
    else (if resembles (codes "ip" ∷ codes "nat" ∷ codes "inside" ∷ []) line then Some command.Inside
    else (if resembles (codes "ip" ∷ codes "nat" ∷ codes "outside" ∷ []) line then Some command.Outside
    else interface_back line))

-- a command of an interface's section that resembles a covered one, or takes something back
unfoldable pub interface_command : List ℕ → Option Command
interface_command line =
    if resembles (codes "ip" ∷ codes "address" ∷ []) line then Some command.Address
    else (if resembles (codes "no" ∷ codes "ip" ∷ codes "address" ∷ []) line then Some command.NoAddress
    else (if resembles (codes "shutdown" ∷ []) line then Some command.Shutdown
    else (if resembles (codes "no" ∷ codes "shutdown" ∷ []) line then Some command.NoShutdown
    else interface_rest line)))

-- by the place of the line; what a banner says looks like no command
abbrev pub command_of : Mode → List ℕ → Option Command
command_of mode.Banner line = None
command_of mode.Global line = global_command line
command_of mode.Interface line = interface_command line
command_of mode.Other line = indented_command line

-- a line outside banners by what stands in it: a pager's mark, a prompt, or a command
abbrev pub outside_banner : Mode → List ℕ → Option LookAlike
outside_banner m line =
    if has_mark pager line then Some look.Pager
    else (if has_prompt line then Some look.Prompt
    else option_map look.Like (command_of m line))

-- *what a line looks like*
abbrev pub look_alike : Mode → List ℕ → Option LookAlike
look_alike mode.Banner line = None
look_alike m line = outside_banner m line
