-- Lines on which the way of no packet depends: what is written for people, and what guards or serves the device itself.
use Rattle.std.specs.Prelude.{ℕ, Bool, true, false, ◌||◌, List, codes, if◌then◌else◌}
use Rattle.std.specs.Str.{bytes_eq}
use Rattle.ios_config.specs.declared.passed.Mode.{Mode}
use Rattle.ios_config.specs.declared.passed.Mode.TheVariants as mode
use Rattle.look_alikes.specs.Words.{after_word, first_word}

-- the command's own word: a `no` before it takes the command back
abbrev pub own_word : List ℕ → List ℕ
own_word line = if bytes_eq (first_word line) (codes "no") then first_word (after_word line) else first_word line

abbrev pub is_description : List ℕ → Bool
is_description w = bytes_eq w (codes "description")

-- a global command for people or for the device itself (IOS: banner, line, logging, username, enable, alias, privilege, version,
-- ntp, clock, snmp-server)
abbrev pub is_idle_word : List ℕ → Bool
is_idle_word w =
    bytes_eq w (codes "banner") || bytes_eq w (codes "line") || bytes_eq w (codes "logging") || bytes_eq w (codes "username")
    || bytes_eq w (codes "enable") || bytes_eq w (codes "alias") || bytes_eq w (codes "privilege") || bytes_eq w (codes "version")
    || bytes_eq w (codes "ntp") || bytes_eq w (codes "clock") || bytes_eq w (codes "snmp-server")

-- *a line on which the way of no packet depends*: a line of a banner, a description of an interface, such a global command, and
-- what stands below one; the heading is the line that opened the section
abbrev pub is_idle : Mode → List ℕ → List ℕ → Bool
is_idle mode.Banner heading line = true
is_idle mode.Global heading line = is_idle_word (own_word line)
is_idle mode.Interface heading line = is_description (own_word line)
is_idle mode.Other heading line = is_idle_word (own_word heading)
