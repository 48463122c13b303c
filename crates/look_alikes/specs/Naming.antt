-- By which words lines are counted: the first ones of each.
use Rattle.std.specs.Prelude.{ℕ, Bool, ◌||◌, List, [], ◌∷◌, ◌++◌, codes, if◌then◌else◌}
use Rattle.std.specs.Str.{bytes_eq}
use Rattle.ios_config.specs.declared.passed.Mode.{Mode}
use Rattle.ios_config.specs.declared.passed.Mode.TheVariants as mode
use Rattle.look_alikes.specs.Words.{after_word, first_word, has_mark}

-- a word with which unlike commands begin
abbrev pub is_lead : List ℕ → Bool
is_lead w = bytes_eq w (codes "no") || bytes_eq w (codes "default") || bytes_eq w (codes "ip") || bytes_eq w (codes "ipv6") || bytes_eq w (codes "router")

-- a word behind a blank, or nothing where there is none
abbrev pub blank_word : List ℕ → List ℕ
blank_word [] = []
blank_word (b ∷ bs) = 32 ∷ b ∷ bs

-- the word behind such a one, and the next one where unlike commands begin with both
abbrev pub behind_lead : List ℕ → List ℕ
behind_lead line = blank_word (first_word line) ++ (if is_lead (first_word line) then blank_word (first_word (after_word line)) else [])

-- *the first words* of a line, by which it is counted: one, or two or three where unlike commands begin with the first ones
abbrev pub first_words : List ℕ → List ℕ
first_words line = first_word line ++ (if is_lead (first_word line) then behind_lead (after_word line) else [])

-- by what a line that is passed over is counted; the lines of banners have no commands
abbrev pub counted_by : Mode → List ℕ → List ℕ
counted_by mode.Banner line = codes "banner"
counted_by m line = first_words line

-- by what a refused line is: its first words, and the word that decides where it doesn't stand there
abbrev pub refused_by : List ℕ → List ℕ → List ℕ
refused_by line word = if has_mark word (first_words line) then first_words line else first_words line ++ codes " .. " ++ word

-- the program `prepare` brings what this word means into what is read: routing protocols, VRFs, virtual addresses, switch ports,
-- channels of ports, and groups of objects
abbrev pub is_prepared : List ℕ → Bool
is_prepared w =
    bytes_eq w (codes "router") || bytes_eq w (codes "vrf") || bytes_eq w (codes "standby") || bytes_eq w (codes "vrrp") || bytes_eq w (codes "glbp")
    || bytes_eq w (codes "switchport") || bytes_eq w (codes "channel-group") || bytes_eq w (codes "object-group")
