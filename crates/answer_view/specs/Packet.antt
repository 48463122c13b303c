-- The packet of an answer in words.
use Rattle.std.specs.Prelude.{ℕ, ◌==◌, Bool, false, ◌||◌, List, [], ◌∷◌, if◌then◌else◌}
use Rattle.hdr_bits.specs.declared.header.Header.{Header}
use Rattle.net_types.specs.declared.question.Answer.{Answer}
use Rattle.net_types.specs.declared.question.Answer.TheVariants.{Holds, Fails}
use Rattle.report_groups.specs.declared.types.Flags.{Flags}
use Rattle.report_groups.specs.declared.types.Flags.TheVariants.{Matching}
use Rattle.report_groups.specs.declared.types.Part.TheVariants.{Run}
use Rattle.report_groups.specs.declared.types.Shown.{Shown}
use Rattle.report_groups.specs.declared.types.Values.{Values}
use Rattle.view_core.specs.FieldWords.{words_text}
use Rattle.view_core.specs.GroupJson.{behind_blanks}

-- the values from the first to the last
abbrev pub values_from : ℕ → ℕ → Values
values_from low high = record { negated = false; parts = Run (record { low = low; high = high }) ∷ [] }

-- TCP and UDP have ports, and ICMP has its message in the place of the source port
abbrev pub has_ports : ℕ → Bool
has_ports proto = proto == 6 || proto == 17

abbrev pub has_source : ℕ → Bool
has_source proto = has_ports proto || proto == 1

-- a port, where there is one; else all of them, which aren't shown
abbrev pub port_shown : Bool → ℕ → Values
port_shown there port = if there then values_from port port else values_from 0 65535

-- the flags that are set, which TCP alone has
abbrev pub flags_set : ℕ → ℕ → ℕ
flags_set proto flags = if proto == 6 then flags else 0

abbrev pub flags_shown : ℕ → Flags
flags_shown flags = Matching (record { fixed = flags; bits = flags } ∷ [])

-- a header as a group of it alone is shown, without the fields that its protocol hasn't
unfoldable pub packet_shown : Header → Shown
packet_shown h =
    record {
      dst = values_from h.dst h.dst;
      src = values_from h.src h.src;
      proto = values_from h.proto h.proto;
      dport = port_shown (has_ports h.proto) h.dport;
      sport = port_shown (has_source h.proto) h.sport;
      flags = flags_shown (flags_set h.proto h.flags);
    }

-- its words, without the two blanks before them
unfoldable pub packet_words : Header → List ℕ
packet_words h = behind_blanks (words_text (packet_shown h))

-- the words of the packet for which an answer fails; none of one that holds
abbrev pub failing_words : Answer → List ℕ
failing_words Holds = []
failing_words (Fails h) = packet_words h
