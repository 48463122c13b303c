-- Lines of a report, by which a refusal is told.
use Rattle.std.specs.Prelude.{ℕ, ◌+◌, List, [], ◌++◌, Option, Some, None, length, position, unwrap_or, codes, decimal}
use Rattle.std.specs.Str.{bytes_eq}
use Rattle.net_types.specs.declared.network.Names.{Names}
use Rattle.net_types.specs.declared.network.Section.{Section}
use Rattle.report_text.specs.ReportText.{place_text}
use Rattle.view_core.specs.Names.{text_lines}

-- the line with which a section begins
unfoldable pub head_text : Names → Section → List ℕ
head_text names s = codes "ingress " ++ place_text names s.place ++ codes " rows " ++ decimal (length s.rows)

-- the same; where there is no section, the empty line behind the report
abbrev pub head_or_end : Names → Option Section → List ℕ
head_or_end names None = []
head_or_end names (Some s) = head_text names s

-- the first line of the text that reads so, from 1
abbrev pub line_of : List ℕ → List ℕ → ℕ
line_of bytes line = unwrap_or (position (bytes_eq line) (text_lines bytes)) 0 + 1
