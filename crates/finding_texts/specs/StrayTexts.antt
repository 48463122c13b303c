-- How next hops on lans that no end has are written, behind their line.
use Rattle.std.specs.Prelude.{ℕ, Bool, List, ◌++◌, codes}
use Rattle.report_text.specs.FieldText.{address_text}
use Rattle.place_checks.specs.declared.strays.StrayNext.{StrayNext}
use Rattle.finding_texts.specs.PlaceTexts.{place_name, where_text}

abbrev pub stray_text : Bool → StrayNext → List ℕ
stray_text two s =
    place_name s.place ++ codes " has the next hop " ++ address_text s.next ++ codes ", which no end of the lan has" ++ where_text two s.networks
