-- How the kinds of refusals are printed.
use Rattle.std.specs.Prelude.{ℕ, List, codes}
use Rattle.ios_lines.specs.declared.fault.Kind.{Kind}
use Rattle.ios_lines.specs.declared.fault.Kind.TheVariants as kind

-- each by its own name
abbrev pub kind_text : Kind → List ℕ
kind_text kind.NotCovered = codes "NotCovered"
kind_text kind.BadWord = codes "BadWord"
kind_text kind.MissingWord = codes "MissingWord"
kind_text kind.ExtraWord = codes "ExtraWord"
kind_text kind.BadMask = codes "BadMask"
kind_text kind.HostBits = codes "HostBits"
kind_text kind.BadListNumber = codes "BadListNumber"
kind_text kind.ListKindClash = codes "ListKindClash"
kind_text kind.SequenceTaken = codes "SequenceTaken"
kind_text kind.NatClash = codes "NatClash"
kind_text kind.NoHostname = codes "NoHostname"
kind_text kind.OverlapOnDevice = codes "OverlapOnDevice"
kind_text kind.UnknownInterface = codes "UnknownInterface"
kind_text kind.BannerOpen = codes "BannerOpen"
