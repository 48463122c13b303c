-- Each configuration that a text is read as is printable.
use Rattle.std.proofs.Common.{ℕ, List}
use Rattle.net_types.specs.declared.config.Config.{Config}
use Rattle.ios_config.specs.Reads.{Reads}
use Rattle.ios_print.specs.PrintableConfig.{IsPrintable}
use Rattle.ios_print.proofs.Accepted.{accepted_but_lists}
use Rattle.ios_print.proofs.AcceptedLists.{accepted_lists}

pub accepted_printable : (bytes : List ℕ) (c : Config) (n : ℕ) → Reads bytes c n → IsPrintable c
accepted_printable bytes c n r = accepted_but_lists bytes c n r (accepted_lists bytes c n r)
