-- What the words ask, done over the files.
use Rattle.std.proofs.Common.{◌≡◌, ℕ, List, Option, Some, None, Result, Ok, Err, IfSome, sym, subst}
use Rattle.net_io.specs.Files.{Told}
use Rattle.job_core.specs.declared.report.Report.{Report}
use Rattle.job_core.specs.declared.stop.Stop.{Stop}
use Rattle.why_core.specs.Words.{Why, Traces, why_of, traces_of}
use Rattle.why_core.specs.Why as why
use Rattle.why_core.specs.Traces as traces

pub does_why : (words : List (List ℕ)) (told : Option Told) (w : Why) (r : Result Report Stop) → Some w ≡ why_of words → IfSome told (λ t. why.Explains t w r) → IfSome told (λ t. why.Does words t r)
does_why words told w r asked d = subst (λ o. IfSome told (λ t. why.Performs o t r)) asked d

pub does_traces : (words : List (List ℕ)) (told : Option Told) (w : Traces) (r : Result Report Stop) → Some w ≡ traces_of words → IfSome told (λ t. traces.Follows t w r) → IfSome told (λ t. traces.Does words t r)
does_traces words told w r asked d = subst (λ o. IfSome told (λ t. traces.Performs o t r)) asked d
