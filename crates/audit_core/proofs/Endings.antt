-- What may stop an audit of which nothing is refused, too long or absent.
use Rattle.std.proofs.Common.{◌≡◌, ℕ, List, Option, Some, None, Result, Ok, Err, IfSome, sym, subst}
use Rattle.net_io.specs.Files.{Told}
use Rattle.net_types.specs.declared.config.Loaded.{Loaded}
use Rattle.job_core.specs.declared.report.Report.{Report}
use Rattle.job_core.specs.declared.stop.Stop.{Stop}
use Rattle.job_core.specs.Accepted.{MayAlwaysStop}
use Rattle.job_core.specs.Steps.{OrNoMemory}
use Rattle.job_core.proofs.AcceptedLemmas.{then_may_stop, writing_may_stop}
use Rattle.job_inputs.specs.Folders.{GivesFolder}
use Rattle.job_inputs.proofs.FolderLemmas.{folder_may_stop}
use Rattle.audit_core.specs.Words.{net_of}
use Rattle.audit_core.specs.Audits.{IsAudit, Audits, Performs, Does, AcceptedNet, IsAccepted}

-- what is done for the folder that the words name is what they ask
pub does_net : (words : List (List ℕ)) (told : Option Told) (net : List ℕ) (result : Result Report Stop) → net_of words ≡ Some net → IfSome told (λ t. Audits t net result) → IfSome told (λ t. Does words t result)
does_net words told net result asked d = subst (λ o. IfSome told (λ t. Performs o t result)) (sym asked) d

net_may_stop : (o : Option (List ℕ)) (t : Told) (s : Stop) → AcceptedNet o t → Performs o t (Err s) → MayAlwaysStop s
net_may_stop None t s a d = absurd a
net_may_stop (Some net) t s a d =
    then_may_stop (GivesFolder (λ (ds : List Loaded). ds) t net) (λ ds. OrNoMemory (IsAudit ds)) s (folder_may_stop t net a) (λ ds given written. writing_may_stop (IsAudit ds) s written) d

pub accepted_may_stop : (words : List (List ℕ)) (t : Told) (s : Stop) → IsAccepted words t → Does words t (Err s) → MayAlwaysStop s
accepted_may_stop words t s a d = net_may_stop (net_of words) t s a d

-- where the words are outside the usage nothing is accepted
pub none_accepted : (words : List (List ℕ)) → net_of words ≡ None → (t : Told) → IsAccepted words t → ⊥
none_accepted words none t a = subst (λ o. AcceptedNet o t) none a
