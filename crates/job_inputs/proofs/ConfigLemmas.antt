-- What may stop a job at a configuration that is read.
use Rattle.std.proofs.Common.{◌≡◌, ℕ, List, sym, ap, ◌∙◌}
use Rattle.std.specs.Prelude.{Option, Some, None}
use Rattle.net_types.specs.declared.config.Config.{Config}
use Rattle.net_types.specs.declared.config.Loaded.{Loaded}
use Rattle.job_core.specs.declared.stop.Stop.{Stop}
use Rattle.job_core.specs.declared.stop.Stop.TheVariants as stop
use Rattle.job_core.specs.Accepted.{MayAlwaysStop}
use Rattle.job_inputs.specs.Configs.{IsConfig, ConfigFails}

none_some : {A : Type 0} (o : Option A) (x : A) → o ≡ None → o ≡ Some x → ⊥
none_some o x a b = cc

loaded : List ℕ → Config → ℕ → Loaded
loaded file config passed = record { file = file; config = config; passed = passed }

-- a text is read as one configuration
pub config_is : (path bytes : List ℕ) (l m : Loaded) → IsConfig path bytes l → IsConfig path bytes m → m ≡ l
unfolding loaded
config_is path bytes l m a b =
    ap (λ f. loaded f m.config m.passed) (b.file ∙ sym a.file)
    ∙ ap (λ c. loaded l.file c m.passed) (b.read.config ∙ sym a.read.config)
    ∙ ap (λ n. loaded l.file l.config n) (b.read.passed ∙ sym a.read.passed)

pub config_may_stop : (path bytes : List ℕ) (l : Loaded) (s : Stop) → IsConfig path bytes l → ConfigFails path bytes s → MayAlwaysStop s
config_may_stop path bytes l stop.NoMemory a h = tt
config_may_stop path bytes l (stop.CannotRead p) a h = tt
config_may_stop path bytes l (stop.NotFound p) a h = h
config_may_stop path bytes l (stop.TooLong p) a h = h
config_may_stop path bytes l (stop.TooManyFiles p) a h = h
config_may_stop path bytes l (stop.HostnameTaken p q) a h = h
config_may_stop path bytes l (stop.Refused p n k w) a (same, r, refused, at, named, is) = none_some _ r a.read.accepted refused
