use Rattle.std.proofs.Common.{◌≡◌, ◌++◌, List, ℕ, OnOk, ap, subst, sym, ◌∙◌}
use Rattle.std.specs.Prelude.{Option}
use Rattle.net_types.specs.declared.config.Config.{Config}
use Rattle.config_checks.specs.declared.finding.ConfigFinding.{ConfigFinding}
use Rattle.config_checks.specs.Findings.{config_findings}
use Rattle.doctor_warnings.specs.Readings.{config_in}
use Rattle.doctor_warnings.specs.Warnings.{config_told, config_warnings}
use Rattle.doctor_warnings.proofs.configs.add_config.Goals as goal

pub returns-in_ok-found-in-Ok : goal.returns-in_ok-found-in-Ok
returns-in_ok-found-in-Ok c =
    let path = c.args.path.now in
    let file = c.args.file.now in
    let old = c.args.warnings.now.items in
    let found = c.in_ok-found-in-Ok.ensures ∙ ap (config_findings c.in-Ok.reading.config) c.in_ok-words-in-Ok.ensures in
    let told = subst (λ (fs : List ConfigFinding). OnOk c.add_found.result (c.add_found.new.warnings.items ≡ old ++ config_told path fs)) found c.add_found.ensures in
    subst (λ (o : Option (Config × ℕ)). OnOk c.add_found.result (c.add_found.new.warnings.items ≡ old ++ config_warnings path file.file.bytes o)) (ap config_in (sym c.in-Ok.is) ∙ file.loaded) told
