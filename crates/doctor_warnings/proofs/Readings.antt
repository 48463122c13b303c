-- What a text is read as, by its parts.
use Rattle.std.proofs.Common.{◌≡◌, ℕ, true, false, List, refl, sym, ap, ◌∙◌}
use Rattle.std.specs.Prelude.{Option, Some, None, is_some, Result, Ok, Err, cond}
use Rattle.net_types.specs.declared.config.Config.{Config}
use Rattle.net_types.specs.declared.config.Loaded.{Loaded}
use Rattle.ios_lines.specs.declared.fault.Refusal.{Refusal}
use Rattle.ios_config.specs.declared.reader.Reading.{Reading}
use Rattle.ios_config.specs.Passed.{Says}
use Rattle.ios_config.specs.Reads.{effects, refusal}
use Rattle.ios_config.specs.Rules.{config_of, passed}
use Rattle.doctor_warnings.specs.declared.files.TextFile.{TextFile}
use Rattle.doctor_warnings.specs.Readings.{config_by, config_in, refusal_in}
use Rattle.doctor_warnings.specs.Tables.{device_of, loaded_file}

pub refusal_says : (bytes : List ℕ) (r : Result Reading Refusal) → Says bytes r → refusal_in r ≡ refusal (effects bytes)
refusal_says bytes (Ok r) h = sym h.accepted
refusal_says bytes (Err r) h = sym h

pub config_says : (bytes : List ℕ) (r : Result Reading Refusal) → Says bytes r → config_in r ≡ config_by bytes
config_says bytes (Ok r) h = rw h.accepted (ap (λ c. Some (c, r.passed)) h.config ∙ ap (λ n. Some (config_of (effects bytes), n)) h.passed)
config_says bytes (Err r) h = rw h refl

device_in : List ℕ → Option (Config × ℕ) → Option Loaded
device_in name None = None
device_in name (Some c) = Some (record { file = name; config = c.0; passed = c.1 })

device_by : (f : TextFile) → device_in f.name (config_by f.bytes) ≡ device_of f
unfolding device_in
device_by f = elim (is_some (refusal (effects f.bytes))) as (λ b. device_in f.name (cond b None (Some (config_of (effects f.bytes), passed (effects f.bytes)))) ≡ cond b None (Some (loaded_file f))) [ true ↦ refl | false ↦ refl ]

pub device_read : (f : TextFile) (r : Reading) → config_in (Ok r) ≡ config_by f.bytes → Some (record { file = f.name; config = r.config; passed = r.passed }) ≡ device_of f
unfolding device_in
device_read f r h = ap (device_in f.name) h ∙ device_by f

pub device_refused : (f : TextFile) (r : Refusal) → config_in (Err r) ≡ config_by f.bytes → ◌≡◌ {A = Option Loaded} None (device_of f)
unfolding device_in
device_refused f r h = ap (device_in f.name) h ∙ device_by f
