-- The changes of a window, step by step over what the files tell.
use Rattle.std.specs.Prelude.{◌≡◌, ℕ, ◌+◌, ◌<◌, ◌≤◌, Bool, List, [], ◌∷◌, ◌++◌, Option, None, Some, Result, Ok, Err, map, length, fold, if◌then◌else◌}
use Rattle.std.specs.List.{list_any}
use Rattle.std.specs.Str.{bytes_eq}
use Rattle.net_types.specs.declared.config.Loaded.{Loaded}
use Rattle.net_io.specs.Files.{Told, content}
use Rattle.topo_links.specs.Twice.{address_twice}
use Rattle.net_load.specs.Limits.{folder_limit}
use Rattle.rollout_steps.specs.declared.reading.StepLine.{StepLine}
use Rattle.rollout_steps.specs.declared.refusal.StepRefusal.{StepRefusal}
use Rattle.rollout_steps.specs.declared.refusal.StepRefusal.TheVariants as refusal
use Rattle.rollout_steps.specs.declared.refusal.StepsFail.{StepsFail}
use Rattle.rollout_steps.specs.declared.refusal.StepsFail.TheVariants as fail
use Rattle.rollout_steps.specs.Refusals.{refusal_text, refused}
use Rattle.job_core.specs.declared.stop.Stop.{Stop}
use Rattle.job_core.specs.declared.stop.Stop.TheVariants as stop
use Rattle.job_core.specs.Steps.{Then, GivesBytes}
use Rattle.job_inputs.specs.Configs.{SaysConfig}
use Rattle.window_core.specs.declared.base.Base.{Base}
use Rattle.window_core.specs.declared.change.Change.{Change}

-- ---- networks

abbrev pub is_same_host : Loaded → Loaded → Bool
is_same_host changed device = bytes_eq device.config.hostname changed.config.hostname

-- the device of that hostname, replaced
abbrev pub device_after : Loaded → Loaded → Loaded
device_after changed device = if is_same_host changed device then changed else device

abbrev pub devices_after : Loaded → List Loaded → List Loaded
devices_after changed devices = map (device_after changed) devices

-- the network after several changes, one after the other
abbrev pub network_after : List Loaded → List Loaded → List Loaded
network_after changes devices = fold (λ ds changed. devices_after changed ds) devices changes

-- ---- what is read of a step

-- the changed files have no more bytes together than the configurations of a folder may have
abbrev pub IsWithin : List ℕ → ℕ → Result ℕ Stop → Type 0
IsWithin path sum (Ok total) = (total ≡ sum) × (sum ≤ folder_limit)
IsWithin path sum (Err (stop.TooLong p)) = (p ≡ path) × (folder_limit < sum)
IsWithin path sum (Err stop.NoMemory) = Unit {0}
IsWithin path sum (Err _) = ⊥

-- a configuration, with how many bytes there are together
abbrev pub WithTotal : List ℕ → List ℕ → ℕ → Result Change Stop → Type 0
WithTotal file bytes total = Then (SaysConfig file bytes) (λ changed result. result ≡ Ok (record { device = changed; total = total }))

-- a file of these bytes behind files of so many: all together within the limit, which is that of the window at its path, and
-- then a configuration
abbrev pub SaysChange : List ℕ → ℕ → List ℕ → List ℕ → Result Change Stop → Type 0
SaysChange path sum file bytes = Then (IsWithin path (sum + length bytes)) (WithTotal file bytes)

-- the file of a step
abbrev pub ReadsChange : Told → List ℕ → ℕ → StepLine → Result Change Stop → Type 0
ReadsChange t path sum step = Then (GivesBytes (λ bytes. bytes) step.path (content t step.path)) (SaysChange path sum step.path)

-- ---- how it is judged

abbrev pub twice_fault : ℕ → Option (List ℕ) → Option StepsFail
twice_fault n None = None
twice_fault n (Some address) = Some (fail.Refused refusal.AddressTwice n address)

-- what is wrong with a configuration that replaces one, if anything is: the network has no device of its hostname; or an address
-- stands twice in the network after it
abbrev pub change_fault : Base → List Loaded → ℕ → Loaded → Option StepsFail
change_fault base after n changed =
    if list_any (is_same_host changed) base.devices
    then twice_fault n (address_twice after base.table.lines)
    else Some (refused refusal.UnknownDevice n changed.config.hostname)

-- a step is refused, at its line of the window
abbrev pub StepFails : List ℕ → Option StepsFail → Stop → Type 0
StepFails path fault (stop.Refused p n k word) =
    (p ≡ path) × (kind : StepRefusal) × (k ≡ refusal_text kind) × (fault ≡ Some (fail.Refused kind n word))
StepFails path fault stop.NoMemory = Unit {0}
StepFails path fault _ = ⊥

-- a change as it stands, or why it is refused
abbrev pub IsJudged : {T : Type 0} → List ℕ → Option StepsFail → (T → Type 0) → Result T Stop → Type 0
IsJudged path fault Is (Ok x) = Is x × (fault ≡ None)
IsJudged path fault Is (Err s) = StepFails path fault s

-- a change behind others is judged in the network after it
abbrev pub Judges : List ℕ → Base → List Loaded → ℕ → Change → Result Change Stop → Type 0
Judges path base before n change =
    IsJudged path (change_fault base (devices_after change.device (network_after before base.devices)) n change.device) (λ x. x ≡ change)

-- ---- the whole

-- a step behind those before it: its file is read, and then judged in the network after it
abbrev pub GivesChange : Told → List ℕ → Base → List Loaded → ℕ → StepLine → Result Change Stop → Type 0
GivesChange t path base before sum step = Then (ReadsChange t path sum step) (Judges path base before step.line)

-- the changes as they stand
abbrev pub AreAll : List Loaded → Result (List Loaded) Stop → Type 0
AreAll before (Ok changes) = changes ≡ before
AreAll before (Err stop.NoMemory) = Unit {0}
AreAll before (Err _) = ⊥

-- the steps one after the other, behind changes whose files have so many bytes together; the first that is none stops the job
abbrev pub GivesChanges : Told → List ℕ → Base → List Loaded → ℕ → List StepLine → Result (List Loaded) Stop → Type 0
GivesChanges t path base before sum [] result = AreAll before result
GivesChanges t path base before sum (step ∷ steps) result =
    Then (GivesChange t path base before sum step) (λ change r. GivesChanges t path base (before ++ change.device ∷ []) change.total steps r) result
