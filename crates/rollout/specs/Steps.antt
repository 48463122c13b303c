-- A change window: configurations are replaced one after the other, and each network in between is asked.
use Rattle.std.specs.Prelude.{ℕ, ◌≡◌, ◌==◌, ◌+◌, List, [], ◌∷◌, ◌++◌, All, map, length, if◌then◌else◌}
use Rattle.hdr_bits.specs.declared.header.Header.{Header}
use Rattle.net_types.specs.declared.network.Links.{Links}
use Rattle.net_types.specs.declared.network.NetDevice.{NetDevice}
use Rattle.net_types.specs.declared.network.Network.{Network}
use Rattle.net_types.specs.declared.question.Answer.TheVariants as answer
use Rattle.net_types.specs.declared.question.Question.{Question}
use Rattle.net_types.specs.Questions.{IsAnswer}
use Rattle.net_types.specs.World.{World}
use Rattle.rollout.specs.declared.network.Step.{Step}
use Rattle.rollout.specs.declared.steps.RolloutAnswer.{RolloutAnswer}
use Rattle.rollout.specs.declared.steps.RolloutAnswer.TheVariants as rollout

-- the device of that name, replaced
abbrev pub device_after : NetDevice → NetDevice → NetDevice
device_after change device = if device.name == change.name then change else device

abbrev pub network_after : NetDevice → Network → Network
network_after change network = record { devices = map (device_after change) network.devices }

-- the second network of the step is the one after the change, and has the links of the first
pub record IsStep (s : Step) : Type 0 where
  pub network : s.networks.new.network.now ≡ network_after s.change.now s.networks.old.network.now
  pub links : s.networks.old.links.now ≡ s.networks.new.links.now

-- *Steps*: the network before all changes, and the one after each of them
abbrev pub networks : Network → List NetDevice → List Network
networks base [] = base ∷ []
networks base (change ∷ changes) = base ∷ networks (network_after change base) changes

abbrev pub world : Links → Network → World
world links network = record { network = network; links = links }

-- each question holds
abbrev pub AllHold : ℕ → List Question → World → Type 0
AllHold t questions w = All (λ q. IsAnswer w t q answer.Holds) questions

-- some question fails, and this is the first, by its number from 1, with the least header that breaks it
pub record FirstFails (t : ℕ) (questions : List Question) (number : ℕ) (h : Header) (w : World) : Type 0 where
  pub before : List Question
  pub question : Question
  pub after : List Question
  pub are : questions ≡ before ++ question ∷ after
  pub hold : AllHold t before w
  pub counted : number ≡ length before + 1
  pub fails : IsAnswer w t question (answer.Fails h)

-- some network fails, and this is the first, by the number of the steps before it
pub record FirstStepFails (t : ℕ) (questions : List Question) (worlds : List World) (step number : ℕ) (h : Header) : Type 0 where
  pub before : List World
  pub world : World
  pub after : List World
  pub are : worlds ≡ before ++ world ∷ after
  pub hold : All (AllHold t questions) before
  pub counted : step ≡ length before
  pub fails : FirstFails t questions number h world

-- each question holds in each network, or the first step at which one fails, with the first question that does
abbrev pub IsRolloutAnswer : ℕ → List Question → List World → RolloutAnswer → Type 0
IsRolloutAnswer t questions worlds rollout.Holds = All (AllHold t questions) worlds
IsRolloutAnswer t questions worlds (rollout.Fails step number h) = FirstStepFails t questions worlds step number h
