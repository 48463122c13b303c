-- How the answer of a rollout is written.
use Rattle.std.specs.Prelude.{ℕ, Bool, true, false, List, ◌++◌, codes, decimal}
use Rattle.hdr_bits.specs.declared.header.Header.{Header}
use Rattle.report_text.specs.FieldText.{header_text}
use Rattle.rollout.specs.declared.steps.RolloutAnswer.{RolloutAnswer}
use Rattle.rollout.specs.declared.steps.RolloutAnswer.TheVariants as rollout

-- `networks N`
unfoldable pub networks_text : ℕ → List ℕ
networks_text count = codes "networks " ++ decimal count ++ codes "\n"

-- `step J question K fails HEADER`
unfoldable pub failure_text : ℕ → ℕ → Header → List ℕ
failure_text step question h =
    codes "step " ++ decimal step ++ codes " question " ++ decimal question ++ codes " fails " ++ header_text h ++ codes "\n"

-- `rollout holds`, or the first failure
abbrev pub answer_text : RolloutAnswer → List ℕ
answer_text rollout.Holds = codes "rollout holds\n"
answer_text (rollout.Fails step question h) = failure_text step question h

-- how many networks are asked, and the answer
abbrev pub rollout_text : ℕ → RolloutAnswer → List ℕ
rollout_text count answer = networks_text count ++ answer_text answer

abbrev pub fails : RolloutAnswer → Bool
fails rollout.Holds = false
fails (rollout.Fails step question h) = true
