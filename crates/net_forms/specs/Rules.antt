-- What the functions of a device's translation rules stand for.
use Rattle.std.specs.Prelude.{ℕ, ◌≡◌, ◌<◌, List, Option}
use Rattle.cube_diagram.specs.Functions.{Functions, count_of, value_at}
use Rattle.hdr_bits.specs.declared.header.Header.{Header}
use Rattle.hdr_bits.specs.HeaderBits.{number, IsHeader}
use Rattle.nat_static.specs.Rules.{rule_from_outside, rule_from_inside, outer_from_outside, outer_from_inside}
use Rattle.net_types.specs.declared.config.NatRule.{NatRule}
use Rattle.net_forms.specs.declared.forms.RuleForms.{RuleForms}

-- a function that tells each header the rule
pub record TellsRule (fs : Functions) (f : ℕ) (rule : Header → Option ℕ) : Type 0 where
  pub below : f < count_of fs
  pub exact : (h : Header) → IsHeader h → value_at fs f (number h) ≡ rule h

-- each tells the rule that replaces one side of a header from one direction
pub record AreRuleForms (fs : Functions) (nat : List NatRule) (r : RuleForms) : Type 0 where
  pub outside : TellsRule fs r.outside (rule_from_outside nat)
  pub outer_outside : TellsRule fs r.outer_outside (outer_from_outside nat)
  pub inside : TellsRule fs r.inside (rule_from_inside nat)
  pub outer_inside : TellsRule fs r.outer_inside (outer_from_inside nat)
