-- What the audit of a network writes: its lists with their findings, as the text of an audit has them.
use Rattle.std.specs.Prelude.{ℕ, Bool, true, false, List}
use Rattle.hdr_bits.specs.declared.cube.Cube.{Cube}
use Rattle.net_types.specs.declared.config.AccessList.{AccessList}
use Rattle.report_text.specs.FieldText.{cube_text}
use Rattle.result_text.specs.AuditText.{Findings}
use Rattle.acl_audit.specs.declared.finding.Finding.{Finding}
use Rattle.acl_audit.specs.declared.finding.FindingKind.{FindingKind}
use Rattle.acl_audit.specs.declared.finding.FindingKind.TheVariants.{Dead, Redundant}
use Rattle.acl_audit.specs.declared.finding.Taken.{Taken}

-- a list of a file, with its findings
pub record Audited : Type 0 where
  pub file : List ℕ
  pub list : AccessList
  pub findings : List Finding

abbrev pub is_dead_kind : FindingKind → Bool
is_dead_kind Dead = true
is_dead_kind Redundant = false

abbrev pub is_dead : Finding → Bool
is_dead f = is_dead_kind f.kind

-- a row is written as its cube
abbrev pub audited_lists : Findings Audited Finding Taken Cube
audited_lists = record {
  file = λ a. a.file;
  name = λ a. a.list.name;
  findings = λ a. a.findings;
  sequence = λ f. f.sequence;
  is_dead = is_dead;
  taken = λ f. f.taken;
  by = λ t. t.sequence;
  rows = λ t. t.rows;
  row = cube_text;
}
