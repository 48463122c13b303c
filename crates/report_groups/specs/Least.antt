-- The least header of a group.
use Rattle.std.specs.Prelude.{ℕ, ◌≡◌, ◌≤◌, ◌^◌, ◌%◌, true, List, [], ◌∷◌, fold, min}
use Rattle.hdr_bits.specs.declared.header.Header.{Header}
use Rattle.hdr_bits.specs.HeaderBits.{IsHeader, number}
use Rattle.report_groups.specs.declared.types.Group.{Group}
use Rattle.report_groups.specs.declared.types.Pattern.{Pattern}
use Rattle.report_groups.specs.Groups.{field_at}
use Rattle.report_groups.specs.Meaning.{is_in_group}

-- the least value of a field: the least digits of its patterns, where each bit that isn't fixed is 0
abbrev pub least_value : List Pattern → ℕ
least_value [] = 0
least_value (p ∷ ps) = fold (λ least q. min least q.bits) p.bits ps

-- the header of the least values. The law is `least_headers_are_least`
abbrev pub least_of : Group → Header
least_of g =
    record {
      dst = least_value (field_at 0 g);
      src = least_value (field_at 1 g);
      proto = least_value (field_at 2 g) % 2 ^ 8;
      dport = least_value (field_at 3 g) % 2 ^ 16;
      sport = least_value (field_at 4 g) % 2 ^ 16;
      flags = least_value (field_at 5 g) % 2 ^ 8;
    }

-- the header is in the group, and no header of the group has a smaller number
pub record IsLeast (g : Group) (h : Header) : Type 0 where
  pub inside : is_in_group h g ≡ true
  pub least : (i : Header) → IsHeader i → is_in_group i g ≡ true → number h ≤ number i
