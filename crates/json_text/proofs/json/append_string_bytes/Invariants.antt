use Rattle.std.proofs.Common.{◌≡◌, ◌++◌, take, flat_map}
use Rattle.json_text.specs.Json.{string_byte}
use Rattle.json_text.proofs.json.append_string_bytes.Given as goal

abbrev pub invariant-loop-b : goal.invariant-loop-b
invariant-loop-b l = l.out.items ≡ l.fn.out.items ++ flat_map string_byte (take l.b-index l.text)
