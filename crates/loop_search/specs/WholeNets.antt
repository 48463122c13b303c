-- Networks of which each place has its ways for all headers.
use Rattle.std.specs.Prelude.{ℕ}
use Rattle.hdr_bits.specs.declared.header.Header.{Header}
use Rattle.cube_diagram.specs.Functions.{Functions}
use Rattle.set_walk.specs.declared.net.Net.{Net}
use Rattle.set_walk.specs.Sets.{InSet}
use Rattle.set_walk.specs.Nets.{IsNet}

-- the set has every header
abbrev pub HasAll : Functions → ℕ → Type 0
HasAll fs set = (h : Header) → InSet fs set h

-- the ways of a network, for the scope of all headers: a question may ask of any
pub record IsWholeNet (fs : Functions) (net : Net) : Type 0 where
  pub ways : IsNet fs net
  pub all : HasAll fs net.scope
