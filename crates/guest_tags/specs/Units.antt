-- An information unit on its way to the host.
use Rattle.std.specs.Prelude.{ℕ, List}

-- its bytes, and how many of them the TD in front has
pub record Outgoing : Type 0 where
  pub text : List ℕ
  pub sent : ℕ

abbrev pub whole : List ℕ → Outgoing
whole text = record { text = text; sent = 0 }
