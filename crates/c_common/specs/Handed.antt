-- The memory that a call of a handle is handed, and hands back.
use Rattle.std.specs.Prelude.{ℕ, List}
use base.Fraction.{full_share}
use base.Fml.{Fml, fsep}
use denote.Array.{Array}
use denote.Builtin.{u8}
use denote.RattleType.{RattleType}
use denote.RawPtr.{Ptr, lies_at}

-- a value of the handle's type lies at the first pointer, a door at the second, and so many bytes at the third
abbrev pub handed : (T D : RattleType) → Ptr → Ptr → Ptr → ℕ → T.Denot × (D.Denot × List ℕ) → Fml
handed T D handle door bytes length had =
    fsep (lies_at T full_share handle had.0) (fsep (lies_at D full_share door had.1.0) (lies_at (Array u8 length) full_share bytes had.1.1))
