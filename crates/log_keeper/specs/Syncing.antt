-- When a text is synced.
use Rattle.std.specs.Prelude.{ℕ, ◌==◌, ◌&&◌, nat_le, not, if◌then◌else◌, Bool}

-- after each so many steps; with 0 at the end alone
abbrev pub is_due : ℕ → ℕ → Bool
is_due every unsynced = not (every == 0) && nat_le every unsynced

-- the steps since the last sync, once these are written
abbrev pub unsynced_after : ℕ → ℕ → ℕ
unsynced_after every unsynced = if is_due every unsynced then 0 else unsynced
