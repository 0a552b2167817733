-- What is left of a text that was cut.
use Rattle.std.specs.Prelude.{◌≡◌, ℕ, ◌+◌, ◌-◌, ◌==◌, nat_le, if◌then◌else◌, List, [], ◌∷◌, length, Err, Some, None}
use Rattle.log_text.specs.declared.LogFault.{LogFault}
use Rattle.kept_log.specs.declared.Entry.{Entry}
use Rattle.kept_log.specs.declared.KeptFault.TheVariants.{Head}
use Rattle.kept_log.specs.declared.Loaded.{Loaded}
use Rattle.kept_log.specs.Form.{Kept, entry_text, front_text, head_text}
use Rattle.kept_log.specs.LoadAt.{load_at}

-- the steps whose records lie whole in so many bytes
abbrev pub whole_in : ℕ → List Entry → List Entry
whole_in size [] = []
whole_in size (entry ∷ rest) =
    if nat_le (8 + length (entry_text entry)) size then entry ∷ whole_in (size - (8 + length (entry_text entry))) rest else []

-- the steps of a log whose records are whole in the first bytes of its text
abbrev pub whole_steps : ℕ → Kept → List Entry
whole_steps size kept = whole_in (size - length (head_text kept.tags kept.units)) kept.entries

-- A beginning of the log: these steps, and torn where the next record begins; cut between two records it isn't torn.
abbrev pub cut_log : ℕ → Kept → Loaded
cut_log size kept = record {
  log = record { tags = kept.tags; units = kept.units; entries = whole_steps size kept; ending = None };
  torn = if size == length (front_text kept.tags kept.units (whole_steps size kept)) then None else Some (length (front_text kept.tags kept.units (whole_steps size kept)));
}

-- a text whose head was cut off: it is refused for its head
pub record IsHeadless (text : List ℕ) : Type 0 where
  pub fault : LogFault
  pub refused : load_at text ≡ Err (Head fault)
