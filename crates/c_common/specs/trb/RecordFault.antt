-- The fault of a record, by the two numbers that its kind has for it.
use Rattle.std.specs.Prelude.{ℕ, Option, option_map}
use Rattle.std.specs.Option.{unwrap_or}
use Rattle.c_common.specs.declared.trb.fault.RecordFault.{RecordFault}
use Rattle.c_common.specs.declared.trb.fault.RecordFault.TheVariants.{Unknown, Unfit}

abbrev pub record_fault : ℕ → ℕ → RecordFault → ℕ
record_fault unknown unfit Unknown = unknown
record_fault unknown unfit Unfit = unfit

-- the fault of what may have no name, and else has one that tells its fault
abbrev pub fault_of : {X : Type 0} → ℕ → (X → ℕ) → Option X → ℕ
fault_of unknown fault named = unwrap_or (option_map fault named) unknown
