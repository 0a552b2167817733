-- A step of the data-out pipe at a TRB as long as the device's next chunk.
use Rattle.std.proofs.Common.{◌≡◌, ℕ, ◌+◌, ◌-◌, ◌%◌, ◌^◌, ◌<◌, ◌==◌, min, nat_le, Bool, true, false, not, List, [], length as list_length, Some, None, refl, ap, arith}
use Rattle.std.proofs.lemmas.Bool.{eq-eqb, le-leb, lt-leb}
use Rattle.guest_memory.specs.Bytes.{Memory, bytes_from}
use Rattle.guest_memory.specs.declared.rings.cursor.Cursor.{Cursor}
use Rattle.guest_memory.specs.declared.rings.context.Home.{Home}
use Rattle.guest_memory.specs.declared.rings.context.Found.TheVariants.{Item}
use Rattle.guest_memory.specs.declared.rings.trb.Flags.{Flags}
use Rattle.guest_memory.specs.declared.rings.trb.PipeTrb.TheVariants.{Normal}
use Rattle.guest_memory.specs.rings.Ends.{looked}
use Rattle.guest_memory.specs.rings.Events.{EventEnd}
use Rattle.guest_pipes.specs.declared.acted.Acted.TheVariants.{Worked}
use Rattle.guest_pipes.specs.declared.progress.Progress.{Progress}
use Rattle.guest_pipes.specs.Gate.{gate}
use Rattle.guest_pipes.specs.Step.{World}
use Rattle.guest_tags.specs.declared.device.Phase.TheVariants.{Takes}
use Rattle.guest_tags.specs.Devices.{Kind}
use Rattle.guest_out.specs.Immediate.{bytes_out}
use Rattle.guest_out.specs.Worlds.{OutWorld}
use Rattle.guest_out.specs.DataOut.{out_gathered, out_handed, out_moved, out_ran, out_took, stepped_out}
use Rattle.guest_profile.proofs.InStep.{between, data_consumer, filled-went, moved_trb, went_world}

-- the same flags without IDT
abbrev pub plain_flags : Flags → Flags
plain_flags flags = record { chain = flags.chain; ioc = flags.ioc; isp = flags.isp; bei = flags.bei; idt = false }

module _ {D : Type 0} (kind : Kind D) where
  abbrev pub out_data : Memory → EventEnd → ℕ → Progress → D → OutWorld D
  out_data memory events endpoint progress device = record {
    ring = record { memory = memory; events = events; consumer = data_consumer endpoint progress };
    taken = [];
    device = device;
  }

  -- what is left of ring and consumer, by whether the device takes the chunk: at a bad block the TRB stays, with all its bytes moved
  abbrev pub took_world : Bool → Bool → Memory → EventEnd → ℕ → Home → Cursor → ℕ → ℕ → Bool → World
  took_world true chain memory events endpoint home cursor edtla length quiet = went_world chain memory events endpoint home cursor ((edtla + length) % 2 ^ 24) quiet
  took_world false chain memory events endpoint home cursor edtla length quiet =
      record { memory = memory; events = events; consumer = data_consumer endpoint (moved_trb edtla length) }

  pub out-whole : (memory : Memory) (events : EventEnd) (endpoint edtla : ℕ) (begun fed : Bool) (device : D) (number : ℕ) (home : Home) (cursor : Cursor)
      (pointer length : ℕ) (flags : Flags) (bytes : List ℕ) (fits : Bool)
      → gate memory events (data_consumer endpoint (between edtla begun fed)) ≡ Some None
      → looked memory home ≡ Some (record { home = home; cursor = cursor; found = Item (Normal pointer length flags) })
      → flags.ioc ≡ not flags.chain → flags.idt ≡ false → 0 < length → kind.phase device number ≡ Takes length → bytes_from memory pointer length ≡ Some bytes
      → list_length bytes ≡ length → kind.fits device number bytes ≡ fits
      → stepped_out kind (out_data memory events endpoint (between edtla begun fed) device) number home
      ≡ Some (
        record { ring = took_world fits flags.chain memory events endpoint home cursor edtla length flags.bei; taken = []; device = kind.took device number bytes },
        Worked,
      )
  unfolding out_ran out_moved out_gathered out_took out_handed bytes_out
  out-whole memory events endpoint edtla begun fed device number home cursor pointer length flags bytes true opens looks told plain some phase there size fits =
      let test : nat_le length 0 ≡ false = lt-leb length 0 some in
      let count : min (length - 0) (length - 0) ≡ length = omega arith in
      let at : pointer + 0 ≡ pointer = omega arith in
      let zero : 0 + length ≡ length = omega arith in
      let full : (length == length) ≡ true = eq-eqb length length refl in
      let all : nat_le length length ≡ true = le-leb length length (omega arith) in
      rw (opens, looks, test, phase, plain, count, at, there, size, full, fits, zero, all)
      (ap (λ (ring : World). Some (record { ring = ring; taken = []; device = kind.took device number bytes }, Worked))
      (filled-went memory events endpoint edtla length (record { home = home; cursor = cursor; found = Item (Normal pointer length (plain_flags flags)) }) (plain_flags flags) told))
  out-whole memory events endpoint edtla begun fed device number home cursor pointer length flags bytes false opens looks told plain some phase there size fits =
      let test : nat_le length 0 ≡ false = lt-leb length 0 some in
      let count : min (length - 0) (length - 0) ≡ length = omega arith in
      let at : pointer + 0 ≡ pointer = omega arith in
      let zero : 0 + length ≡ length = omega arith in
      let full : (length == length) ≡ true = eq-eqb length length refl in
      rw (opens, looks, test, phase, plain, count, at, there, size, full, fits, zero) refl
