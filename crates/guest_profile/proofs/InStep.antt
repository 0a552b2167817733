-- A step of the data-in pipe at a TRB as long as the device's next chunk.
use Rattle.std.proofs.Common.{◌≡◌, ℕ, ◌+◌, ◌-◌, ◌%◌, ◌^◌, ◌<◌, ◌==◌, min, nat_le, Bool, true, false, not, List, [], length as list_length, take, drop, Some, None, refl, ap, ◌∙◌, arith}
use Rattle.std.proofs.lemmas.Bool.{eq-eqb, lt-leb, ne_eqb}
use Rattle.std.proofs.lemmas.List.{drop_all, take_all}
use Rattle.guest_memory.specs.Bytes.{Memory, is_there, written}
use Rattle.guest_memory.specs.declared.rings.cursor.Cursor.{Cursor}
use Rattle.guest_memory.specs.declared.rings.context.Home.{Home}
use Rattle.guest_memory.specs.declared.rings.context.Found.TheVariants.{Item}
use Rattle.guest_memory.specs.declared.rings.context.Front.{Front}
use Rattle.guest_memory.specs.declared.rings.trb.Flags.{Flags}
use Rattle.guest_memory.specs.declared.rings.trb.PipeTrb.TheVariants.{Normal}
use Rattle.guest_memory.specs.rings.Ends.{behind, home_at, home_bytes, looked}
use Rattle.guest_memory.specs.rings.Events.{EventEnd}
use Rattle.guest_pipes.specs.declared.acted.Acted.TheVariants.{Worked}
use Rattle.guest_pipes.specs.declared.consumer.Consumer.{Consumer}
use Rattle.guest_pipes.specs.declared.consumer.EndpointState.TheVariants.{Running}
use Rattle.guest_pipes.specs.declared.progress.Ending.TheVariants.{Runs}
use Rattle.guest_pipes.specs.declared.progress.Progress.{Progress}
use Rattle.guest_pipes.specs.Gate.{gate}
use Rattle.guest_pipes.specs.Step.{World, consumed, filled, poured, stood}
use Rattle.guest_tags.specs.declared.device.Phase.TheVariants.{Gives}
use Rattle.guest_tags.specs.declared.tag.Tag.{Tag}
use Rattle.guest_tags.specs.Devices.{Kind}
use Rattle.guest_tags.specs.Tags.{TagWorld}
use Rattle.guest_tags.specs.DataIn.{given_to, moved_in, ran, refilled, stepped_in}
use Rattle.guest_profile.proofs.TdStep.{filled-whole, told_world}

-- between two TRBs of a TD, or at its start: nothing was moved of the TRB in front, and its bytes move
abbrev pub between : ℕ → Bool → Bool → Progress
between edtla begun fed = record { moved = 0; ending = Runs; edtla = edtla; begun = begun; fed = fed }

abbrev pub data_consumer : ℕ → Progress → Consumer
data_consumer endpoint progress = record { endpoint = endpoint; state = Running; rung = true; progress = progress }

-- all of a TRB was moved
abbrev pub moved_trb : ℕ → ℕ → Progress
moved_trb edtla count = record { moved = count; ending = Runs; edtla = (edtla + count) % 2 ^ 24; begun = true; fed = true }

-- a TRB that is full, without an event, of a TD that goes on
abbrev pub passed_world : Memory → EventEnd → ℕ → Home → Cursor → ℕ → World
passed_world memory events endpoint home cursor edtla = record {
  memory = written memory (home_at home) (home_bytes home 1 (behind cursor));
  events = events;
  consumer = data_consumer endpoint (between edtla true true);
}

-- by the TRB's flags: the last of a TD posts its event
abbrev pub went_world : Bool → Memory → EventEnd → ℕ → Home → Cursor → ℕ → Bool → World
went_world true memory events endpoint home cursor edtla quiet = passed_world memory events endpoint home cursor edtla
went_world false memory events endpoint home cursor edtla quiet = told_world memory events endpoint home cursor 0 1 quiet

pub filled-went : (memory : Memory) (events : EventEnd) (endpoint edtla count : ℕ) (front : Front) (flags : Flags) → flags.ioc ≡ not flags.chain
    → filled (record { memory = memory; events = events; consumer = data_consumer endpoint (moved_trb edtla count) }) front flags
    ≡ went_world flags.chain memory events endpoint front.home front.cursor ((edtla + count) % 2 ^ 24) flags.bei
unfolding filled consumed stood
filled-went memory events endpoint edtla count front flags told = by_chain flags.chain refl
  where
    by_chain : (chain : Bool) → flags.chain ≡ chain
        → filled (record { memory = memory; events = events; consumer = data_consumer endpoint (moved_trb edtla count) }) front flags
        ≡ went_world chain memory events endpoint front.home front.cursor ((edtla + count) % 2 ^ 24) flags.bei
    by_chain true is = let quiet : flags.ioc ≡ false = told ∙ ap not is in rw (quiet, is) refl
    by_chain false is = filled-whole memory events endpoint (moved_trb edtla count) front flags is (told ∙ ap not is)

module _ {D : Type 0} (kind : Kind D) where
  abbrev pub in_tag : Memory → EventEnd → ℕ → Progress → Tag → D → TagWorld D
  in_tag memory events endpoint progress tag device = record {
    ring = record { memory = memory; events = events; consumer = data_consumer endpoint progress };
    tag = record tag { chunk = [] };
    device = device;
  }

  -- a bad block: the device met it, and nothing moved
  pub in-none : (memory : Memory) (events : EventEnd) (endpoint edtla : ℕ) (begun fed : Bool) (tag : Tag) (device : D) (number : ℕ) (home : Home) (cursor : Cursor)
      (pointer length : ℕ) (flags : Flags)
      → gate memory events (data_consumer endpoint (between edtla begun fed)) ≡ Some None
      → looked memory home ≡ Some (record { home = home; cursor = cursor; found = Item (Normal pointer length flags) })
      → 0 < length → kind.phase device number ≡ Gives length → kind.given device number ≡ None
      → stepped_in kind (in_tag memory events endpoint (between edtla begun fed) tag device) number home
      ≡ Some (in_tag memory events endpoint (between edtla begun fed) tag (kind.gave device number), Worked)
  unfolding ran refilled
  in-none memory events endpoint edtla begun fed tag device number home cursor pointer length flags opens looks some phase given =
      let test : nat_le length 0 ≡ false = lt-leb length 0 some in
      rw (opens, looks, test, phase, given) refl

  pub in-some : (memory : Memory) (events : EventEnd) (endpoint edtla : ℕ) (begun fed : Bool) (tag : Tag) (device : D) (number : ℕ) (home : Home) (cursor : Cursor)
      (pointer length : ℕ) (flags : Flags) (bytes : List ℕ)
      → gate memory events (data_consumer endpoint (between edtla begun fed)) ≡ Some None
      → looked memory home ≡ Some (record { home = home; cursor = cursor; found = Item (Normal pointer length flags) })
      → flags.ioc ≡ not flags.chain → 0 < length → kind.phase device number ≡ Gives length → kind.given device number ≡ Some bytes → list_length bytes ≡ length
      → is_there memory pointer length ≡ true
      → stepped_in kind (in_tag memory events endpoint (between edtla begun fed) tag device) number home
      ≡ Some (
        record {
          ring = went_world flags.chain (written memory pointer bytes) events endpoint home cursor ((edtla + length) % 2 ^ 24) flags.bei;
          tag = record tag { chunk = []; gave = true };
          device = kind.gave device number;
        },
        Worked,
      )
  unfolding ran refilled moved_in given_to poured
  in-some memory events endpoint edtla begun fed tag device number home cursor pointer length flags bytes opens looks told some phase given size there =
      let test : nat_le length 0 ≡ false = lt-leb length 0 some in
      let chunk : (list_length bytes == 0) ≡ false = ne_eqb _ 0 (λ e. omega (arith, some, size, e)) in
      let count : min (list_length bytes) (length - 0) ≡ length = omega (arith, size) in
      let at : pointer + 0 ≡ pointer = omega arith in
      let zero : 0 + length ≡ length = omega arith in
      let full : (length == length) ≡ true = eq-eqb length length refl in
      let all : take length bytes ≡ bytes = take_all length bytes (omega (arith, size)) in
      let none : drop length bytes ≡ [] = drop_all length bytes (omega (arith, size)) in
      rw (opens, looks, test, phase, given, chunk, count, at, there, zero, full, all, none, size, zero)
      (ap (λ (ring : World). Some (record { ring = ring; tag = record tag { chunk = []; gave = true }; device = kind.gave device number }, Worked))
      (filled-went (written memory pointer bytes) events endpoint edtla length (record { home = home; cursor = cursor; found = Item (Normal pointer length flags) }) flags told))
