-- A device that notes does what it does without its notes.
use Rattle.std.specs.Prelude.{◌≡◌, ℕ, option_map}
use Rattle.guest_memory.specs.declared.rings.context.Home.{Home}
use Rattle.guest_pipes.specs.declared.acted.Acted.{Acted}
use Rattle.guest_tags.specs.DataIn.{stepped_in}
use Rattle.guest_tags.specs.Devices.{Kind}
use Rattle.guest_tags.specs.Tags.{TagWorld}
use Rattle.guest_out.specs.DataOut.{stepped_out}
use Rattle.guest_out.specs.Worlds.{OutWorld}
use Rattle.td_laws.specs.Noting.{Noted, noting}

module _ {D : Type 0} where
  -- without the notes
  abbrev pub forgotten : TagWorld (Noted D) → TagWorld D
  forgotten w = record { ring = w.ring; tag = w.tag; device = w.device.device }

  abbrev pub out_forgotten : OutWorld (Noted D) → OutWorld D
  out_forgotten w = record { ring = w.ring; taken = w.taken; device = w.device.device }

  abbrev pub NotesAreBeside : Kind D → Type 0
  NotesAreBeside kind =
      (w : TagWorld (Noted D)) (number : ℕ) (home : Home)
      → option_map (λ (done : TagWorld (Noted D) × Acted). (forgotten done.0, done.1)) (stepped_in (noting kind) w number home)
      ≡ stepped_in kind (forgotten w) number home

  abbrev pub OutNotesAreBeside : Kind D → Type 0
  OutNotesAreBeside kind =
      (w : OutWorld (Noted D)) (number : ℕ) (home : Home)
      → option_map (λ (done : OutWorld (Noted D) × Acted). (out_forgotten done.0, done.1)) (stepped_out (noting kind) w number home)
      ≡ stepped_out kind (out_forgotten w) number home
