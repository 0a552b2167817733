-- What a step of the command pipe tells.
use Rattle.std.proofs.Common.{◌≡◌, ℕ, ◌+◌, ◌^◌, Bool, true, false, List, Option, Some, None, refl, sym, ap, subst, ◌∙◌, ◌⊎◌, inl, inr}
use Rattle.std.specs.Prelude.{not, ◌&&◌, if◌then◌else◌, option_map}
use Rattle.std.proofs.Math.Nat.{mod-mod}
use Rattle.std.proofs.lemmas.Option.{none-some, same_Some}
use Rattle.guest_memory.specs.declared.rings.context.Home.{Home}
use Rattle.guest_memory.specs.declared.rings.context.Front.{Front}
use Rattle.guest_memory.specs.declared.rings.context.Found.{Found}
use Rattle.guest_memory.specs.declared.rings.context.Found.TheVariants.{WrongKind, NotYet, Item}
use Rattle.guest_memory.specs.declared.rings.trb.Flags.{Flags}
use Rattle.guest_memory.specs.declared.rings.trb.PipeTrb.{PipeTrb}
use Rattle.guest_memory.specs.declared.rings.trb.PipeTrb.TheVariants.{Normal, Link, NoOp, EventData, Foreign}
use Rattle.guest_memory.specs.rings.Ends.{looked}
use Rattle.guest_memory.specs.rings.Wanted.{home_range}
use Rattle.guest_pipes.specs.declared.acted.Acted.{Acted}
use Rattle.guest_pipes.specs.declared.progress.Ending.{Ending}
use Rattle.guest_pipes.specs.declared.progress.Ending.TheVariants.{Runs, Told, Owed}
use Rattle.guest_pipes.specs.Gate.{gate}
use Rattle.guest_pipes.specs.Progress.{runs}
use Rattle.guest_pipes.specs.Step.{World, about, filled, with_progress}
use Rattle.guest_tags.specs.declared.buffer.Buffer.{Buffer}
use Rattle.guest_tags.specs.Devices.{Kind}
use Rattle.guest_tags.specs.Wanted.{buffer_of}
use Rattle.guest_out.specs.Command.{command_acted, command_after, command_at, command_count, command_drawn, command_gathered, command_last, command_lost, command_normal, command_other, command_ran, command_through, received_if, unit_received}
use Rattle.guest_out.specs.Immediate.{bytes_out, tallied}
use Rattle.guest_out.specs.Worlds.{OutWorld}
use Rattle.td_laws.specs.Places.{AreApart, event_range, front_of, let_through}
use Rattle.td_laws.specs.OutTold.{CommandEventEach, CommandResidualsAddUp, command_stepped}
use Rattle.td_laws.specs.Told.{Counts, HasTold, Tells, edtla_behind}
use Rattle.td_laws.proofs.Fronts.{looked_home}
use Rattle.td_laws.proofs.RingTells.{TellsOf, failed-tells, filled-counts, filled-tells, no_buffer, other-tells, skipped-edtla, skipped-tells}
use Rattle.guest_tags.specs.declared.device.Received.{Received}

module _ {D : Type 0} (kind : Kind D) where
  -- what the TRB in front was told as
  abbrev TellsWhole : OutWorld D → World → Front → Buffer → Type 0
  TellsWhole w new front buffer =
      Tells buffer.flags.ioc w.ring.events new (about w.ring.consumer front.cursor.place 0 1) buffer.flags.bei
      × Counts new.consumer.progress 0 (edtla_behind buffer.flags.chain (w.ring.consumer.progress.edtla + buffer.length))

  abbrev TellsMissing : OutWorld D → World → Front → Buffer → Type 0
  TellsMissing w new front buffer =
      HasTold w.ring.events new (about w.ring.consumer front.cursor.place buffer.length 2) buffer.flags.bei × (bytes_out w.ring.memory buffer 0 (command_count kind w buffer) ≡ None)

  abbrev AddsUp : OutWorld D → OutWorld D → Front → Buffer → Type 0
  AddsUp w new front buffer = TellsWhole w new.ring front buffer ⊎ TellsMissing w new.ring front buffer

  received_if-ring : (last : Bool) (v : OutWorld D) → (received_if kind last v).0.ring ≡ v.ring
  unfolding unit_received
  received_if-ring true v = refl
  received_if-ring false v = refl

  drawn-told : (bytes : Option (List ℕ)) (w : OutWorld D) (front : Front) (buffer : Buffer) → bytes_out w.ring.memory buffer 0 (command_count kind w buffer) ≡ bytes
      → AreApart (event_range w.ring.events) (home_range front.home) → AddsUp w (command_drawn kind bytes w front buffer).0 front buffer
  unfolding command_lost command_gathered
  drawn-told None w front buffer lacks apart = inr (failed-tells w.ring front buffer.length buffer.flags apart, lacks)
  drawn-told (Some bytes) w front buffer drawn apart =
      let v = with_progress w.ring (tallied w.ring.consumer.progress buffer.length) in
      let told : TellsWhole w (filled v front buffer.flags) front buffer = (
        filled-tells v front buffer.flags apart,
        filled-counts v front buffer.flags (w.ring.consumer.progress.edtla + buffer.length) (mod-mod (w.ring.consumer.progress.edtla + buffer.length) (2 ^ 24)),
      ) in
      inl (subst (λ (ring : World). TellsWhole w ring front buffer)
      (sym (received_if-ring (not buffer.flags.chain) (command_gathered kind w bytes front buffer))) told)

  normal-told : (ending : Ending) (w : OutWorld D) (front : Front) (buffer moved : Buffer) → (if runs ending then Some buffer else None) ≡ Some moved
      → AreApart (event_range w.ring.events) (home_range front.home) → AddsUp w (command_normal kind ending w front buffer).0 front moved
  unfolding command_ran
  normal-told Runs w front buffer moved is apart =
      let same : buffer ≡ moved = same_Some buffer moved is in
      subst (λ (b : Buffer). AddsUp w (command_normal kind Runs w front buffer).0 front b) same
      (drawn-told (bytes_out w.ring.memory buffer 0 (command_count kind w buffer)) w front buffer refl apart)
  normal-told (Told code) w front buffer moved is apart = absurd (none-some moved is)
  normal-told Owed w front buffer moved is apart = absurd (none-some moved is)

  acted-told : (found : Found) (w : OutWorld D) (front : Front) (buffer : Buffer) → (if runs w.ring.consumer.progress.ending then buffer_of found else None) ≡ Some buffer
      → AreApart (event_range w.ring.events) (home_range front.home) → AddsUp w (command_acted kind w front found).0 front buffer
  acted-told WrongKind w front buffer is apart = no_buffer (runs w.ring.consumer.progress.ending) buffer is
  acted-told NotYet w front buffer is apart = no_buffer (runs w.ring.consumer.progress.ending) buffer is
  acted-told (Item (Normal pointer length flags)) w front buffer is apart =
      normal-told w.ring.consumer.progress.ending w front (record { pointer = pointer; length = length; flags = flags }) buffer is apart
  acted-told (Item (Link pointer toggle flags)) w front buffer is apart = no_buffer (runs w.ring.consumer.progress.ending) buffer is
  acted-told (Item (NoOp flags)) w front buffer is apart = no_buffer (runs w.ring.consumer.progress.ending) buffer is
  acted-told (Item (EventData parameter flags)) w front buffer is apart = no_buffer (runs w.ring.consumer.progress.ending) buffer is
  acted-told (Item Foreign) w front buffer is apart = no_buffer (runs w.ring.consumer.progress.ending) buffer is

  -- a step that is let through is taken on what was found
  stepped_on : (w : OutWorld D) (home : Home) (front : Front) (P : OutWorld D → Type 0) → front_of w.ring home ≡ Some front
      → (front.home ≡ home → P (command_at kind w front).0) → P (command_stepped kind home w)
  stepped_on w home front P found holds =
      by_gate (gate w.ring.memory w.ring.events w.ring.consumer) (looked w.ring.memory home) (looked_home w.ring.memory home) found
    where
      by_gate : (opens : Option (Option Acted)) (finds : Option Front) → ((f : Front) → finds ≡ Some f → f.home ≡ home) → let_through opens finds ≡ Some front
          → P (command_after kind w (command_through kind w opens (option_map (command_at kind w) finds))).0
      by_gate None finds homes is = absurd (none-some front is)
      by_gate (Some None) None homes is = absurd (none-some front is)
      by_gate (Some None) (Some f) homes is =
          let same : f ≡ front = same_Some f front is in
          subst (λ (g : Front). P (command_at kind w g).0) (sym same) (holds (subst (λ (g : Front). g.home ≡ home) same (homes f refl)))
      by_gate (Some (Some acted)) finds homes is = absurd (none-some front is)

  pub command_residuals_add_up : CommandResidualsAddUp kind
  command_residuals_add_up w home front buffer found is apart =
      stepped_on w home front (λ (new : OutWorld D). AddsUp w new front buffer) found
      (λ same. acted-told front.found w front buffer is (subst (λ (h : Home). AreApart (event_range w.ring.events) (home_range h)) (sym same) apart))

  -- the device receives beside the ring
  last-tells : (trb : PipeTrb) (flags : Flags) (w : OutWorld D) (front : Front) → buffer_of (Item trb) ≡ None → AreApart (event_range w.ring.events) (home_range front.home)
      → TellsOf trb w.ring front (command_last kind w front trb flags).0.ring
  last-tells trb flags w front is apart =
      subst (λ (ring : World). TellsOf trb w.ring front ring)
      (sym (received_if-ring (runs w.ring.consumer.progress.ending && not flags.chain) (command_other kind w front trb))) (other-tells trb w.ring front is apart)

  skips : (ending : Ending) (w : OutWorld D) (front : Front) (buffer : Buffer) → (if runs ending then Some buffer else None) ≡ None
      → command_normal kind ending w front buffer ≡ command_normal kind (Told 2) w front buffer
  skips Runs w front buffer is = absurd (none-some buffer (sym is))
  skips (Told code) w front buffer is = refl
  skips Owed w front buffer is = refl

  acted-tells : (trb : PipeTrb) (w : OutWorld D) (front : Front) → (if runs w.ring.consumer.progress.ending then buffer_of (Item trb) else None) ≡ None
      → AreApart (event_range w.ring.events) (home_range front.home) → TellsOf trb w.ring front (command_acted kind w front (Item trb)).0.ring
  acted-tells (Normal pointer length flags) w front is apart =
      let buffer : Buffer = record { pointer = pointer; length = length; flags = flags } in
      subst (λ (done : OutWorld D × Received). TellsOf (Normal pointer length flags) w.ring front done.0.ring)
      (sym (skips w.ring.consumer.progress.ending w front buffer is)) (skipped-tells w.ring front length flags apart, skipped-edtla w.ring front length flags)
  acted-tells (Link pointer toggle flags) w front is apart = other-tells (Link pointer toggle flags) w.ring front refl apart
  acted-tells (NoOp flags) w front is apart = last-tells (NoOp flags) flags w front refl apart
  acted-tells (EventData parameter flags) w front is apart = last-tells (EventData parameter flags) flags w front refl apart
  acted-tells Foreign w front is apart = other-tells Foreign w.ring front refl apart

  pub command_event_each : CommandEventEach kind
  command_event_each w home front trb found is moves apart =
      stepped_on w home front (λ (new : OutWorld D). TellsOf trb w.ring front new.ring) found
      (λ same. subst (λ (f : Found). TellsOf trb w.ring front (command_acted kind w front f).0.ring) (sym is)
      (acted-tells trb w front (sym (ap (λ (f : Found). if runs w.ring.consumer.progress.ending then buffer_of f else None) is) ∙ moves)
      (subst (λ (h : Home). AreApart (event_range w.ring.events) (home_range h)) (sym same) apart)))
