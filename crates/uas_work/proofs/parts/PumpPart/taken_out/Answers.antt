use Rattle.std.proofs.Common.{Option, ◌∙◌}
use Rattle.scsi_cmd.specs.declared.Reply.{Reply}
use Rattle.shared_machine.specs.declared.Step.TheVariants.{Take}
use Rattle.tag_desk.specs.Seats.{MadeDesk}
use Rattle.uas_work.specs.Booked.{booked_step}
use Rattle.uas_work.specs.Held.{Pump}
use Rattle.uas_work.proofs.Homes.{out_accounted}
use Rattle.uas_work.proofs.Numbers.{out_number}
use Rattle.uas_work.proofs.parts.PumpPart.taken_out.Goals as goal

pub returns-clause-part : goal.returns-clause-part
returns-clause-part c =
    let desk : MadeDesk = c.args.shared.now.desk in
    let reply : Option Reply = (booked_step c.args.booked.now (Take c.args.client)).1.reply in
    let old : Pump = record { seat = c.args.self.now.seat; held = c.args.self.now.held } in
    let new : Pump = record { seat = c.pump_out.new.seat; held = c.pump_out.new.held } in
    record {
      own = c.pump_out.ensures.own;
      number = out_number c.pump_out.result reply old new c.pump_out.ensures.answered c.pump_out.ensures.gave_up ∙ c.requires.part.number;
      held = c.pump_out.ensures.held;
      whole = out_accounted c.pump_out.result desk reply old new c.requires.part.own.0 c.requires.part.whole c.pump_out.ensures.answered c.pump_out.ensures.gave_up;
      bell = c.requires.part.bell;
    }
