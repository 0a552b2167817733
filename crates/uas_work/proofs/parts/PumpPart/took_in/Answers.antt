use Rattle.std.proofs.Common.{ℕ, ◌∙◌}
use Rattle.tag_desk.specs.Seats.{MadeDesk}
use Rattle.uas_work.specs.Booked.{turns_in}
use Rattle.uas_work.specs.Held.{Pump}
use Rattle.uas_work.proofs.Homes.{in_accounted}
use Rattle.uas_work.proofs.Numbers.{in_number}
use Rattle.uas_work.proofs.parts.PumpPart.took_in.Goals as goal

pub returns-clause-part : goal.returns-clause-part
returns-clause-part c =
    let desk : MadeDesk = c.args.shared.now.desk in
    let ticket : ℕ = turns_in c.args.client c.args.booked.now.log.steps in
    let old : Pump = record { seat = c.args.self.now.seat; held = c.args.self.now.held } in
    let new : Pump = record { seat = c.pump_in.new.seat; held = c.pump_in.new.held } in
    record {
      own = c.pump_in.ensures.own;
      number =
          in_number c.pump_in.result desk c.args.client ticket c.args.booked.now c.pump_in.new.booked old new c.pump_in.ensures.took
          c.pump_in.ensures.gave_up
          ∙ c.requires.part.number;
      held = c.pump_in.ensures.held;
      whole =
          in_accounted c.pump_in.result desk c.args.client ticket c.args.booked.now c.pump_in.new.booked old new c.requires.part.own.0
          c.requires.part.held.count c.requires.part.whole c.pump_in.ensures.took c.pump_in.ensures.gave_up;
      bell = c.requires.part.bell;
    }
