-- Every event: of a TD, or of the controller's own command. Cited by the law of events and by the answers of the bus.
use Rattle.std.proofs.Common.{refl}
use Rattle.shared_machine.specs.declared.Completion.TheVariants.{CommandDone, DataDone, StatusDone, EngineDone}
use Rattle.bus_core.specs.WorldSteps.{EventsFit}
use Rattle.bus_core.proofs.event.RetiredSeen.{engine-event-fits}
use Rattle.bus_core.proofs.event.SeenCommands.{td-event-fits}

pub events-fit : EventsFit
events-fit state world (CommandDone place) rest fits is = td-event-fits state world (CommandDone place) rest refl fits is
events-fit state world (DataDone place) rest fits is = td-event-fits state world (DataDone place) rest refl fits is
events-fit state world (StatusDone place) rest fits is = td-event-fits state world (StatusDone place) rest refl fits is
events-fit state world (EngineDone place) rest fits is = engine-event-fits state world place rest fits is
