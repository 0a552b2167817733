use Rattle.machine_invariant.proofs.GoneByNote.{ends-earlier, gone-noted, noted-submitted, requests-stay}
use Rattle.machine_invariant.proofs.reach_laws.notes_reach_their_tickets.Goals as goal

pub returns-clause-gone : goal.returns-clause-gone
returns-clause-gone c = gone-noted

pub returns-clause-earlier : goal.returns-clause-earlier
returns-clause-earlier c = ends-earlier

pub returns-clause-same : goal.returns-clause-same
returns-clause-same c = requests-stay

pub returns-clause-noted : goal.returns-clause-noted
returns-clause-noted c = noted-submitted
