use Rattle.std.proofs.Common.{rules}
use Rattle.usbredir.specs.Guest.{bulk_request_text, control_request_text}
use Rattle.usbredir.proofs.guest.packet_of.Goals as goal

pub returns-in-Control-clause-some : goal.returns-in-Control-clause-some
unfolding control_request_text
returns-in-Control-clause-some c = search rules

pub returns-in-Bulk-clause-some : goal.returns-in-Bulk-clause-some
unfolding bulk_request_text
returns-in-Bulk-clause-some c = search rules
