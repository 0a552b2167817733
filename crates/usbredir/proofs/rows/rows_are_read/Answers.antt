use Rattle.std.proofs.Common.{refl}
use Rattle.usbredir.specs.Guest.{bulk_request_in, bulk_request_text}
use Rattle.usbredir.proofs.rows.rows_are_read.Goals as goal

pub returns-clause-streams : goal.returns-clause-streams
unfolding bulk_request_in bulk_request_text
returns-clause-streams c = λ id. refl

pub returns-clause-status : goal.returns-clause-status
unfolding bulk_request_in bulk_request_text
returns-clause-status c = λ id any. refl

pub returns-clause-command : goal.returns-clause-command
unfolding bulk_request_in bulk_request_text
returns-clause-command c = λ id any. refl

pub returns-clause-read : goal.returns-clause-read
unfolding bulk_request_in bulk_request_text
returns-clause-read c = λ id any. refl

pub returns-clause-out : goal.returns-clause-out
unfolding bulk_request_in bulk_request_text
returns-clause-out c = λ id any. refl

pub returns-clause-cancel : goal.returns-clause-cancel
unfolding bulk_request_in bulk_request_text
returns-clause-cancel c = λ id. refl
