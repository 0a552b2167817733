use Rattle.std.proofs.Common.{refl}
use Rattle.usbredir.specs.Device.{bulk_answer_text, endpoint_info_text}
use Rattle.usbredir.specs.Hello.{hello_text}
use Rattle.usbredir.specs.Kinds.{head_text, hello_head_text}
use Rattle.usbredir.proofs.rows.rows_are_written.Goals as goal

pub returns-clause-hello : goal.returns-clause-hello
unfolding bulk_answer_text endpoint_info_text hello_text head_text hello_head_text
returns-clause-hello c = refl

pub returns-clause-streams : goal.returns-clause-streams
unfolding bulk_answer_text endpoint_info_text hello_text head_text hello_head_text
returns-clause-streams c = λ id. refl

pub returns-clause-command : goal.returns-clause-command
unfolding bulk_answer_text endpoint_info_text hello_text head_text hello_head_text
returns-clause-command c = λ id. refl

pub returns-clause-status : goal.returns-clause-status
unfolding bulk_answer_text endpoint_info_text hello_text head_text hello_head_text
returns-clause-status c = λ id. refl

pub returns-clause-read : goal.returns-clause-read
unfolding bulk_answer_text endpoint_info_text hello_text head_text hello_head_text
returns-clause-read c = λ id. refl

pub returns-clause-out : goal.returns-clause-out
unfolding bulk_answer_text endpoint_info_text hello_text head_text hello_head_text
returns-clause-out c = λ id. refl

pub returns-clause-stall : goal.returns-clause-stall
unfolding bulk_answer_text endpoint_info_text hello_text head_text hello_head_text
returns-clause-stall c = λ id. refl

pub returns-clause-cancelled : goal.returns-clause-cancelled
unfolding bulk_answer_text endpoint_info_text hello_text head_text hello_head_text
returns-clause-cancelled c = λ id. refl

pub returns-clause-endpoints : goal.returns-clause-endpoints
unfolding bulk_answer_text endpoint_info_text hello_text head_text hello_head_text
returns-clause-endpoints c = λ id. refl
