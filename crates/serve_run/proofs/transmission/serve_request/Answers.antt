use Rattle.std.proofs.Common.{rules, ◌≡◌, ◌≢◌, ◌*◌, ◌∙◌, ℕ, ap}
use borrow.Author.Tests.{tests}
use Rattle.nbd.specs.declared.transmission.ErrorNumber.TheVariants as error
use Rattle.serve_run.proofs.Answering.{read_serves, refusal_serves, replies_serve}
use Rattle.serve_run.specs.Serves.{refusal_of}
use Rattle.serve_run.proofs.transmission.serve_request.Goals as goal

pub returns-then-ne-clause-served : goal.returns-then-ne-clause-served
returns-then-ne-clause-served g c =
    let is : c.refusal_of-refusal.result ≡ refusal_of (512 * c.args.disk.now) c.args.request.now =
    c.refusal_of-refusal.ensures ∙ ap (λ (n : ℕ). refusal_of n c.args.request.now) c.size.ensures.size in
    let denied : c.refusal_of-refusal.result ≢ error.None = search (rules, tests) in
    refusal_serves c.refuse.result _ _ _ _ _ _ c.args.request.now c.refusal_of-refusal.result _ _ _ _ is denied c.refuse.ensures.refused

pub returns-in-Read-clause-served : goal.returns-in-Read-clause-served
returns-in-Read-clause-served g c = read_serves c.give.result _ _ _ _ _ _ c.args.request.now _ _ _ c.in-Read.is c.give.ensures.answered

pub returns-in-Write-clause-served : goal.returns-in-Write-clause-served
returns-in-Write-clause-served g c = c.take.ensures.served

pub returns-in-Flush-clause-served : goal.returns-in-Flush-clause-served
returns-in-Flush-clause-served g c = replies_serve c.make_safe.result _ _ _ _ _ _ _ c.args.request.now _ _ _ c.make_safe.ensures.answered
