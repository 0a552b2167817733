use Rattle.std.proofs.Common.{◌≡◌, ◌≤◌, ℕ, List, length, take, Option, ap, inl, inr, refl, subst, sym, arith}
use Rattle.std.specs.Io.KnownBytes.{Consumes}
use Rattle.std.proofs.lemmas.List.{length-take-le}
use Rattle.std.proofs.lemmas.Result.{err_from_is_err_and}
use Rattle.serve_run.proofs.Answering.{write_answers}
use Rattle.serve_run.proofs.transmission.take.Goals as goal

-- the data of a WRITE, in the room where they were read
data_read : (count : ℕ) (items taken : List ℕ) (l ln : Option (List ℕ)) → items ≡ taken → count ≤ length taken
    → Consumes l ln (take count taken) → (length (take count items) ≡ count) × Consumes l ln (take count items)
data_read count items taken l ln same room heard =
    (length-take-le count items (omega (arith, room, ap length same)), subst (λ (xs : List ℕ). Consumes l ln (take count xs)) (sym same) heard)

pub returns-clause-served : goal.returns-clause-served
returns-clause-served g c =
    let read_in = data_read c.args.request.now.length c.deref.result.now c.read_data.new.taken.items _ _ c.deref.ensures.value
    c.in_ok-read_data.ensures.room c.in_ok-read_data.ensures.bytes in
    inr (write_answers _ _ _ _ _ c.args.request.now _ c.store-stored.result _ _ _ c.requires.served c.requires.command read_in.0
    c.store-stored.ensures.plain c.store-stored.ensures.bytes c.store-stored.ensures.safe c.store-stored.ensures.kept c.store-stored.ensures.len
    c.store-stored.ensures.fault read_in.1 (rw c.error_of.ensures at c.tell.ensures.sent))

pub returns-in_err-read_data-clause-served : goal.returns-in_err-read_data-clause-served
returns-in_err-read_data-clause-served g c =
    let p = err_from_is_err_and c.from_residual.result c.from_residual.ensures.1 in
    rw (p.1, p.2) (inl (refl, record { reason = c.in_err-read_data.field-0.0; is = refl; silent = refl; lacks = c.in_err-read_data.ensures.lacks }))
